-- The steps of a pending update, in the machine.
use Rattle.std.proofs.Common.{◌≡◌, ℕ, suc, ◌+◌, ◌<◌, ◌≤◌, List, [], ◌∷◌, ◌++◌, Bool, true, false, cond, Option, Some, None, refl, sym, ap, ◌∙◌, arith, subst}
use Rattle.std.specs.Prelude.{Result, Ok, Err, OnOk, IfErr}
use Rattle.table_model.specs.declared.family.Family.{Family}
use Rattle.table_model.specs.Entries.{Entries}
use Rattle.poptrie_build.specs.Tries.{node_need, leaf_need}
use Rattle.poptrie_update.specs.Lives.{Living, Shows, Past, HasShapeOf, KeepsStores, is_pending, stores_left, made_of}
use Rattle.poptrie_update.specs.Fits.{Open, Fits}
use Rattle.poptrie_update.specs.declared.pending.Pending.{Pending}
use Rattle.poptrie_update.proofs.Opened.{kept_fits}
use Rattle.poptrie_update.specs.Cursors.{Dues}
use Rattle.step_script.specs.Rows.{stored, nothing, ended, left, cancelled, late}
use Rattle.step_script.specs.Machine.{World, State, Begun, Lookup, count_of, changes_family, changes_before, StoresOne, EndsEvent, Cancels}
use Rattle.router_steps.specs.Paused.{FamilyLive, shown_after, needs_before, IsUnderWay, IsFamilyState, IsAt}
use Rattle.router_steps.specs.Calls.{store_row, end_row}
use Rattle.router_steps.proofs.Trie.{own_begun, counted, kept_stores}

-- what a step of the trie keeps
pub record Keeps (l r : Living) : Type 0 where
  pub shape : HasShapeOf l r
  pub fits : (os : List Open) → Fits l os → Fits r os

-- ---- with what is begun at hand
module _ (w : World) (f : Family) (n : ℕ) (x : Begun) (lookups : Family → ℕ → Option Lookup) (p : FamilyLive) (due : Dues) (own : changes_family f (w.changed n) ≡ true) (h : IsFamilyState w f (record { ended = n; begun = Some x; lookups = lookups }) p due) (u : IsUnderWay p.live x) where
  all : stores_left p.live + x.made ≡ count_of x.stores
  all = ap (λ (m : ℕ). stores_left p.live + m) u.made ∙ (counted p.live _ _ h.trie.shows ∙ ap count_of (sym u.stores))

  after : w.routes (shown_after w f n (Some x)) ≡ w.routes (suc n)
  after = ap (λ (b : Bool). w.routes (cond b (suc n) n)) own

  later : suc (changes_before w f n) ≡ changes_before w f (suc n)
  unfolding changes_before
  later = let z : suc (changes_before w f n) ≡ 1 + changes_before w f n = omega arith in z ∙ ap (λ (b : Bool). cond b 1 0 + changes_before w f n) (sym own)

  grown : (need : Entries → ℕ) → needs_before w f need n ++ need (w.routes n) ∷ [] ≡ needs_before w f need (suc n)
  unfolding needs_before
  grown need = ap (λ (b : Bool). needs_before w f need n ++ cond b (need (w.routes n) ∷ []) []) (sym own)

  pub more : 0 < stores_left p.live → x.made < count_of x.stores
  more l = omega (arith, all, l)

  pub no_more : stores_left p.live ≡ 0 → count_of x.stores ≤ x.made
  no_more l = omega (arith, all, l)

  pub stored_in : (r : Living) → Keeps p.live r → r.selected.time ≡ p.live.selected.time → is_pending r ≡ true → made_of r ≡ suc (made_of p.live) → KeepsStores p.live r → ((L M : Entries) → Shows p.live L M → Shows r L M) → ((ns ls : List ℕ) → Past p.live ns ls → Past r ns ls) → IsFamilyState w f (record { ended = n; begun = Some (record x { made = suc x.made }); lookups = lookups }) (record { live = r; cursors = p.cursors }) due
  stored_in r keeps time waits made stays shows past = record {
    world = h.world;
    trie = record {
      family = keeps.shape.0 ∙ h.trie.family;
      direct = keeps.shape.1 ∙ h.trie.direct;
      few = h.trie.few;
      node_order = keeps.shape.2 ∙ h.trie.node_order;
      leaf_order = keeps.shape.3 ∙ h.trie.leaf_order;
      time = time ∙ h.trie.time;
      shows = shows _ _ h.trie.shows;
      past = past _ _ h.trie.past;
      begun = ((λ e. record { pending = waits; stores = u.stores ∙ sym (kept_stores p.live.state p.live r stays); made = ap suc u.made ∙ sym made }), (λ e. absurd (cc)));
    };
    fits = kept_fits p.live r p.cursors due (record { shape = keeps.shape; time = omega (arith, time); reads = keeps.fits }) h.fits;
    same = h.same;
    started = h.started;
    many = h.many;
  }

  pub ended_in : (r : Living) → Keeps p.live r → r.selected.time ≡ suc p.live.selected.time → is_pending r ≡ false → ((L M : Entries) → Shows p.live L M → Shows r M M) → ((L M : Entries) (ns ls : List ℕ) → Shows p.live L M → Past p.live ns ls → Past r (ns ++ node_need p.live.selected.family p.live.selected.direct_bits L ∷ []) (ls ++ leaf_need p.live.selected.family p.live.selected.direct_bits L ∷ [])) → IsFamilyState w f (record { ended = suc n; begun = None; lookups = lookups }) (record { live = r; cursors = p.cursors }) due
  ended_in r keeps time quiet shows past = record {
    world = h.world;
    trie = record {
      family = keeps.shape.0 ∙ h.trie.family;
      direct = keeps.shape.1 ∙ h.trie.direct;
      few = h.trie.few;
      node_order = keeps.shape.2 ∙ h.trie.node_order;
      leaf_order = keeps.shape.3 ∙ h.trie.leaf_order;
      time = time ∙ (ap suc h.trie.time ∙ later);
      shows = subst (λ (E : Entries). Shows r E E) after (shows _ _ h.trie.shows);
      past = subst (λ (ns : List ℕ). Past r ns (needs_before w f (leaf_need f w.direct) (suc n))) (grown (node_need f w.direct))
          (subst (λ (ls : List ℕ). Past r (needs_before w f (node_need f w.direct) n ++ node_need f w.direct (w.routes n) ∷ []) ls) (grown (leaf_need f w.direct))
          (subst (λ (s : ℕ). Past r (needs_before w f (node_need f w.direct) n ++ node_need f s (w.routes n) ∷ []) (needs_before w f (leaf_need f w.direct) n ++ leaf_need f s (w.routes n) ∷ [])) h.trie.direct
          (subst (λ (g : Family). Past r (needs_before w f (node_need f w.direct) n ++ node_need g p.live.selected.direct_bits (w.routes n) ∷ []) (needs_before w f (leaf_need f w.direct) n ++ leaf_need g p.live.selected.direct_bits (w.routes n) ∷ [])) h.trie.family
          (past _ _ _ _ h.trie.shows h.trie.past))));
      begun = quiet;
    };
    fits = kept_fits p.live r p.cursors due (record { shape = keeps.shape; time = omega (arith, time); reads = keeps.fits }) h.fits;
    same = h.same;
    started = λ m k e. omega (arith, h.started m k e);
    many = h.many;
  }

  pub cancelled_in : (r : Living) → Keeps p.live r → r.selected.time ≡ p.live.selected.time → is_pending r ≡ false → ((L M : Entries) → Shows p.live L M → Shows r L L) → ((ns ls : List ℕ) → Past p.live ns ls → Past r ns ls) → IsFamilyState w f (record { ended = n; begun = None; lookups = lookups }) (record { live = r; cursors = p.cursors }) due
  cancelled_in r keeps time quiet shows past = record {
    world = h.world;
    trie = record {
      family = keeps.shape.0 ∙ h.trie.family;
      direct = keeps.shape.1 ∙ h.trie.direct;
      few = h.trie.few;
      node_order = keeps.shape.2 ∙ h.trie.node_order;
      leaf_order = keeps.shape.3 ∙ h.trie.leaf_order;
      time = time ∙ h.trie.time;
      shows = shows _ _ h.trie.shows;
      past = past _ _ h.trie.past;
      begun = quiet;
    };
    fits = kept_fits p.live r p.cursors due (record { shape = keeps.shape; time = omega (arith, time); reads = keeps.fits }) h.fits;
    same = h.same;
    started = h.started;
    many = h.many;
  }

-- ---- as the code tells
-- the event that is begun, of a state in which an update is pending
begun_of : (w : World) (f : Family) (s : State) (p : FamilyLive) → IsAt w f s p → is_pending p.live ≡ true → (x : Begun) × (s.begun ≡ Some x) × (changes_family f (w.changed s.ended) ≡ true) × IsUnderWay p.live x
begun_of w f s p at e = own_begun w f s.ended p.live s.begun at.1.trie.begun e

with_begun : (w : World) (f : Family) (s : State) (p : FamilyLive) (x : Begun) (at : IsAt w f s p) → s.begun ≡ Some x → IsFamilyState w f (record { ended = s.ended; begun = Some x; lookups = s.lookups }) p at.0
with_begun w f s p x at q = subst (λ (b : Option Begun). IsFamilyState w f (record { ended = s.ended; begun = b; lookups = s.lookups }) p at.0) q at.1

pub store_at : (w : World) (f : Family) (s : State) (p : FamilyLive) (r : Living) (done : Bool)
    → is_pending p.live ≡ true → is_pending r ≡ true
    → (done ≡ true → (0 < stores_left p.live) × (suc (stores_left r) ≡ stores_left p.live) × (made_of r ≡ suc (made_of p.live)))
    → (done ≡ false → (stores_left p.live ≡ 0) × (r ≡ p.live))
    → KeepsStores p.live r → Keeps p.live r → r.selected.time ≡ p.live.selected.time
    → ((L M : Entries) → Shows p.live L M → Shows r L M) → ((ns ls : List ℕ) → Past p.live ns ls → Past r ns ls)
    → IsAt w f s p → (t : State) × StoresOne s s.begun (store_row done) t × IsAt w f t (record { live = r; cursors = p.cursors })
store_at w f s p r false waits waits_on made none stays keeps time shows past at =
    let b = begun_of w f s p at waits in
    let h = with_begun w f s p b.0 at b.1 in
    let z = none refl in
    (s, subst (λ (x : Option Begun). StoresOne s x nothing s) (sym b.1) (no_more w f s.ended b.0 s.lookups p at.0 b.2 h b.3 z.0, refl), subst (λ (l : Living). IsAt w f s (record { live = l; cursors = p.cursors })) (sym z.1) at)
store_at w f s p r true waits waits_on made none stays keeps time shows past at =
    let b = begun_of w f s p at waits in
    let h = with_begun w f s p b.0 at b.1 in
    let m = made refl in
    let t : State = record s { begun = Some (record b.0 { made = suc b.0.made }) } in
    (t, subst (λ (x : Option Begun). StoresOne s x stored t) (sym b.1) (more w f s.ended b.0 s.lookups p at.0 b.2 h b.3 m.0, refl), (at.0, stored_in w f s.ended b.0 s.lookups p at.0 b.2 h b.3 r keeps time waits_on m.2 stays shows past))

pub ends_at : (w : World) (f : Family) (s : State) (p : FamilyLive) (r : Living)
    → is_pending p.live ≡ true → stores_left p.live ≡ 0 → is_pending r ≡ false
    → Keeps p.live r → r.selected.time ≡ suc p.live.selected.time
    → ((L M : Entries) → Shows p.live L M → Shows r M M)
    → ((L M : Entries) (ns ls : List ℕ) → Shows p.live L M → Past p.live ns ls → Past r (ns ++ node_need p.live.selected.family p.live.selected.direct_bits L ∷ []) (ls ++ leaf_need p.live.selected.family p.live.selected.direct_bits L ∷ []))
    → IsAt w f s p → (t : State) × EndsEvent s s.begun ended t × IsAt w f t (record { live = r; cursors = p.cursors })
ends_at w f s p r waits none quiet keeps time shows past at =
    let b = begun_of w f s p at waits in
    let h = with_begun w f s p b.0 at b.1 in
    let t : State = record s { ended = suc s.ended; begun = None } in
    (t, subst (λ (x : Option Begun). EndsEvent s x ended t) (sym b.1) (no_more w f s.ended b.0 s.lookups p at.0 b.2 h b.3 none, refl), (at.0, ended_in w f s.ended b.0 s.lookups p at.0 b.2 h b.3 r keeps time quiet shows past))

pub left_at : (w : World) (f : Family) (s : State) (p : FamilyLive) → is_pending p.live ≡ true → 0 < stores_left p.live → IsAt w f s p → (t : State) × EndsEvent s s.begun left t × IsAt w f t p
left_at w f s p waits some at =
    let b = begun_of w f s p at waits in
    let h = with_begun w f s p b.0 at b.1 in
    (s, subst (λ (x : Option Begun). EndsEvent s x left s) (sym b.1) (more w f s.ended b.0 s.lookups p at.0 b.2 h b.3 some, refl), at)

pub cancels_at : (w : World) (f : Family) (s : State) (p : FamilyLive) (r : Living)
    → is_pending p.live ≡ true → made_of p.live ≡ 0 → is_pending r ≡ false
    → Keeps p.live r → r.selected.time ≡ p.live.selected.time
    → ((L M : Entries) → Shows p.live L M → Shows r L L) → ((ns ls : List ℕ) → Past p.live ns ls → Past r ns ls)
    → IsAt w f s p → (u : State) × Cancels s s.begun cancelled u × IsAt w f u (record { live = r; cursors = p.cursors })
cancels_at w f s p r waits none quiet keeps time shows past at =
    let b = begun_of w f s p at waits in
    let h = with_begun w f s p b.0 at b.1 in
    let u : State = record s { begun = None } in
    (u, subst (λ (x : Option Begun). Cancels s x cancelled u) (sym b.1) (b.3.made ∙ none, refl), (at.0, cancelled_in w f s.ended b.0 s.lookups p at.0 b.2 h b.3 r keeps time quiet shows past))

pub late_at : (w : World) (f : Family) (s : State) (p : FamilyLive) → is_pending p.live ≡ true → 0 < made_of p.live → IsAt w f s p → (t : State) × Cancels s s.begun late t × IsAt w f t p
late_at w f s p waits some at =
    let b = begun_of w f s p at waits in
    (s, subst (λ (x : Option Begun). Cancels s x late s) (sym b.1) (omega (arith, some, b.3.made), refl), at)

pub end_at : (A : Type 0) (w : World) (f : Family) (s : State) (p : FamilyLive) (token : Pending) (r : Living) (result : Result A Pending)
    → is_pending p.live ≡ true
    → OnOk result (stores_left p.live ≡ 0) → OnOk result (is_pending r ≡ false) → OnOk result (r.selected.time ≡ suc p.live.selected.time)
    → IfErr result (λ e. (e ≡ token) × (r ≡ p.live) × (0 < stores_left p.live))
    → HasShapeOf p.live r → OnOk result ((os : List Open) → Fits p.live os → Fits r os)
    → OnOk result ((L M : Entries) → Shows p.live L M → Shows r M M)
    → OnOk result ((L M : Entries) (ns ls : List ℕ) → Shows p.live L M → Past p.live ns ls → Past r (ns ++ node_need p.live.selected.family p.live.selected.direct_bits L ∷ []) (ls ++ leaf_need p.live.selected.family p.live.selected.direct_bits L ∷ []))
    → IsAt w f s p → (t : State) × EndsEvent s s.begun (end_row result) t × IsAt w f t (record { live = r; cursors = p.cursors })
end_at A w f s p token r (Ok a) waits over quiet time back shape fits shows past at = ends_at w f s p r waits over quiet (record { shape = shape; fits = fits }) time shows past at
end_at A w f s p token r (Err e) waits over quiet time back shape fits shows past at = subst (λ (l : Living). (t : State) × EndsEvent s s.begun left t × IsAt w f t (record { live = l; cursors = p.cursors })) (sym back.1) (left_at w f s p waits back.2 at)
