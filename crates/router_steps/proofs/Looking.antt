-- A lookup is opened, or goes on.
use Rattle.std.proofs.Common.{◌≡◌, ◌<◌, ◌≤◌, ℕ, List, ◌++◌, map, Bool, false, cond, Option, Some, None, Result, Ok, Err, nat_eq, refl, sym, ap, ◌∙◌, arith, subst}
use Rattle.std.specs.Prelude.{◌&&◌, IfOk, OnErr, OnOk}
use Rattle.table_model.specs.Address.{Address, same_family}
use Rattle.table_model.specs.declared.family.Family.{Family}
use Rattle.table_model.specs.declared.family.Family.TheVariants.{V4, V6}
use Rattle.table_model.specs.Entries.{Entries, match_in}
use Rattle.route_model.specs.Events.{Elem}
use Rattle.route_model.specs.Choice.{after_elems, elems_after}
use Rattle.fib_prefix.specs.Views.{event_as}
use Rattle.fib_addr.specs.Hops.{hop_at}
use Rattle.fib_addr.specs.Views.{addr_as}
use Rattle.fib_addr.specs.declared.addr.Addr.{Addr}
use Rattle.fib_addr.specs.declared.entry.Hop.{Hop}
use Rattle.poptrie_update.specs.Cursors.{Dues, FitsAll, GoesAsDue, GoesFurther, IsFull, IsStarted, OpenLookups, due_of, lookup_of}
use Rattle.poptrie_update.specs.Lives.{Living, Shows}
use Rattle.poptrie_update.specs.Reads.{published_entries}
use Rattle.poptrie_update.specs.declared.cursors.Lookup as code_lookup
use Rattle.poptrie_update.specs.declared.cursors.Stage.TheVariants as stage
use Rattle.fib_router.specs.Lives.{live_of}
use Rattle.fib_router.specs.Router.{begun_elem}
use Rattle.fib_router.specs.declared.router.Begun.{Begun}
use Rattle.step_script.specs.Rows.{StepRow, printed_number}
use Rattle.step_script.specs.Script.{goes, opens}
use Rattle.step_script.specs.Machine as machine
use Rattle.step_script.specs.Machine.{World, State, Lookup, Goes, Names, Opens, version_of, with_lookup}
use Rattle.router_steps.specs.Calls.{GoesTo, open_row}
use Rattle.router_steps.specs.Engine.{IsEngineAt}
use Rattle.router_steps.specs.Hops.{brought_in, read_row, told_hop}
use Rattle.router_steps.specs.Paused.{IsAt}
use Rattle.router_steps.specs.Runs.{HasSeen, IsBegunAs, IsStepper, StepLeads, cursors_in, family_live, seen_by}
use Rattle.router_steps.specs.Upcoming.{to_come}
use Rattle.router_steps.specs.declared.stepper.Stepper.{Stepper}
use Rattle.router_steps.proofs.Assembled.{event_of, half_in, quiet_of}
use Rattle.router_steps.proofs.Elsewhere.{elsewhere_at}
use Rattle.router_steps.proofs.Going.{go_at}
use Rattle.router_steps.proofs.Opened.{open_at}
use Rattle.router_steps.proofs.Seen.{answered_seen, most_seen, opened_seen, version_seen, went_seen}
use Rattle.router_steps.proofs.Taken.{next_told, told_now}

-- ---- a step that moves lookups of a family alone
pub record Moves (f : Family) (s t : State) : Type 0 where
  pub ended : t.ended ≡ s.ended
  pub begun : t.begun ≡ s.begun
  pub others : (g : Family) → same_family f g ≡ false → (n : ℕ) → t.lookups g n ≡ s.lookups g n

moved : (f : Family) (n : ℕ) (k : Option Lookup) (s t : State) → t ≡ record s { lookups = with_lookup f n k s.lookups } → Moves f s t
moved f n k s t e = record {
  ended = ap (λ (u : State). u.ended) e;
  begun = ap (λ (u : State). u.begun) e;
  others = λ g apart m. ap (λ (u : State). u.lookups g m) e ∙ ap (λ (b : Bool). cond (b && nat_eq n m) k (s.lookups g m)) apart;
}

unmoved : (f : Family) (s t : State) → t ≡ s → Moves f s t
unmoved f s t e = record {
  ended = ap (λ (u : State). u.ended) e;
  begun = ap (λ (u : State). u.begun) e;
  others = λ g apart m. ap (λ (u : State). u.lookups g m) e;
}

-- with other lookups of the family
abbrev pub with_cursors : Family → OpenLookups → Stepper → Stepper
with_cursors V4 cs x = record x { v4 = cs }
with_cursors V6 cs x = record x { v6 = cs }

begun_moved : (w : World) (s t : State) (x : Stepper) → t.ended ≡ s.ended → t.begun ≡ s.begun → IsStepper w s x → IsBegunAs w t.ended x.router x.upcoming x.begun t.begun
begun_moved w s t x n b h = subst (λ (m : ℕ). IsBegunAs w m x.router x.upcoming x.begun t.begun) (sym n) (subst (λ (o : Option machine.Begun). IsBegunAs w s.ended x.router x.upcoming x.begun o) (sym b) h.begun)

other_half : (w : World) (f g : Family) (s t : State) (x : Stepper) → same_family f g ≡ false → Moves f s t → IsStepper w s x → IsAt w g t (family_live g x)
other_half w f g s t x apart m h = elsewhere_at w g s t (family_live g x) (record { ended = m.ended; lookups = m.others g apart; begun = λ e. m.begun }) (half_in w g s x h)

moved_in : (w : World) (s t : State) (x : Stepper) (f : Family) (cs : OpenLookups) → Moves f s t → IsAt w f t (record { live = live_of f x.router.lives; cursors = cs }) → HasSeen t → IsStepper w s x → IsStepper w t (with_cursors f cs x)
moved_in w s t x V4 cs m at seen h = record { v4 = at; v6 = other_half w V4 V6 s t x refl m h; engine = subst (λ (n : ℕ). IsEngineAt w n x.router.held (to_come x.upcoming x.router.held.candidates)) (sym m.ended) h.engine; ended = h.ended ∙ sym m.ended; seen = seen; begun = begun_moved w s t x m.ended m.begun h }
moved_in w s t x V6 cs m at seen h = record { v4 = other_half w V6 V4 s t x refl m h; v6 = at; engine = subst (λ (n : ℕ). IsEngineAt w n x.router.held (to_come x.upcoming x.router.held.candidates)) (sym m.ended) h.engine; ended = h.ended ∙ sym m.ended; seen = seen; begun = begun_moved w s t x m.ended m.begun h }

-- ---- a lookup is opened
pub opened_now : {E : Type 0} (w : World) (s : State) (x : Stepper) (f : Family) (a : Addr) (after : OpenLookups) (r : Result ℕ E) → a.family ≡ f → ((due : Dues) → FitsAll (live_of f x.router.lives) (cursors_in f x) due → FitsAll (live_of f x.router.lives) after due) → IfOk r (IsStarted (live_of f x.router.lives) a (cursors_in f x) after) → OnErr r (IsFull (cursors_in f x) × (after ≡ cursors_in f x)) → IsStepper w s x → StepLeads w s (opens (addr_as a)) (open_row f r) (with_cursors f after x)
opened_now {E} w s x f a after r fam fits started none h =
    let at = half_in w f s x h in
    let o = open_at w f s (family_live f x) a after r (fam ∙ sym at.1.trie.family) fits started none at in
    (o.0, o.1, by r o.0 o.1 o.2)
  where
    by : (r : Result ℕ E) (t : State) → Opens s (addr_as a) (open_row f r) t → IsAt w f t (record { live = live_of f x.router.lives; cursors = after }) → IsStepper w t (with_cursors f after x)
    by (Ok n) t op at =
        let m = subst (λ (g : Family). Moves g s t) fam (moved a.family op.0 _ s t op.5) in
        moved_in w s t x f after m at (subst HasSeen (sym op.5) (opened_seen s a.family op.0 (addr_as a) h.seen)) h
    by (Err e) t op at = moved_in w s t x f after (unmoved f s t op.1) at (subst HasSeen (sym op.1) h.seen) h

-- ---- a lookup goes on
told_by : (w : World) (s : State) (x : Stepper) (v : ℕ) (a : Address) → IsStepper w s x → v ≤ seen_by s.ended s.begun → hop_at w.hops (match_in (w.routes v) a) ≡ told_hop x.router.held.hops (brought_in x.begun) (match_in (w.routes v) a)
told_by w s x v a h le = by x.begun refl
  where
    by : (o : Option Begun) → x.begun ≡ o → hop_at w.hops (match_in (w.routes v) a) ≡ told_hop x.router.held.hops (brought_in o) (match_in (w.routes v) a)
    by None e = told_now w s.ended x.router.held _ h.engine v (subst (λ (o : Option machine.Begun). v ≤ seen_by s.ended o) (quiet_of w s x e h) le) a
    by (Some b) e =
        let k = event_of w s x b e h in
        let few : v ≤ seen_by s.ended (Some k.0) = subst (λ (o : Option machine.Begun). v ≤ seen_by s.ended o) k.1 le in
        next_told w s.ended x.router.held _ h.engine (begun_elem b) _ (ap (λ (es : List Elem). es ++ elems_after (after_elems x.router.held.candidates es) (map event_as x.upcoming.events.now)) k.2.next) k.2.few v (omega (arith, few, most_seen s.ended k.0)) a
        ∙ ap (λ o. told_hop x.router.held.hops o (match_in (w.routes v) a)) (sym k.2.brings)

held_same : (o : Option Lookup) (a b : Lookup) → o ≡ Some a → o ≡ Some b → a ≡ b
held_same o a b p q = cc

module _ (w : World) (s : State) (x : Stepper) (f : Family) (n c : ℕ) (after : OpenLookups) (h : IsStepper w s x) (printed : c ≡ printed_number f n) (few : n < 64) where
  names : Names c f n
  names = (printed, few)

  abbrev Gone : StepRow → Type 0
  Gone row = StepLeads w s (goes c) row (with_cursors f after x)

  gone_by : {E : Type 0} (r : Result (Option Hop) E) (t : State) → GoesTo w s f n r t → IsAt w f t (record { live = live_of f x.router.lives; cursors = after }) → Gone (read_row x.router.held.hops (brought_in x.begun) c r)
  gone_by (Ok None) t g at =
      let v = g.1 in
      (t, (f, n, names, (printed, v)), moved_in w s t x f after (moved f n _ s t v.3) at (subst HasSeen (sym v.3) (went_seen w s f n v.0 v.1 h.seen)) h)
  gone_by (Ok (Some hop)) t g at =
      let v = g.3.1 in
      let told = told_by w s x (version_of w s v.0) v.0.addr h (version_seen w s f n v.0 h.seen v.1) in
      let same : g.0 ≡ v.0 = held_same (s.lookups f n) g.0 v.0 g.1 v.1 in
      let number : hop.0 ≡ match_in (w.routes (version_of w s v.0)) v.0.addr = g.2 ∙ ap (λ (k : Lookup). match_in (w.routes (version_of w s k)) k.addr) same in
      let row : told_hop x.router.held.hops (brought_in x.begun) hop.0 ≡ hop_at w.hops (match_in (w.routes (version_of w s v.0)) v.0.addr) = ap (told_hop x.router.held.hops (brought_in x.begun)) number ∙ sym told in
      (t, (f, n, names, (printed, (v.0, v.1, v.2, row, v.4))), moved_in w s t x f after (moved f n _ s t v.4) at (subst HasSeen (sym v.4) (answered_seen s f n h.seen)) h)
  gone_by (Err e) t g at = (t, (f, n, names, (printed, g.1, g.2)), moved_in w s t x f after (unmoved f s t g.2) at (subst HasSeen (sym g.2) h.seen) h)

  pub gone_now : {E : Type 0} (r : Result (Option Hop) E) → OnErr r ((lookup_of (cursors_in f x) n ≡ None) × (after ≡ cursors_in f x)) → OnOk r ((k : code_lookup.Lookup) × (lookup_of (cursors_in f x) n ≡ Some k))
      → IfOk r (λ o. (k : code_lookup.Lookup) → lookup_of (cursors_in f x) n ≡ Some k → k.stage ≡ stage.Word → (L M : Entries) (due : Dues) → Shows (live_of f x.router.lives) L M → FitsAll (live_of f x.router.lives) (cursors_in f x) due → GoesAsDue o (due_of (live_of f x.router.lives).selected.direct_bits (published_entries (live_of f x.router.lives) L M k.addr) k.addr) n (live_of f x.router.lives) (cursors_in f x) after due)
      → IfOk r (λ o. (k : code_lookup.Lookup) → lookup_of (cursors_in f x) n ≡ Some k → (k.stage ≡ stage.Word → ⊥) → (due : Dues) → FitsAll (live_of f x.router.lives) (cursors_in f x) due → GoesFurther o (due n) n (live_of f x.router.lives) (cursors_in f x) after due)
      → Gone (read_row x.router.held.hops (brought_in x.begun) c r)
  gone_now r none there first further =
      let at = half_in w f s x h in
      let g = go_at w f s (family_live f x) n r after none there first further at in
      gone_by r g.0 g.1 g.2

  pub gone_from : {E : Type 0} (l : Living) → l ≡ live_of f x.router.lives → (r : Result (Option Hop) E) → OnErr r ((lookup_of (cursors_in f x) n ≡ None) × (after ≡ cursors_in f x)) → OnOk r ((k : code_lookup.Lookup) × (lookup_of (cursors_in f x) n ≡ Some k))
      → IfOk r (λ o. (k : code_lookup.Lookup) → lookup_of (cursors_in f x) n ≡ Some k → k.stage ≡ stage.Word → (L M : Entries) (due : Dues) → Shows l L M → FitsAll l (cursors_in f x) due → GoesAsDue o (due_of l.selected.direct_bits (published_entries l L M k.addr) k.addr) n l (cursors_in f x) after due)
      → IfOk r (λ o. (k : code_lookup.Lookup) → lookup_of (cursors_in f x) n ≡ Some k → (k.stage ≡ stage.Word → ⊥) → (due : Dues) → FitsAll l (cursors_in f x) due → GoesFurther o (due n) n l (cursors_in f x) after due)
      → Gone (read_row x.router.held.hops (brought_in x.begun) c r)
  gone_from l is r none there first further =
      gone_now r none there
      (subst (λ (m : Living). IfOk r (λ o. (k : code_lookup.Lookup) → lookup_of (cursors_in f x) n ≡ Some k → k.stage ≡ stage.Word → (L M : Entries) (due : Dues) → Shows m L M → FitsAll m (cursors_in f x) due → GoesAsDue o (due_of m.selected.direct_bits (published_entries m L M k.addr) k.addr) n m (cursors_in f x) after due)) is first)
      (subst (λ (m : Living). IfOk r (λ o. (k : code_lookup.Lookup) → lookup_of (cursors_in f x) n ≡ Some k → (k.stage ≡ stage.Word → ⊥) → (due : Dues) → FitsAll m (cursors_in f x) due → GoesFurther o (due n) n m (cursors_in f x) after due)) is further)

pub opened_from : {E : Type 0} (w : World) (s : State) (x : Stepper) (f : Family) (a : Addr) (after : OpenLookups) (r : Result ℕ E) (l : Living) → l ≡ live_of f x.router.lives → a.family ≡ f → ((due : Dues) → FitsAll l (cursors_in f x) due → FitsAll l after due) → IfOk r (IsStarted l a (cursors_in f x) after) → OnErr r (IsFull (cursors_in f x) × (after ≡ cursors_in f x)) → IsStepper w s x → StepLeads w s (opens (addr_as a)) (open_row f r) (with_cursors f after x)
opened_from w s x f a after r l is fam fits started none h =
    opened_now w s x f a after r fam (subst (λ (m : Living). (due : Dues) → FitsAll m (cursors_in f x) due → FitsAll m after due) is fits) (subst (λ (m : Living). IfOk r (IsStarted m a (cursors_in f x) after)) is started) none h

-- the trie is of the family, and the lookups fit
pub family_here : (w : World) (s : State) (x : Stepper) (f : Family) (l : Living) → l ≡ live_of f x.router.lives → IsStepper w s x → l.selected.family ≡ f
family_here w s x f l is h = ap (λ (m : Living). m.selected.family) is ∙ (half_in w f s x h).1.trie.family

pub fits_here : (w : World) (s : State) (x : Stepper) (f : Family) (l : Living) → l ≡ live_of f x.router.lives → IsStepper w s x → (due : Dues) × FitsAll l (cursors_in f x) due
fits_here w s x f l is h = let at = half_in w f s x h in (at.0, subst (λ (m : Living). FitsAll m (cursors_in f x) at.0) (sym is) at.1.fits)

pub few_numbers : {E : Type 0} (r : Result ℕ E) (l : Living) (a : Addr) (old new : OpenLookups) → IfOk r (IsStarted l a old new) → IfOk r (λ n. n < 64)
few_numbers (Ok n) l a old new s = s.few
few_numbers (Err e) l a old new s = tt
