-- The walk over a peer's chain finds the path keys where it offers something.
use Rattle.std.proofs.Common.{cond, ◌≡◌, ℕ, suc, ◌<◌, ◌≤◌, List, Bool, true, false, Option, Some, None, length, refl, sym, ap, subst, ◌∙◌, arith, inl, inr}
use Rattle.std.specs.Prelude.{◌⊎◌, ◌≢◌, ◌||◌, ◌&&◌, is_some, slice_get}
use Rattle.std.specs.Map.{lookup}
use Rattle.std.specs.Ordering.{is_eq}
use Rattle.std.specs.BTreeMap.{is_at}
use Rattle.std.specs.declared.cmp.Ordering.TheVariants.{Equal}
use Rattle.std.proofs.lemmas.Bool.{cases_lt}
use Rattle.std.proofs.lemmas.Cmp.{tied_back}
use Rattle.std.proofs.lemmas.Option.{same_Some}
use Rattle.fib_prefix.specs.Views.{peer_as}
use Rattle.fib_prefix.specs.Order.{code_peer_cmp}
use Rattle.fib_prefix.specs.declared.event.Peer.{Peer}
use Rattle.fib_prefix.specs.declared.event.Via.{Via}
use Rattle.route_model.specs.Events.{same_peer}
use Rattle.adj_rib_in.specs.declared.keys.PathKey.{PathKey}
use Rattle.adj_rib_in.specs.declared.keys.PathAttrs.{PathAttrs}
use Rattle.adj_rib_in.specs.declared.rows.Row.{Row}
use Rattle.adj_rib_in.specs.declared.slot.PathSlot.{PathSlot}
use Rattle.adj_rib_in.specs.declared.flat.Flat.{Flat}
use Rattle.adj_rib_in.specs.Orders.{key_cmp}
use Rattle.adj_rib_in.specs.Paths.{flat, attrs_at}
use Rattle.adj_rib_in.specs.Chains.{no_peer, chain_end}
use Rattle.adj_rib_in.specs.Flat.{IsFlat, IsPeerNumber, HasNoNumber, IsSlotOf, via_on, key_or, key_on, attrs_on, flat_paths, live_or, live_on, is_key, is_among, is_offered_by}
use Rattle.adj_rib_in.proofs.Orders.{is_equal, peer_same, peer_total, key_total}
use Rattle.adj_rib_in.proofs.Flats.{key_parts, same_parts, key_slot, attrs_found, no_number_key}

-- what a slot where something is offered is
record LiveParts (b : Flat) (s : PathSlot) (t : PathKey) : Type 0 where
  attrs : PathAttrs
  offered : attrs_on b.hops.keys s ≡ Some attrs
  key : key_on b.rows.items b.peers.keys s ≡ Some t

live_parts : (b : Flat) (s : PathSlot) (t : PathKey) → live_on b s ≡ Some t → LiveParts b s t
live_parts b s t e = by_parts (attrs_on b.hops.keys s) refl (via_on b.peers.keys s) refl (slice_get b.rows.items s.row) refl e
  where
    by_parts : (o : Option PathAttrs) → attrs_on b.hops.keys s ≡ o → (v : Option Via) → via_on b.peers.keys s ≡ v → (r : Option Row) → slice_get b.rows.items s.row ≡ r → live_or o v r ≡ Some t → LiveParts b s t
    by_parts None f v g r h k = absurd cc
    by_parts (Some o) f None g r h k = absurd cc
    by_parts (Some o) f (Some v) g None h k = absurd cc
    by_parts (Some o) f (Some v) g (Some r) h k = record { attrs = o; offered = f; key = ap (λ x. key_or x (via_on b.peers.keys s)) h ∙ (ap (key_or (Some r)) g ∙ k) }

live_made : (b : Flat) (s : PathSlot) (t : PathKey) (o : PathAttrs) → attrs_on b.hops.keys s ≡ Some o → key_on b.rows.items b.peers.keys s ≡ Some t → live_on b s ≡ Some t
live_made b s t o f e = ap (λ x. live_or x (via_on b.peers.keys s) (slice_get b.rows.items s.row)) f ∙ by_parts (via_on b.peers.keys s) (slice_get b.rows.items s.row) e
  where
    by_parts : (v : Option Via) (r : Option Row) → key_or r v ≡ Some t → live_or (Some o) v r ≡ Some t
    by_parts None None e = absurd cc
    by_parts None (Some r) e = absurd cc
    by_parts (Some v) None e = absurd cc
    by_parts (Some v) (Some r) e = e

or_cases : (a b : Bool) → (a || b) ≡ true → (a ≡ true) ⊎ (b ≡ true)
or_cases true b e = inl refl
or_cases false b e = inr e

or_first : (a b : Bool) → a ≡ true → (a || b) ≡ true
or_first a b e = ap (λ x. x || b) e

or_second : (a b : Bool) → b ≡ true → (a || b) ≡ true
or_second true b e = refl
or_second false b e = e

-- the path key is one of the peer's slots where something is offered
pub record IsLiveSlot (b : Flat) (n i : ℕ) (s : PathKey) : Type 0 where
  pub slot : PathSlot
  pub there : slice_get b.rows.slots i ≡ Some slot
  pub own : slot.peer ≡ n
  pub live : is_key (live_on b slot) s ≡ true

-- past the slots from a place of the chain on
pub record Walked (b : Flat) (n : ℕ) (old : List PathKey) (end : ℕ) (now : List PathKey) : Type 0 where
  pub below : end ≤ length b.rows.slots
  pub mine : (k : ℕ) (u : PathSlot) → end ≡ suc k → slice_get b.rows.slots k ≡ Some u → u.peer ≡ n
  pub kept : (s : PathKey) → is_among old s ≡ true → is_among now s ≡ true
  pub sound : (s : PathKey) → is_among now s ≡ true → (is_among old s ≡ true) ⊎ ((i : ℕ) × IsLiveSlot b n i s)
  pub done : (i : ℕ) (s : PathKey) → end ≤ i → IsLiveSlot b n i s → is_among now s ≡ true

pub walk_starts : (b : Flat) (n : ℕ) (old : List PathKey) → IsFlat b → n ≢ no_peer → (end : ℕ) → end ≡ chain_end b.ends.items n → Walked b n old end old
walk_starts b n old f listed end e = record {
  below = subst (λ k. k ≤ length b.rows.slots) (sym e) (f.chained.within n);
  mine = λ k u g h. f.chained.heads n k u listed (sym e ∙ g) h;
  kept = λ s h. h;
  sound = λ s h. inl h;
  done = λ i s l x. let m : i < chain_end b.ends.items n = subst (λ q. i < chain_end b.ends.items q) x.own (f.chained.starts i x.slot x.there (λ w. listed (sym x.own ∙ w))) in absurd (omega (arith, l, e, m));
}

pub walk_step : (b : Flat) (n : ℕ) (old now more : List PathKey) (end : ℕ) (u : PathSlot) → IsFlat b → n ≢ no_peer → Walked b n old end now → (k : ℕ) → end ≡ suc k → slice_get b.rows.slots k ≡ Some u → ((s : PathKey) → is_among more s ≡ (is_among now s || is_key (live_on b u) s)) → Walked b n old u.link more
walk_step b n old now more end u f listed w k e g add = record {
  below = let l = f.chained.falls k u g in omega (arith, l, e, w.below);
  mine = λ j t h a. f.chained.links k u t j g (λ z. listed (sym own ∙ z)) h a ∙ own;
  kept = λ s h. add s ∙ or_first _ _ (w.kept s h);
  sound = λ s h. elim (or_cases _ _ (sym (add s) ∙ h)) [
    | inl x ↦ w.sound s x
    | inr x ↦ inr (k, record { slot = u; there = g; own = own; live = x })
  ];
  done = λ i s l x. elim (cases_lt i k) [
    | inl m ↦ let y : i < u.link = f.chained.passes i k x.slot u m x.there g (λ z. listed (sym x.own ∙ z)) (x.own ∙ sym own) in absurd (omega (arith, l, y))
    | inr m ↦ elim (cases_lt k i) [
      | inl y ↦ add s ∙ or_first _ _ (w.done i s (omega (arith, y, e)) x)
      | inr y ↦
          let z : i ≡ k = omega (arith, m, y) in
          let same : x.slot ≡ u = same_Some x.slot u (sym x.there ∙ (ap (slice_get b.rows.slots) z ∙ g)) in
          add s ∙ or_second _ _ (ap (λ v. is_key (live_on b v) s) (sym same) ∙ x.live)
    ]
  ];
}
  where
    own : u.peer ≡ n
    own = w.mine k u e g

flipped_paths : (s t : PathKey) → is_eq (key_cmp s t) ≡ true → is_eq (key_cmp t s) ≡ true
flipped_paths s t e = ap is_eq (tied_back key_total s t (is_equal _ e))

-- what is offered at a live slot's path key
live_attrs : (b : Flat) (q : Peer) (n i : ℕ) (s : PathKey) → IsFlat b → IsPeerNumber b.peers.keys q n → IsLiveSlot b n i s → is_offered_by q (flat_paths b) s ≡ true
live_attrs b q n i s f number x = by_key (live_on b x.slot) refl x.live
  where
    by_key : (o : Option PathKey) → live_on b x.slot ≡ o → is_key o s ≡ true → is_offered_by q (flat_paths b) s ≡ true
    by_key None e m = absurd cc
    by_key (Some t) e m =
        let p = live_parts b x.slot t e in
        let back : is_eq (key_cmp s t) ≡ true = flipped_paths t s m in
        let z : IsSlotOf b s i = record { slot = x.slot; there = x.there; key = t; is = p.key; same = back } in
        let a = key_parts b.rows.items b.peers.keys x.slot t p.key in
        let d : a.peer ≡ number.0 = same_Some a.peer number.0 (sym a.peer_there ∙ (ap (slice_get b.peers.keys) x.own ∙ number.1)) in
        let own : is_eq (code_peer_cmp q s.via.peer) ≡ true =
        ap is_eq (peer_total.congr q number.0 s.via.peer (is_equal _ (peer_same q number.0 ∙ number.2)) ∙ (ap (λ r. code_peer_cmp r s.via.peer) (sym d) ∙ (ap (λ (k : PathKey). code_peer_cmp k.via.peer s.via.peer) a.is ∙ tied_back peer_total s.via.peer t.via.peer (same_parts s t back).peer))) in
        ap (λ w. w && is_some (attrs_at (flat_paths b) s)) own ∙ ap (λ o. is_some (flat o)) (attrs_found b s i f z ∙ ap Some p.offered)

-- and a path key where the peer offers something is one
attrs_live : (b : Flat) (q : Peer) (n : ℕ) (s : PathKey) → IsFlat b → IsPeerNumber b.peers.keys q n → is_offered_by q (flat_paths b) s ≡ true → (i : ℕ) × IsLiveSlot b n i s
attrs_live b q n s f number e = by_attrs (lookup (is_at (key_cmp s)) (flat_paths b)) refl (and_parts _ _ e)
  where
    and_parts : (a d : Bool) → (a && d) ≡ true → (a ≡ true) × (d ≡ true)
    and_parts true d h = (refl, h)
    and_parts false d h = absurd cc

    by_attrs : (o : Option (Option PathAttrs)) → lookup (is_at (key_cmp s)) (flat_paths b) ≡ o → (is_eq (code_peer_cmp q s.via.peer) ≡ true) × (is_some (attrs_at (flat_paths b) s) ≡ true) → (i : ℕ) × IsLiveSlot b n i s
    by_attrs None h x = let y : is_some (attrs_at (flat_paths b) s) ≡ false = ap (λ o. is_some (flat o)) h in absurd cc
    by_attrs (Some None) h x = let y : is_some (attrs_at (flat_paths b) s) ≡ false = ap (λ o. is_some (flat o)) h in absurd cc
    by_attrs (Some (Some o)) h x =
        let y = key_slot b.rows.items b.peers.keys b.hops.keys s b.rows.slots (Some o) h in
        let z : IsSlotOf b s y.0 = record { slot = y.1; there = y.3; key = y.2; is = y.4; same = y.5 } in
        let offered : attrs_on b.hops.keys y.1 ≡ Some o = same_Some _ _ (sym (attrs_found b s y.0 f z) ∙ h) in
        let a = key_parts b.rows.items b.peers.keys y.1 y.2 y.4 in
        let to : code_peer_cmp s.via.peer a.peer ≡ Equal = ap (λ (k : PathKey). code_peer_cmp s.via.peer k.via.peer) a.is ∙ (same_parts s y.2 y.5).peer in
        let at : code_peer_cmp q a.peer ≡ Equal = peer_total.congr q s.via.peer a.peer (is_equal _ x.0) ∙ to in
        let own : code_peer_cmp a.peer number.0 ≡ Equal = sym (peer_total.congr q a.peer number.0 at) ∙ is_equal _ (peer_same q number.0 ∙ number.2) in
        (y.0, record { slot = y.1; there = y.3; own = f.numbers y.1.peer n a.peer number.0 a.peer_there number.1 (sym (peer_same a.peer number.0) ∙ ap is_eq own); live = ap (λ v. is_key v s) (live_made b y.1 y.2 o offered y.4) ∙ flipped_paths s y.2 y.5 })

pub walk_ends : (b : Flat) (q : Peer) (n : ℕ) (old now : List PathKey) (end : ℕ) → IsFlat b → IsPeerNumber b.peers.keys q n → end ≤ 0 → Walked b n old end now → (s : PathKey) → is_among now s ≡ (is_among old s || is_offered_by q (flat_paths b) s)
walk_ends b q n old now end f number l w s = by_tests (is_among old s) refl (is_offered_by q (flat_paths b) s) refl (is_among now s) refl
  where
    by_tests : (a : Bool) → is_among old s ≡ a → (d : Bool) → is_offered_by q (flat_paths b) s ≡ d → (e : Bool) → is_among now s ≡ e → e ≡ (a || d)
    by_tests true x d y e z = sym z ∙ w.kept s x
    by_tests false x true y e z = let r = attrs_live b q n s f number y in sym z ∙ w.done r.0 s (omega (arith, l)) r.1
    by_tests false x false y false z = refl
    by_tests false x false y true z = elim (w.sound s z) [
      | inl h ↦ let k : false ≡ true = sym x ∙ h in absurd cc
      | inr h ↦ let k : false ≡ true = sym y ∙ live_attrs b q n h.0 s f number h.1 in absurd cc
    ]

pub no_walk : (b : Flat) (q : Peer) (old : List PathKey) → HasNoNumber b.peers.keys q → (s : PathKey) → is_among old s ≡ (is_among old s || is_offered_by q (flat_paths b) s)
no_walk b q old n s = sym (ap (λ x. is_among old s || x) (by_test (is_eq (code_peer_cmp q s.via.peer)) refl) ∙ or_none (is_among old s))
  where
    or_none : (a : Bool) → (a || false) ≡ a
    or_none true = refl
    or_none false = refl

    by_test : (t : Bool) → is_eq (code_peer_cmp q s.via.peer) ≡ t → (t && is_some (attrs_at (flat_paths b) s)) ≡ false
    by_test true e = ap (λ o. is_some (flat o)) (no_number_key b s (λ i r g. by_peer r (is_eq (code_peer_cmp q r)) refl (peer_same q r ∙ n i r g)))
      where
        by_peer : (r : Peer) (t : Bool) → is_eq (code_peer_cmp q r) ≡ t → is_eq (code_peer_cmp q r) ≡ false → same_peer (peer_as s.via.peer) (peer_as r) ≡ false
        by_peer r t h g = sym (peer_same s.via.peer r) ∙ (ap is_eq (sym (peer_total.congr q s.via.peer r (is_equal _ e))) ∙ g)
    by_test false e = refl

-- a path key that is added
pub added : (old new : List PathKey) (o p : Option PathKey) (t : PathKey) → o ≡ p → o ≡ Some t → ((s : PathKey) → is_among new s ≡ cond (is_eq (key_cmp t s)) true (is_among old s)) → (s : PathKey) → is_among new s ≡ (is_among old s || is_key p s)
added old new o p t e g h s = h s ∙ (by_test (is_eq (key_cmp t s)) (is_among old s) ∙ ap (λ x. is_among old s || is_key x s) (sym g ∙ e))
  where
    by_test : (a b : Bool) → cond a true b ≡ (b || a)
    by_test true true = refl
    by_test true false = refl
    by_test false true = refl
    by_test false false = refl

pub not_added : (old : List PathKey) (o p : Option PathKey) → o ≡ p → o ≡ None → (s : PathKey) → is_among old s ≡ (is_among old s || is_key p s)
not_added old o p e g s = sym (ap (λ x. is_among old s || is_key x s) (sym e ∙ g) ∙ or_none (is_among old s))
  where
    or_none : (a : Bool) → (a || false) ≡ a
    or_none true = refl
    or_none false = refl
