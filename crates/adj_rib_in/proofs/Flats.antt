-- The path keys of the flat candidates.
use Rattle.std.proofs.Common.{not, length-append, length-set, ◌^◌, nat_eq, get_or, ◌-◌, position, ◌≡◌, ℕ, zero, suc, ◌<◌, ◌≤◌, List, [], ◌∷◌, ◌++◌, Bool, true, false, cond, Option, Some, None, length, refl, sym, ap, subst, ◌∙◌, arith, inl, inr}
use Rattle.std.specs.Prelude.{◌⊎◌, ◌&&◌, slice_get, slice_set, option_map, MatchOption, IfSome, IfNone}
use Rattle.std.specs.Map.{lookup}
use Rattle.std.specs.List.{list_any}
use Rattle.std.specs.Ordering.{ordering_then, ordering_reverse, is_eq}
use Rattle.std.specs.BTreeMap.{is_at}
use Rattle.std.specs.declared.cmp.Ordering.{Ordering}
use Rattle.std.specs.declared.cmp.Ordering.TheVariants.{Less, Equal, Greater}
use Rattle.std.proofs.lemmas.Bool.{cases_lt}
use Rattle.std.proofs.lemmas.Cmp.{tied_back, tied_itself}
use Rattle.std.proofs.lemmas.Option.{none-some, same_Some, slice_get_within, slice_get_past, slice_get_read, slice_get-get_or}
use Rattle.table_model.specs.Width.{width}
use Rattle.table_model.specs.declared.family.Family.{Family}
use Rattle.table_model.specs.declared.family.Family.TheVariants.{V4, V6}
use Rattle.std.specs.Coded.{le_prop}
use Rattle.table_model.specs.contracts.family.Family.{the_type}
use denote.Enum.Bare.{sameb}
use Rattle.fib_prefix.specs.Views.{peer_as}
use Rattle.fib_addr.specs.Order.{code_cmp}
use Rattle.fib_prefix.specs.Order.{code_peer_cmp}
use Rattle.fib_addr.specs.declared.addr.Addr.{Addr}
use Rattle.fib_prefix.specs.declared.event.Peer.{Peer}
use Rattle.fib_addr.specs.declared.prefix.Prefix as code
use Rattle.route_model.specs.Events.{same_peer}
use Rattle.adj_rib_in.specs.declared.keys.PathKey.{PathKey}
use Rattle.adj_rib_in.specs.declared.keys.PathAttrs.{PathAttrs}
use Rattle.adj_rib_in.specs.declared.rows.Row.{Row}
use Rattle.adj_rib_in.specs.declared.slot.PathSlot.{PathSlot}
use Rattle.adj_rib_in.specs.declared.slot.RunSlot.{RunSlot}
use Rattle.adj_rib_in.specs.Slots.{rowless}
use Rattle.adj_rib_in.specs.declared.flat.Flat.{Flat}
use Rattle.adj_rib_in.specs.Orders.{key_cmp}
use Rattle.adj_rib_in.specs.Paths.{Paths, flat, attrs_at}
use Rattle.adj_rib_in.specs.Flat.{via_or, via_on, key_or, key_on, attrs_on, key_then, paths_on, flat_paths, IsSlotPlaced, IsFlat, IsRowPlace, HasNoRow, IsSlot, HasNoSlot, IsSlotOf, HasNoKey, HasNoNumber, IsBehind, IsSlotRun, off_or, IsLastRow, KeepsNumbers, IsPeerNumber, AreFlat, IsNextSlot, IsHopNumber, HasHop, AreNumbers, Puts, attrs_by, with_attrs, no_hop, IsLastFree, emptied, Thins, Offers, NoKeyComes, Grows}
use Rattle.adj_rib_in.proofs.RowLists.{flipped}
use Rattle.adj_rib_in.proofs.Equals.{peer_eq}
use Rattle.adj_rib_in.proofs.Chains.{chain_pushed, chain_kept, chain_longer, chain_dropped, end_there}
use Rattle.adj_rib_in.proofs.Views.{lookup_by_test}
use Rattle.adj_rib_in.proofs.Places.{apart_key, position_found, position_none, got_old, got_new, got_pushed, got_set, got_set_at, set_got, grown_key}
use Rattle.adj_rib_in.proofs.Orders.{is_equal, peer_same, prefix_total, peer_total, key_total}
use Rattle.route_model.proofs.Places.{both_equal}
use Rattle.std.specs.Ordering.{nat_cmp}
use Rattle.std.proofs.lemmas.Cmp.{ranked, nat_cmp_total}
use Rattle.std.specs.Prelude.{◌≢◌}
use Rattle.adj_rib_in.specs.Chains.{no_peer, chain_end}

-- ---- the parts of a path key

-- the path key of a slot whose row and peer are known
abbrev pub key_by : PathSlot → Row → Peer → PathKey
key_by s r q = record { via = record { peer = q; id = s.id }; prefix = r.prefix }

pub record PathKeyParts (rows : List Row) (peers : List Peer) (s : PathSlot) (t : PathKey) : Type 0 where
  pub row : Row
  pub row_there : slice_get rows s.row ≡ Some row
  pub peer : Peer
  pub peer_there : slice_get peers s.peer ≡ Some peer
  pub is : key_by s row peer ≡ t

pub key_parts : (rows : List Row) (peers : List Peer) (s : PathSlot) (t : PathKey) → key_on rows peers s ≡ Some t → PathKeyParts rows peers s t
key_parts rows peers s t e = by_row (slice_get rows s.row) refl (slice_get peers s.peer) refl e
  where
    by_row : (r : Option Row) → slice_get rows s.row ≡ r → (q : Option Peer) → slice_get peers s.peer ≡ q → key_or r (via_or q s.id) ≡ Some t → PathKeyParts rows peers s t
    by_row None f q g h = absurd cc
    by_row (Some r) f None g h = absurd cc
    by_row (Some r) f (Some q) g h = record { row = r; row_there = f; peer = q; peer_there = g; is = same_Some _ _ h }

pub key_made : (rows : List Row) (peers : List Peer) (s : PathSlot) (r : Row) (q : Peer) → slice_get rows s.row ≡ Some r → slice_get peers s.peer ≡ Some q → key_on rows peers s ≡ Some (key_by s r q)
key_made rows peers s r q f g = ap (λ x. key_or x (via_on peers s)) f ∙ ap (λ x. key_or (Some r) (via_or x s.id)) g

-- path keys that are told apart by neither part
pub record SameParts (s t : PathKey) : Type 0 where
  pub prefix : code_cmp s.prefix t.prefix ≡ Equal
  pub peer : code_peer_cmp s.via.peer t.via.peer ≡ Equal
  pub id : s.via.id ≡ t.via.id

pub same_parts : (s t : PathKey) → is_eq (key_cmp s t) ≡ true → SameParts s t
same_parts s t e =
    let x = both_equal _ _ (is_equal _ e) in
    let y = both_equal _ _ x.1 in
    record { prefix = y.0; peer = x.0; id = ranked s.via.id t.via.id Equal (sym y.1) }

pub parts_same : (s t : PathKey) → code_peer_cmp s.via.peer t.via.peer ≡ Equal → code_cmp s.prefix t.prefix ≡ Equal → s.via.id ≡ t.via.id → is_eq (key_cmp s t) ≡ true
parts_same s t a b i =
    let c : nat_cmp s.via.id t.via.id ≡ Equal = ap (nat_cmp s.via.id) (sym i) ∙ tied_itself nat_cmp_total s.via.id in
    ap (λ o. is_eq (ordering_then o (ordering_then (code_cmp s.prefix t.prefix) (nat_cmp s.via.id t.via.id)))) a
    ∙ (ap (λ o. is_eq (ordering_then o (nat_cmp s.via.id t.via.id))) b ∙ ap is_eq c)

-- ---- what lies at a path key

pub lookup_none : (rows : List Row) (peers : List Peer) (hops : List Addr) (q : PathKey) (slots : List PathSlot) → ((i : ℕ) (s : PathSlot) (t : PathKey) → slice_get slots i ≡ Some s → key_on rows peers s ≡ Some t → is_eq (key_cmp q t) ≡ false) → lookup (is_at (key_cmp q)) (paths_on rows peers hops slots) ≡ None
unfolding paths_on
lookup_none rows peers hops q [] h = refl
lookup_none rows peers hops q (s ∷ slots) h = by_key (key_on rows peers s) refl (lookup_none rows peers hops q slots (λ i u t g e. h (suc i) u t g e))
  where
    by_key : (o : Option PathKey) → key_on rows peers s ≡ o → lookup (is_at (key_cmp q)) (paths_on rows peers hops slots) ≡ None → lookup (is_at (key_cmp q)) (key_then o (attrs_on hops s) (paths_on rows peers hops slots)) ≡ None
    by_key None e ih = ih
    by_key (Some t) e ih = ap (λ b. cond b (Some (attrs_on hops s)) (lookup (is_at (key_cmp q)) (paths_on rows peers hops slots))) (h 0 s t refl e) ∙ ih

pub lookup_found : (rows : List Row) (peers : List Peer) (hops : List Addr) (q : PathKey) (slots : List PathSlot) (i : ℕ) (s : PathSlot) (t : PathKey) → slice_get slots i ≡ Some s → key_on rows peers s ≡ Some t → is_eq (key_cmp q t) ≡ true
    → ((j : ℕ) (u : PathSlot) (v : PathKey) → slice_get slots j ≡ Some u → key_on rows peers u ≡ Some v → is_eq (key_cmp q v) ≡ true → j ≡ i) → lookup (is_at (key_cmp q)) (paths_on rows peers hops slots) ≡ Some (attrs_on hops s)
unfolding paths_on
lookup_found rows peers hops q [] i s t g e m alone = absurd cc
lookup_found rows peers hops q (u ∷ slots) zero s t g e m alone =
    let x : u ≡ s = same_Some u s g in
    ap (λ o. lookup (is_at (key_cmp q)) (key_then o (attrs_on hops u) (paths_on rows peers hops slots))) (ap (key_on rows peers) x ∙ e)
    ∙ (ap (λ b. cond b (Some (attrs_on hops u)) (lookup (is_at (key_cmp q)) (paths_on rows peers hops slots))) m ∙ ap (λ y. Some (attrs_on hops y)) x)
lookup_found rows peers hops q (u ∷ slots) (suc i) s t g e m alone = by_key (key_on rows peers u) refl (lookup_found rows peers hops q slots i s t g e m (λ j y v a b c. ap pred (alone (suc j) y v a b c)))
  where
    pred : ℕ → ℕ
    pred zero = zero
    pred (suc n) = n

    apart : (v : PathKey) → key_on rows peers u ≡ Some v → (b : Bool) → is_eq (key_cmp q v) ≡ b → b ≡ false
    apart v f true y = let z : zero ≡ suc i = alone zero u v refl f y in absurd (omega (arith, z))
    apart v f false y = refl

    by_key : (o : Option PathKey) → key_on rows peers u ≡ o → lookup (is_at (key_cmp q)) (paths_on rows peers hops slots) ≡ Some (attrs_on hops s) → lookup (is_at (key_cmp q)) (key_then o (attrs_on hops u) (paths_on rows peers hops slots)) ≡ Some (attrs_on hops s)
    by_key None f ih = ih
    by_key (Some v) f ih = ap (λ b. cond b (Some (attrs_on hops u)) (lookup (is_at (key_cmp q)) (paths_on rows peers hops slots))) (apart v f (is_eq (key_cmp q v)) refl) ∙ ih

-- ---- one row of a prefix, one number of a peer, one slot of a path key

pub one_row : (b : Flat) → IsFlat b → (i j : ℕ) (r t : Row) → slice_get b.rows.items i ≡ Some r → slice_get b.rows.items j ≡ Some t → code_cmp r.prefix t.prefix ≡ Equal → i ≡ j
one_row b f i j r t g h e = elim (cases_lt i j) [
  | inl l ↦ let x : Less ≡ Equal = sym (f.ordered i j r t l g h) ∙ e in absurd cc
  | inr l ↦ elim (cases_lt j i) [
    | inl m ↦ let x : Less ≡ Equal = sym (f.ordered j i t r m h g) ∙ tied_back prefix_total r.prefix t.prefix e in absurd cc
    | inr m ↦ omega (arith, l, m)
  ]
]

-- the peer's number of a slot that is a path key is one
pub is_there : {X : Type 0} (xs : List X) (n m : ℕ) (x : X) → length xs ≤ m → slice_get xs n ≡ Some x → n ≢ m
is_there xs n m x l g e = let k : n < length xs = slice_get_within xs n x g in omega (arith, k, l, e)

pub same_key_slots : (b : Flat) → IsFlat b → (i j : ℕ) (s u : PathSlot) (t v : PathKey) → slice_get b.rows.slots i ≡ Some s → slice_get b.rows.slots j ≡ Some u → key_on b.rows.items b.peers.keys s ≡ Some t → key_on b.rows.items b.peers.keys u ≡ Some v → is_eq (key_cmp t v) ≡ true → i ≡ j
same_key_slots b f i j s u t v g h a c e =
    let x = key_parts b.rows.items b.peers.keys s t a in
    let y = key_parts b.rows.items b.peers.keys u v c in
    let p = same_parts t v e in
    let row : code_cmp x.row.prefix y.row.prefix ≡ Equal = ap (λ (k : PathKey). code_cmp k.prefix y.row.prefix) x.is ∙ (ap (λ (k : PathKey). code_cmp t.prefix k.prefix) y.is ∙ p.prefix) in
    let peer : code_peer_cmp x.peer y.peer ≡ Equal = ap (λ (k : PathKey). code_peer_cmp k.via.peer y.peer) x.is ∙ (ap (λ (k : PathKey). code_peer_cmp t.via.peer k.via.peer) y.is ∙ p.peer) in
    let id : s.id ≡ u.id = ap (λ (k : PathKey). k.via.id) x.is ∙ (p.id ∙ sym (ap (λ (k : PathKey). k.via.id) y.is)) in
    f.alone i j s u g h (one_row b f s.row u.row x.row y.row x.row_there y.row_there row) (f.numbers s.peer u.peer x.peer y.peer x.peer_there y.peer_there (sym (peer_same x.peer y.peer) ∙ ap is_eq peer)) id (is_there b.peers.keys s.peer no_peer x.peer f.few_peers x.peer_there)

paths_join : (q t v : PathKey) → is_eq (key_cmp q t) ≡ true → is_eq (key_cmp q v) ≡ true → is_eq (key_cmp t v) ≡ true
paths_join q t v a b = ap is_eq (sym (key_total.congr q t v (is_equal _ a))) ∙ b

-- what is offered at the slot of a path key
pub attrs_found : (b : Flat) (q : PathKey) (i : ℕ) → IsFlat b → (x : IsSlotOf b q i) → lookup (is_at (key_cmp q)) (flat_paths b) ≡ Some (attrs_on b.hops.keys x.slot)
attrs_found b q i f x =
    lookup_found b.rows.items b.peers.keys b.hops.keys q b.rows.slots i x.slot x.key x.there x.is x.same
    (λ j u v g e m. same_key_slots b f j i u x.slot v x.key g x.there e x.is (paths_join q v x.key m x.same))

-- ---- what is not there

pub no_row_key : (b : Flat) (q : PathKey) → HasNoRow b.rows.items q.prefix → HasNoKey b q
no_row_key b q n = lookup_none b.rows.items b.peers.keys b.hops.keys q b.rows.slots (λ i s t g e. by_test s t e (is_eq (key_cmp q t)) refl)
  where
    by_test : (s : PathSlot) (t : PathKey) → key_on b.rows.items b.peers.keys s ≡ Some t → (d : Bool) → is_eq (key_cmp q t) ≡ d → d ≡ false
    by_test s t e true m =
        let x = key_parts b.rows.items b.peers.keys s t e in
        let y : is_eq (code_cmp q.prefix x.row.prefix) ≡ true = ap (λ (k : PathKey). is_eq (code_cmp q.prefix k.prefix)) x.is ∙ ap is_eq (same_parts q t m).prefix in
        let z : is_eq (code_cmp q.prefix x.row.prefix) ≡ false = n s.row x.row x.row_there in absurd cc
    by_test s t e false m = refl

pub no_number_key : (b : Flat) (q : PathKey) → HasNoNumber b.peers.keys q.via.peer → HasNoKey b q
no_number_key b q n = lookup_none b.rows.items b.peers.keys b.hops.keys q b.rows.slots (λ i s t g e. by_test s t e (is_eq (key_cmp q t)) refl)
  where
    by_test : (s : PathSlot) (t : PathKey) → key_on b.rows.items b.peers.keys s ≡ Some t → (d : Bool) → is_eq (key_cmp q t) ≡ d → d ≡ false
    by_test s t e true m =
        let x = key_parts b.rows.items b.peers.keys s t e in
        let y : is_eq (code_peer_cmp q.via.peer x.peer) ≡ true = ap (λ (k : PathKey). is_eq (code_peer_cmp q.via.peer k.via.peer)) x.is ∙ ap is_eq (same_parts q t m).peer in
        let z : same_peer (peer_as q.via.peer) (peer_as x.peer) ≡ false = n s.peer x.peer x.peer_there in
        let w : is_eq (code_peer_cmp q.via.peer x.peer) ≡ false = peer_same q.via.peer x.peer ∙ z in absurd cc
    by_test s t e false m = refl

pub no_slot_key : (b : Flat) (q : PathKey) (r n : ℕ) → IsFlat b → IsRowPlace b.rows.items q.prefix r → IsPeerNumber b.peers.keys q.via.peer n → HasNoSlot b.rows.slots r n q.via.id → HasNoKey b q
no_slot_key b q r n f row number none = lookup_none b.rows.items b.peers.keys b.hops.keys q b.rows.slots (λ i s t g e. by_test i s t g e (is_eq (key_cmp q t)) refl)
  where
    by_test : (i : ℕ) (s : PathSlot) (t : PathKey) → slice_get b.rows.slots i ≡ Some s → key_on b.rows.items b.peers.keys s ≡ Some t → (d : Bool) → is_eq (key_cmp q t) ≡ d → d ≡ false
    by_test i s t g e true m =
        let x = key_parts b.rows.items b.peers.keys s t e in
        let p = same_parts q t m in
        let a : code_cmp q.prefix x.row.prefix ≡ Equal = ap (λ (k : PathKey). code_cmp q.prefix k.prefix) x.is ∙ p.prefix in
        let c : code_peer_cmp q.via.peer x.peer ≡ Equal = ap (λ (k : PathKey). code_peer_cmp q.via.peer k.via.peer) x.is ∙ p.peer in
        let id : s.id ≡ q.via.id = ap (λ (k : PathKey). k.via.id) x.is ∙ sym p.id in
        let d : code_cmp row.0.prefix x.row.prefix ≡ Equal = sym (prefix_total.congr q.prefix row.0.prefix x.row.prefix (is_equal _ row.2)) ∙ a in
        let h : code_peer_cmp number.0 x.peer ≡ Equal = sym (peer_total.congr q.via.peer number.0 x.peer (is_equal _ (peer_same q.via.peer number.0 ∙ number.2))) ∙ c in
        absurd (none i s g (one_row b f s.row r x.row row.0 x.row_there row.1 (tied_back prefix_total row.0.prefix x.row.prefix d)) (f.numbers s.peer n x.peer number.0 x.peer_there number.1 (sym (peer_same x.peer number.0) ∙ ap is_eq (tied_back peer_total number.0 x.peer h))) id)
    by_test i s t g e false m = refl

pub slot_key : (b : Flat) (q : PathKey) (r n i : ℕ) → IsRowPlace b.rows.items q.prefix r → IsPeerNumber b.peers.keys q.via.peer n → IsSlot b.rows.slots r n q.via.id i → IsSlotOf b q i
slot_key b q r n i row number slot = record {
  slot = slot.0;
  there = slot.1;
  key = key_by slot.0 row.0 number.0;
  is = key_made b.rows.items b.peers.keys slot.0 row.0 number.0 (ap (slice_get b.rows.items) slot.2 ∙ row.1) (ap (slice_get b.peers.keys) slot.3 ∙ number.1);
  same = parts_same q (key_by slot.0 row.0 number.0) (is_equal _ (peer_same q.via.peer number.0 ∙ number.2)) (is_equal _ row.2) (sym slot.4);
}

-- ---- what the code reads

-- an element of the slice that a list lends
pub read : {X : Type 0} (xs ys : List X) (i : ℕ) (x : X) → xs ≡ ys → i < length xs → x ≡ get_or xs i x → slice_get ys i ≡ Some x
read xs ys i x d l e = ap (λ zs. slice_get zs i) (sym d) ∙ slice_get_read xs (length xs) i x refl l e

-- what is offered at the slot of a path key, read without the slot's row
pub attrs_read : (b : Flat) (q : PathKey) (i : ℕ) → IsFlat b → IsSlotOf b q i → (s : RunSlot) → Some s ≡ option_map rowless (slice_get b.rows.slots i) → (o : Option PathAttrs) → o ≡ attrs_by b.hops.keys s.path s.hop → lookup (is_at (key_cmp q)) (flat_paths b) ≡ Some o
attrs_read b q i f x s e o h =
    let k : rowless x.slot ≡ s = sym (same_Some s (rowless x.slot) (e ∙ ap (option_map rowless) x.there)) in
    attrs_found b q i f x ∙ (ap (λ (y : RunSlot). Some (attrs_by b.hops.keys y.path y.hop)) k ∙ sym (ap Some h))

pub bare_kept : (b : Flat) (q : PathKey) (i : ℕ) → IsSlotOf b q i → None ≡ option_map rowless (slice_get b.rows.slots i) → ⊥
bare_kept b q i x e = none-some _ (e ∙ ap (option_map rowless) x.there)

-- the slot of what was read without its row
pub bare_slot : (o : Option PathSlot) (s : RunSlot) → Some s ≡ option_map rowless o → (t : PathSlot) × (o ≡ Some t) × (rowless t ≡ s)
bare_slot None s e = absurd cc
bare_slot (Some t) s e = (t, refl, sym (same_Some s (rowless t) e))

pub last_free : (b : Flat) (q i : ℕ) (s : RunSlot) → q ≢ no_peer → Some s ≡ option_map rowless (slice_get b.rows.slots i) → s.hop ≡ no_hop → chain_end b.ends.items q ≡ suc i → IsLastFree b q i
last_free b q i s listed e free last = let t = bare_slot (slice_get b.rows.slots i) s e in record { listed = listed; slot = t.0; there = t.1; free = ap (λ (y : RunSlot). y.hop) t.2 ∙ free; last = last }

abbrev peer_test : Peer → Peer → Bool
peer_test p q = (sameb the_type p.addr.family q.addr.family && nat_eq p.addr.bits q.addr.bits) && nat_eq p.asn q.asn

peer_test_is : (p q : Peer) → peer_test p q ≡ same_peer (peer_as p) (peer_as q)
peer_test_is p q = peer_eq p q ∙ peer_same p q

pub number_told : (q : Peer) (keys : List Peer) (o : Option ℕ) → o ≡ position (peer_test q) keys → MatchOption o (HasNoNumber keys q) (IsPeerNumber keys q)
number_told q keys None e = λ i r g. sym (peer_test_is q r) ∙ position_none (peer_test q) keys (sym e) i r g
number_told q keys (Some n) e = let f = position_found (peer_test q) keys n (sym e) in (f.0, f.1, sym (peer_test_is q f.0) ∙ f.2)

-- ---- rows

pub all_behind : (b : Flat) (p : code.Prefix) (last : Row) → IsFlat b → slice_get b.rows.items (length b.rows.items - 1) ≡ Some last → code_cmp last.prefix p ≡ Less → IsBehind b.rows.items p
all_behind b p last f there less i row g = elim (cases_lt i (length b.rows.items - 1)) [
  | inl m ↦ prefix_total.trans row.prefix last.prefix p (f.ordered i (length b.rows.items - 1) row last m g there) less
  | inr m ↦
      let k : i ≡ length b.rows.items - 1 = omega (arith, m, slice_get_within b.rows.items i row g) in
      let x : row ≡ last = same_Some row last (sym g ∙ (ap (slice_get b.rows.items) k ∙ there)) in
      ap (λ (r : Row). code_cmp r.prefix p) x ∙ less
]

pub behind_none : (rows : List Row) (p : code.Prefix) → IsBehind rows p → HasNoRow rows p
behind_none rows p h = λ i row g. flipped row.prefix p (h i row g)

pub last_row : (rows : List Row) (p : code.Prefix) (last : Row) → slice_get rows (length rows - 1) ≡ Some last → code_cmp last.prefix p ≡ Equal → IsLastRow rows p (length rows - 1)
last_row rows p last there same = let l : length rows - 1 < length rows = slice_get_within rows (length rows - 1) last there in ((last, there, ap is_eq (tied_back prefix_total last.prefix p same)), omega (arith, l))

-- ---- the run of a row

pub in_run : (b : Flat) (r from to j : ℕ) (s : PathSlot) → IsFlat b → IsSlotRun b.rows.items r (length b.rows.slots) from to → slice_get b.rows.slots j ≡ Some s → s.row ≡ r → (from ≤ j) × (j < to)
in_run b r from to j s f run g e =
    let x = f.placed j s g in
    let here : slice_get b.rows.items r ≡ Some x.row = ap (slice_get b.rows.items) (sym e) ∙ x.there in
    let start : from ≡ x.row.off = run.0 ∙ ap (off_or (length b.rows.slots)) here in
    (subst (λ n. n ≤ j) (sym start) x.from, by_next (slice_get b.rows.items (suc r)) refl)
  where
    by_next : (o : Option Row) → slice_get b.rows.items (suc r) ≡ o → j < to
    by_next None h = subst (λ n. j < n) (sym (run.1 ∙ ap (off_or (length b.rows.slots)) h)) (slice_get_within b.rows.slots j s g)
    by_next (Some next) h = subst (λ n. j < n) (sym (run.1 ∙ ap (off_or (length b.rows.slots)) h)) ((f.placed j s g).to next (ap (λ n. slice_get b.rows.items (suc n)) e ∙ h))

-- none of these slots is the row's and the peer's
abbrev pub NoneBefore : List PathSlot → ℕ → ℕ → ℕ → ℕ → ℕ → Type 0
NoneBefore slots r q id from to = (j : ℕ) (s : PathSlot) → from ≤ j → j < to → slice_get slots j ≡ Some s → s.row ≡ r → s.peer ≡ q → s.id ≡ id → ⊥

pub none_at_all : (b : Flat) (r q id from to i : ℕ) → IsFlat b → IsSlotRun b.rows.items r (length b.rows.slots) from to → to ≤ i → NoneBefore b.rows.slots r q id from i → HasNoSlot b.rows.slots r q id
none_at_all b r q id from to i f run l h j s g a c = let x = in_run b r from to j s f run g a in h j s x.0 (omega (arith, x.1, l)) g a c

-- ---- numbers that are given

addr_made : (f g : Family) (m n : ℕ) (x : m < 2 ^ width f) (y : n < 2 ^ width g) → f ≡ g → m ≡ n → (let r : Addr = record { family = f; bits = m; below = x } in r) ≡ record { family = g; bits = n; below = y }
addr_made V4 V4 m n x y e h = subst (λ k. (z : k < 2 ^ width V4) → (let r : Addr = record { family = V4; bits = m; below = x } in r) ≡ record { family = V4; bits = k; below = z }) h (λ z. ap (λ (w : m < 2 ^ width V4). let r : Addr = record { family = V4; bits = m; below = w } in r) (le_prop x z)) y
addr_made V6 V6 m n x y e h = subst (λ k. (z : k < 2 ^ width V6) → (let r : Addr = record { family = V6; bits = m; below = x } in r) ≡ record { family = V6; bits = k; below = z }) h (λ z. ap (λ (w : m < 2 ^ width V6). let r : Addr = record { family = V6; bits = m; below = w } in r) (le_prop x z)) y
addr_made V4 V6 m n x y e h = absurd cc
addr_made V6 V4 m n x y e h = absurd cc

abbrev addr_test : Addr → Addr → Bool
addr_test a b = sameb the_type a.family b.family && nat_eq a.bits b.bits

same_family_is : (f g : Family) → sameb the_type f g ≡ true → f ≡ g
same_family_is V4 V4 e = refl
same_family_is V4 V6 e = absurd cc
same_family_is V6 V4 e = absurd cc
same_family_is V6 V6 e = refl

pub addr_same : (a b : Addr) → addr_test a b ≡ true → a ≡ b
addr_same a b t = addr_made a.family b.family a.bits b.bits a.below b.below (same_family_is a.family b.family (and_left _ _ t)) (same_bits_is (nat_eq a.bits b.bits) refl (and_right (sameb the_type a.family b.family) _ t))
  where
    and_left : (x y : Bool) → (x && y) ≡ true → x ≡ true
    and_left true y e = refl
    and_left false y e = absurd cc

    and_right : (x y : Bool) → (x && y) ≡ true → y ≡ true
    and_right true y e = e
    and_right false y e = absurd cc

    same_bits_is : (d : Bool) → nat_eq a.bits b.bits ≡ d → d ≡ true → a.bits ≡ b.bits
    same_bits_is true e f = grind (arith, e)
    same_bits_is false e f = absurd cc

pub hop_told : (h : Addr) (keys : List Addr) (at : ℕ) → Some at ≡ position (addr_test h) keys → slice_get keys at ≡ Some h
hop_told h keys at e = let f = position_found (addr_test h) keys at (sym e) in f.1 ∙ ap Some (sym (addr_same h f.0 f.2))

pub none_behind : (rows : List Row) (p : code.Prefix) → slice_get rows (length rows - 1) ≡ None → IsBehind rows p
none_behind rows p none i row g =
    let m : i < length rows = slice_get_within rows i row g in
    absurd (none-some _ (sym none ∙ slice_get-get_or rows (length rows - 1) row (omega (arith, m))))

pub tried : (at : ℕ) (o : Option ℕ) (keys : List Addr) (h : Addr) → slice_get keys at ≡ Some h → IfSome o (λ n. n ≡ at) → IfSome o (λ n. slice_get keys n ≡ Some h)
tried at None keys h g e = tt
tried at (Some n) keys h g e = ap (slice_get keys) e ∙ g

-- ---- what stays as the numbers grow

via_stays : (peers crowd : List Peer) (s : PathSlot) → KeepsNumbers peers crowd → length peers ≤ no_peer → length crowd ≤ no_peer → ((q : Peer) × (slice_get peers s.peer ≡ Some q)) ⊎ (s.peer ≡ no_peer) → via_on crowd s ≡ via_on peers s
via_stays peers crowd s a few many c = ap (λ x. via_or x s.id) (elim c [
  | inl x ↦ a s.peer x.0 x.1 ∙ sym x.1
  | inr x ↦ slice_get_past crowd s.peer (subst (λ n. length crowd ≤ n) (sym x) many) ∙ sym (slice_get_past peers s.peer (subst (λ n. length peers ≤ n) (sym x) few))
])

key_stays : (rows more : List Row) (peers crowd : List Peer) (s : PathSlot) (r : Row) → KeepsNumbers rows more → slice_get rows s.row ≡ Some r → via_on crowd s ≡ via_on peers s → key_on more crowd s ≡ key_on rows peers s
key_stays rows more peers crowd s r a f v = ap (key_or (slice_get more s.row)) v ∙ ap (λ x. key_or x (via_on peers s)) (a s.row r f ∙ sym f)

attrs_stays : (hops more : List Addr) (s : PathSlot) → KeepsNumbers hops more → length hops ≤ no_hop → length more ≤ no_hop → ((h : Addr) × (slice_get hops s.hop ≡ Some h)) ⊎ (s.hop ≡ no_hop) → attrs_on more s ≡ attrs_on hops s
attrs_stays hops more s a few many c = ap (option_map (λ h. let o : PathAttrs = record { path = s.path; hop = h } in o)) (elim c [
  | inl x ↦ a s.hop x.0 x.1 ∙ sym x.1
  | inr x ↦ slice_get_past more s.hop (subst (λ n. length more ≤ n) (sym x) many) ∙ sym (slice_get_past hops s.hop (subst (λ n. length hops ≤ n) (sym x) few))
])

pub paths_stay : (rows more : List Row) (peers crowd : List Peer) (hops ways : List Addr) (slots : List PathSlot) → ((i : ℕ) (s : PathSlot) → slice_get slots i ≡ Some s → (key_on more crowd s ≡ key_on rows peers s) × (attrs_on ways s ≡ attrs_on hops s)) → paths_on more crowd ways slots ≡ paths_on rows peers hops slots
unfolding paths_on
paths_stay rows more peers crowd hops ways [] h = refl
paths_stay rows more peers crowd hops ways (s ∷ slots) h =
    let x = h 0 s refl in
    ap (λ o. key_then o (attrs_on ways s) (paths_on more crowd ways slots)) x.0 ∙ (ap (λ o. key_then (key_on rows peers s) o (paths_on more crowd ways slots)) x.1 ∙ ap (key_then (key_on rows peers s) (attrs_on hops s)) (paths_stay rows more peers crowd hops ways slots (λ i t g. h (suc i) t g)))

-- with more rows, peers and hops
pub grown_paths : (rows more : List Row) (slots : List PathSlot) (peers crowd : List Peer) (hops ways : List Addr) (ends : List ℕ) → AreFlat rows slots peers hops ends → KeepsNumbers rows more → KeepsNumbers peers crowd → length crowd ≤ no_peer → KeepsNumbers hops ways → length ways ≤ no_hop → paths_on more crowd ways slots ≡ paths_on rows peers hops slots
grown_paths rows more slots peers crowd hops ways ends f a c n d m = paths_stay rows more peers crowd hops ways slots (λ i s g. let x = f.placed i s g in (key_stays rows more peers crowd s x.row a x.there (via_stays peers crowd s c f.few_peers n x.peer), attrs_stays hops ways s d f.few m x.hop))

stays_or : {X : Type 0} (old new : List X) (n none : ℕ) → KeepsNumbers old new → ((x : X) × (slice_get old n ≡ Some x)) ⊎ (n ≡ none) → ((x : X) × (slice_get new n ≡ Some x)) ⊎ (n ≡ none)
stays_or old new n none a c = elim c [
  | inl x ↦ inl (x.0, a n x.0 x.1)
  | inr x ↦ inr x
]

pub more_hops : (rows : List Row) (slots : List PathSlot) (peers crowd : List Peer) (hops ways : List Addr) (ends : List ℕ) → AreFlat rows slots peers hops ends → KeepsNumbers peers crowd → AreNumbers crowd → length crowd ≤ no_peer → length crowd ≤ length ends → KeepsNumbers hops ways → length ways ≤ no_hop → AreFlat rows slots crowd ways ends
more_hops rows slots peers crowd hops ways ends f c n few room d m = record {
  ordered = f.ordered;
  placed = λ i s g. let x = f.placed i s g in record { row = x.row; there = x.there; from = x.from; to = x.to; peer = stays_or peers crowd s.peer no_peer c x.peer; hop = stays_or hops ways s.hop no_hop d x.hop };
  within = f.within;
  alone = f.alone;
  few = m;
  few_peers = few;
  numbers = n;
  listed = room;
  chained = f.chained;
}

pub row_pushed : (rows : List Row) (slots : List PathSlot) (peers : List Peer) (hops : List Addr) (ends : List ℕ) (p : code.Prefix) (row : Row) → AreFlat rows slots peers hops ends → IsBehind rows p → row.prefix ≡ p → row.off ≡ length slots → AreFlat (rows ++ row ∷ []) slots peers hops ends
row_pushed rows slots peers hops ends p row f behind e o = record {
  ordered = λ i j r t l g h. elim (got_pushed rows row j t h) [
    | inl y ↦ elim (got_pushed rows row i r g) [
      | inl x ↦ f.ordered i j r t l x y
      | inr x ↦ let m : j < length rows = slice_get_within rows j t y in absurd (omega (arith, l, m, x.0))
    ]
    | inr y ↦ elim (got_pushed rows row i r g) [
      | inl x ↦ ap (code_cmp r.prefix) (ap (λ (k : Row). k.prefix) (sym y.1) ∙ e) ∙ behind i r x
      | inr x ↦ absurd (omega (arith, l, x.0, y.0))
    ]
  ];
  placed = λ i s g. let x = f.placed i s g in record {
    row = x.row;
    there = got_old rows (row ∷ []) s.row x.row x.there;
    from = x.from;
    to = λ next h. elim (got_pushed rows row (suc s.row) next h) [
      | inl y ↦ x.to next y
      | inr y ↦ subst (λ (k : Row). i < k.off) y.1 (subst (λ n. i < n) (sym o) (slice_get_within slots i s g))
    ];
    peer = x.peer;
    hop = x.hop;
  };
  within = λ i r g. elim (got_pushed rows row i r g) [
    | inl x ↦ f.within i r x
    | inr x ↦ let y : r.off ≡ length slots = ap (λ (k : Row). k.off) (sym x.1) ∙ o in omega (arith, y)
  ];
  alone = f.alone;
  few = f.few;
  few_peers = f.few_peers;
  numbers = f.numbers;
  listed = f.listed;
  chained = f.chained;
}

pub row_new : (rows : List Row) (p : code.Prefix) (row : Row) → row.prefix ≡ p → (n : ℕ) → n ≡ length rows → IsLastRow (rows ++ row ∷ []) p n
row_new rows p row e n k =
    ((row, ap (slice_get (rows ++ row ∷ [])) k ∙ got_new rows row, ap (λ x. is_eq (code_cmp p x)) e ∙ ap is_eq (tied_itself prefix_total p)), ap suc k ∙ grows)
  where
    grows : suc (length rows) ≡ length (rows ++ row ∷ [])
    grows = omega (arith, length-append rows (row ∷ []))

pub row_paths : (rows more : List Row) (slots : List PathSlot) (peers : List Peer) (hops : List Addr) (ends : List ℕ) (row : Row) → AreFlat rows slots peers hops ends → more ≡ rows ++ row ∷ [] → paths_on more peers hops slots ≡ paths_on rows peers hops slots
row_paths rows more slots peers hops ends row f e = grown_paths rows more slots peers peers hops hops ends f (subst (KeepsNumbers rows) (sym e) (got_old rows (row ∷ []))) (λ i x g. g) f.few_peers (λ i x g. g) f.few

-- ---- finding a path key

pub found_key : (b : Flat) (q : PathKey) (r n : ℕ) → IsFlat b → IsRowPlace b.rows.items q.prefix r → IsPeerNumber b.peers.keys q.via.peer n → (o : Option ℕ) → MatchOption o (HasNoSlot b.rows.slots r n q.via.id) (IsSlot b.rows.slots r n q.via.id) → MatchOption o (HasNoKey b q) (IsSlotOf b q)
found_key b q r n f row number None h = no_slot_key b q r n f row number h
found_key b q r n f row number (Some i) h = slot_key b q r n i row number h

pub no_key : (b : Flat) (q : PathKey) → HasNoKey b q → (o : Option ℕ) → o ≡ None → MatchOption o (HasNoKey b q) (IsSlotOf b q)
no_key b q h None e = h
no_key b q h (Some i) e = absurd cc

-- a path key whose slot wasn't found
pub no_key_there : (b : Flat) (q : PathKey) (r n : ℕ) (o : Option ℕ) → IsFlat b → IsRowPlace b.rows.items q.prefix r → IsPeerNumber b.peers.keys q.via.peer n → MatchOption o (HasNoSlot b.rows.slots r n q.via.id) (IsSlot b.rows.slots r n q.via.id) → o ≡ None → HasNoKey b q
no_key_there b q r n None f row number h e = no_slot_key b q r n f row number h
no_key_there b q r n (Some i) f row number h e = absurd cc

peer_back : (p q : Peer) → peer_test p q ≡ peer_test q p
peer_back p q = peer_eq p q ∙ (ap is_eq (peer_total.antisymm p q) ∙ (turned (code_peer_cmp q p) ∙ sym (peer_eq q p)))
  where
    turned : (o : Ordering) → is_eq (ordering_reverse o) ≡ is_eq o
    turned Less = refl
    turned Equal = refl
    turned Greater = refl

pub apart_peers : (keys : List Peer) (q : Peer) (after : List Peer) → after ≡ cond (list_any (peer_test q) keys) keys (keys ++ q ∷ []) → AreNumbers keys → AreNumbers after
apart_peers keys q after e h = λ i j p r g k t. apart_key peer_test keys q after peer_back e (λ i j p r g k t. h i j p r g k (sym (peer_test_is p r) ∙ t)) i j p r g k (peer_test_is p r ∙ t)

-- ---- a slot behind all others

abbrev pub or_else : {X : Type 0} → Option X → Option X → Option X
or_else None y = y
or_else (Some x) y = Some x

pub slot_pushed : (b : Flat) (s : PathSlot) (end : ℕ) → IsFlat b → IsNextSlot b s → end ≡ suc (length b.rows.slots) → AreFlat b.rows.items (b.rows.slots ++ s ∷ []) b.peers.keys b.hops.keys (slice_set b.ends.items s.peer end)
slot_pushed b s end f x at = record {
  ordered = f.ordered;
  placed = λ i u g. elim (got_pushed b.rows.slots s i u g) [
    | inl y ↦ f.placed i u y
    | inr y ↦ subst (λ (w : PathSlot). IsSlotPlaced b.rows.items b.peers.keys b.hops.keys i w) y.1 (record {
      row = x.row;
      there = x.there;
      from = subst (λ n. x.row.off ≤ n) (sym y.0) (f.within s.row x.row x.there);
      to = λ next h. let m : suc s.row < length b.rows.items = slice_get_within b.rows.items (suc s.row) next h in absurd (omega (arith, m, x.last));
      peer = inl (x.peer, x.peer_there);
      hop = inl (x.hop, x.hop_there);
    })
  ];
  within = λ i r g. let m : r.off ≤ length b.rows.slots = f.within i r g in omega (arith, m, length-append b.rows.slots (s ∷ []));
  alone = λ i j u v g h e a d n. elim (got_pushed b.rows.slots s i u g) [
    | inl y ↦ elim (got_pushed b.rows.slots s j v h) [
      | inl z ↦ f.alone i j u v y z e a d n
      | inr z ↦ absurd (x.new i u y (e ∙ ap (λ (w : PathSlot). w.row) (sym z.1)) (a ∙ ap (λ (w : PathSlot). w.peer) (sym z.1)) (d ∙ ap (λ (w : PathSlot). w.id) (sym z.1)))
    ]
    | inr y ↦ elim (got_pushed b.rows.slots s j v h) [
      | inl z ↦ absurd (x.new j v z (sym e ∙ ap (λ (w : PathSlot). w.row) (sym y.1)) (sym a ∙ ap (λ (w : PathSlot). w.peer) (sym y.1)) (sym d ∙ ap (λ (w : PathSlot). w.id) (sym y.1)))
      | inr z ↦ y.0 ∙ sym z.0
    ]
  ];
  few = f.few;
  few_peers = f.few_peers;
  numbers = f.numbers;
  listed = subst (λ n. length b.peers.keys ≤ n) (sym (length-set b.ends.items s.peer end)) f.listed;
  chained = chain_pushed b.rows.slots b.ends.items s end f.chained (omega (arith, slice_get_within b.peers.keys s.peer x.peer x.peer_there, f.listed)) (is_there b.peers.keys s.peer no_peer x.peer f.few_peers x.peer_there) x.link at;
}

pub paths_more : (rows : List Row) (peers : List Peer) (hops : List Addr) (xs ys : List PathSlot) → paths_on rows peers hops (xs ++ ys) ≡ paths_on rows peers hops xs ++ paths_on rows peers hops ys
unfolding paths_on
paths_more rows peers hops [] ys = refl
paths_more rows peers hops (x ∷ xs) ys = by_key (key_on rows peers x) (paths_more rows peers hops xs ys)
  where
    by_key : (o : Option PathKey) → paths_on rows peers hops (xs ++ ys) ≡ paths_on rows peers hops xs ++ paths_on rows peers hops ys → key_then o (attrs_on hops x) (paths_on rows peers hops (xs ++ ys)) ≡ key_then o (attrs_on hops x) (paths_on rows peers hops xs) ++ paths_on rows peers hops ys
    by_key None ih = ih
    by_key (Some t) ih = ap (λ z. (t, attrs_on hops x) ∷ z) ih

pub lookup_last : {X : Type 0} (f : PathKey → Bool) (xs : List (PathKey × X)) (t : PathKey) (v : X) → lookup f (xs ++ (t, v) ∷ []) ≡ or_else (lookup f xs) (cond (f t) (Some v) None)
lookup_last f [] t v = refl
lookup_last {X = X} f (x ∷ xs) t v = by_test (f x.0) (lookup_last f xs t v)
  where
    by_test : (b : Bool) → lookup f (xs ++ (t, v) ∷ []) ≡ or_else (lookup f xs) (cond (f t) (Some v) None) → cond b (Some x.1) (lookup f (xs ++ (t, v) ∷ [])) ≡ or_else (cond b (Some x.1) (lookup f xs)) (cond (f t) (Some v) None)
    by_test true ih = refl
    by_test false ih = ih

-- s is t and q is t, so s is q
same_right : (s t q : PathKey) → is_eq (key_cmp s t) ≡ true → is_eq (key_cmp q t) ≡ true → is_eq (key_cmp s q) ≡ true
same_right s t q e u = ap is_eq (key_total.congr s t q (is_equal _ e) ∙ tied_back key_total q t (is_equal _ u))

pub same_lookup : (s q : PathKey) (xs : Paths) → is_eq (key_cmp s q) ≡ true → lookup (is_at (key_cmp q)) xs ≡ lookup (is_at (key_cmp s)) xs
same_lookup s q xs e = lookup_by_test (is_at (key_cmp q)) (is_at (key_cmp s)) xs (λ k. ap is_eq (sym (key_total.congr s q k (is_equal _ e))))

pub put_last : (xs : Paths) (s t : PathKey) (o : Option PathAttrs) → lookup (is_at (key_cmp s)) xs ≡ None → is_eq (key_cmp s t) ≡ true → Puts xs (xs ++ (t, o) ∷ []) s o
put_last xs s t o n e q = lookup_last (is_at (key_cmp q)) xs t o ∙ by_test (is_eq (key_cmp s q)) refl
  where
    by_test : (b : Bool) → is_eq (key_cmp s q) ≡ b → or_else (lookup (is_at (key_cmp q)) xs) (cond (is_eq (key_cmp q t)) (Some o) None) ≡ cond b (Some o) (lookup (is_at (key_cmp q)) xs)
    by_test true m =
        ap (λ x. or_else x (cond (is_eq (key_cmp q t)) (Some o) None)) (same_lookup s q xs m ∙ n)
        ∙ ap (λ c. cond c (Some o) None) (ap is_eq (sym (key_total.congr s q t (is_equal _ m))) ∙ e)
    by_test false m = ap (λ c. or_else (lookup (is_at (key_cmp q)) xs) (cond c (Some o) None)) (by_other (is_eq (key_cmp q t)) refl) ∙ nothing (lookup (is_at (key_cmp q)) xs)
      where
        by_other : (c : Bool) → is_eq (key_cmp q t) ≡ c → c ≡ false
        by_other true u = let x : is_eq (key_cmp s q) ≡ true = same_right s t q e u in absurd cc
        by_other false u = refl

        nothing : (x : Option (Option PathAttrs)) → or_else x None ≡ x
        nothing None = refl
        nothing (Some x) = refl

-- what a peer and a row that hold no path key say of slots
pub no_slot_yet : (b : Flat) (q : PathKey) (r n : ℕ) → IsFlat b → IsRowPlace b.rows.items q.prefix r → IsPeerNumber b.peers.keys q.via.peer n → HasNoKey b q → HasNoSlot b.rows.slots r n q.via.id
no_slot_yet b q r n f row number none i s g a c d = absurd (none-some _ (sym none ∙ attrs_found b q i f (slot_key b q r n i row number (s, g, a, c, d))))

-- ---- a slot's offer set

pub set_other : (rows : List Row) (peers : List Peer) (hops : List Addr) (q : PathKey) (slots : List PathSlot) (i : ℕ) (s u : PathSlot) (t : PathKey) → slice_get slots i ≡ Some s → key_on rows peers s ≡ Some t → key_on rows peers u ≡ Some t → is_eq (key_cmp q t) ≡ false → lookup (is_at (key_cmp q)) (paths_on rows peers hops (slice_set slots i u)) ≡ lookup (is_at (key_cmp q)) (paths_on rows peers hops slots)
unfolding paths_on
set_other rows peers hops q [] i s u t g e a n = refl
set_other rows peers hops q (x ∷ slots) zero s u t g e a n =
    let rest = paths_on rows peers hops slots in
    let y : key_on rows peers x ≡ Some t = ap (key_on rows peers) (same_Some x s g) ∙ e in
    ap (λ o. lookup (is_at (key_cmp q)) (key_then o (attrs_on hops u) rest)) a ∙ (ap (λ b. cond b (Some (attrs_on hops u)) (lookup (is_at (key_cmp q)) rest)) n
    ∙ (sym (ap (λ b. cond b (Some (attrs_on hops x)) (lookup (is_at (key_cmp q)) rest)) n) ∙ sym (ap (λ o. lookup (is_at (key_cmp q)) (key_then o (attrs_on hops x) rest)) y)))
set_other rows peers hops q (x ∷ slots) (suc i) s u t g e a n = by_key (key_on rows peers x) (set_other rows peers hops q slots i s u t g e a n)
  where
    by_key : (o : Option PathKey) → lookup (is_at (key_cmp q)) (paths_on rows peers hops (slice_set slots i u)) ≡ lookup (is_at (key_cmp q)) (paths_on rows peers hops slots) → lookup (is_at (key_cmp q)) (key_then o (attrs_on hops x) (paths_on rows peers hops (slice_set slots i u))) ≡ lookup (is_at (key_cmp q)) (key_then o (attrs_on hops x) (paths_on rows peers hops slots))
    by_key None ih = ih
    by_key (Some v) ih = ap (cond (is_eq (key_cmp q v)) (Some (attrs_on hops x))) ih

module _ (b : Flat) (q : PathKey) (at path hop : ℕ) (f : IsFlat b) (x : IsSlotOf b q at) (way : IsHopNumber b.hops.keys hop) where
  abbrev pub now : PathSlot
  now = with_attrs path hop x.slot

  pub slot_set : AreFlat b.rows.items (slice_set b.rows.slots at now) b.peers.keys b.hops.keys b.ends.items
  slot_set = record {
    ordered = f.ordered;
    placed = λ i u g. elim (got_set b.rows.slots at now i u g) [
      | inl y ↦ let p = f.placed at x.slot x.there in subst (λ (w : PathSlot). IsSlotPlaced b.rows.items b.peers.keys b.hops.keys i w) y.1 (record { row = p.row; there = p.there; from = subst (λ n. p.row.off ≤ n) (sym y.0) p.from; to = λ next h. subst (λ n. n < next.off) (sym y.0) (p.to next h); peer = p.peer; hop = way })
      | inr y ↦ f.placed i u y
    ];
    within = λ i r g. subst (λ n. r.off ≤ n) (sym (length-set b.rows.slots at now)) (f.within i r g);
    alone = λ i j u v g h e a d n. let y = got_back i u g in let z = got_back j v h in f.alone i j y.0 z.0 y.1 z.1 (y.2 ∙ (e ∙ sym z.2)) (y.3 ∙ (a ∙ sym z.3)) (y.4 ∙ (d ∙ sym z.4)) (λ k. n (sym y.3 ∙ k));
    few = f.few;
    few_peers = f.few_peers;
    numbers = f.numbers;
    listed = f.listed;
    chained = chain_kept b.rows.slots (slice_set b.rows.slots at now) b.ends.items f.chained (length-set b.rows.slots at now) (λ i u g. let y = got_back i u g in (y.0, y.1, y.3, y.5));
  }
    where
      -- what a slot was before
      got_back : (i : ℕ) (u : PathSlot) → slice_get (slice_set b.rows.slots at now) i ≡ Some u → (s : PathSlot) × (slice_get b.rows.slots i ≡ Some s) × (s.row ≡ u.row) × (s.peer ≡ u.peer) × (s.id ≡ u.id) × (s.link ≡ u.link)
      got_back i u g = elim (got_set b.rows.slots at now i u g) [
        | inl y ↦ (x.slot, ap (slice_get b.rows.slots) y.0 ∙ x.there, ap (λ (w : PathSlot). w.row) y.1, ap (λ (w : PathSlot). w.peer) y.1, ap (λ (w : PathSlot). w.id) y.1, ap (λ (w : PathSlot). w.link) y.1)
        | inr y ↦ (u, y, refl, refl, refl, refl)
      ]

  pub set_puts : (s : PathKey) → lookup (is_at (key_cmp s)) (paths_on b.rows.items b.peers.keys b.hops.keys (slice_set b.rows.slots at now)) ≡ cond (is_eq (key_cmp q s)) (Some (attrs_by b.hops.keys path hop)) (lookup (is_at (key_cmp s)) (flat_paths b))
  set_puts s = by_test (is_eq (key_cmp q s)) refl
    where
      -- each slot's path key stays
      alone : (j : ℕ) (u : PathSlot) (v : PathKey) → slice_get (slice_set b.rows.slots at now) j ≡ Some u → key_on b.rows.items b.peers.keys u ≡ Some v → is_eq (key_cmp s v) ≡ true → is_eq (key_cmp q s) ≡ true → j ≡ at
      alone j u v g e m k = elim (got_set b.rows.slots at now j u g) [
        | inl y ↦ y.0
        | inr y ↦ same_key_slots b f j at u x.slot v x.key y x.there e x.is (paths_join q v x.key (ap is_eq (key_total.congr q s v (is_equal _ k)) ∙ m) x.same)
      ]

      by_test : (c : Bool) → is_eq (key_cmp q s) ≡ c → lookup (is_at (key_cmp s)) (paths_on b.rows.items b.peers.keys b.hops.keys (slice_set b.rows.slots at now)) ≡ cond c (Some (attrs_by b.hops.keys path hop)) (lookup (is_at (key_cmp s)) (flat_paths b))
      by_test true m = lookup_found b.rows.items b.peers.keys b.hops.keys s (slice_set b.rows.slots at now) at now x.key (got_set_at b.rows.slots at now x.slot x.there) x.is (ap is_eq (sym (key_total.congr q s x.key (is_equal _ m))) ∙ x.same) (λ j u v g e n. alone j u v g e n m)
      by_test false m = set_other b.rows.items b.peers.keys b.hops.keys s b.rows.slots at x.slot now x.key x.there x.is x.is (by_other (is_eq (key_cmp s x.key)) refl)
        where
          by_other : (c : Bool) → is_eq (key_cmp s x.key) ≡ c → c ≡ false
          by_other true u = let y : is_eq (key_cmp q s) ≡ true = same_right q x.key s x.same u in absurd cc
          by_other false u = refl

pub number_stored : (q : Peer) (keys : List Peer) (n : ℕ) (r : Peer) → slice_get keys n ≡ Some r → peer_test q r ≡ true → IsPeerNumber keys q n
number_stored q keys n r g t = (r, g, sym (peer_test_is q r) ∙ t)

pub few_more : {X : Type 0} (b : Bool) (keys : List X) (x : X) (after : List X) (n : ℕ) → after ≡ cond b keys (keys ++ x ∷ []) → length keys < n → length after ≤ n
few_more true keys x after n e l = let m : length after ≡ length keys = ap length e in omega (arith, l, m)
few_more false keys x after n e l = let m : length after ≡ length (keys ++ x ∷ []) = ap length e in omega (arith, l, m, length-append keys (x ∷ []))

-- ---- from one state to the next

pub same_flat : (b n : Flat) (xs : List PathSlot) → n.rows.items ≡ b.rows.items → n.rows.slots ≡ xs → n.peers.keys ≡ b.peers.keys → n.hops.keys ≡ b.hops.keys → n.ends.items ≡ b.ends.items → AreFlat b.rows.items xs b.peers.keys b.hops.keys b.ends.items → IsFlat n
same_flat b n xs d e g h k f = subst (λ rows. AreFlat rows n.rows.slots n.peers.keys n.hops.keys n.ends.items) (sym d) (subst (λ slots. AreFlat b.rows.items slots n.peers.keys n.hops.keys n.ends.items) (sym e) (subst (λ peers. AreFlat b.rows.items xs peers n.hops.keys n.ends.items) (sym g) (subst (λ hops. AreFlat b.rows.items xs b.peers.keys hops n.ends.items) (sym h) (subst (AreFlat b.rows.items xs b.peers.keys b.hops.keys) (sym k) f))))

pub same_paths : (b n : Flat) (xs : List PathSlot) → n.rows.items ≡ b.rows.items → n.rows.slots ≡ xs → n.peers.keys ≡ b.peers.keys → n.hops.keys ≡ b.hops.keys → flat_paths n ≡ paths_on b.rows.items b.peers.keys b.hops.keys xs
same_paths b n xs d e g h = ap (λ rows. paths_on rows n.peers.keys n.hops.keys n.rows.slots) d ∙ (ap (λ peers. paths_on b.rows.items peers n.hops.keys n.rows.slots) g ∙ (ap (λ hops. paths_on b.rows.items b.peers.keys hops n.rows.slots) h ∙ ap (paths_on b.rows.items b.peers.keys b.hops.keys) e))

pub next_slot : (m : Flat) (q : PathKey) (r n h path id link : ℕ) (way : Addr) → IsFlat m → IsLastRow m.rows.items q.prefix r → IsPeerNumber m.peers.keys q.via.peer n → slice_get m.hops.keys h ≡ Some way → HasNoKey m q → id ≡ q.via.id → link ≡ chain_end m.ends.items n → IsNextSlot m (record { path = path; peer = n; id = id; hop = h; row = r; link = link })
next_slot m q r n h path id link way f row number there none i l = record { row = row.0.0; there = row.0.1; last = row.1; peer = number.0; peer_there = number.1; hop = way; hop_there = there; new = λ j s g a c d. no_slot_yet m q r n f row.0 number none j s g a c (d ∙ i); link = l }

pub attrs_made : (hops : List Addr) (path n : ℕ) (h : Addr) (o : PathAttrs) → slice_get hops n ≡ Some h → path ≡ o.path → h ≡ o.hop → attrs_by hops path n ≡ Some o
attrs_made hops path n h o g e a =
    ap (option_map (λ x. let y : PathAttrs = record { path = path; hop = x } in y)) g
    ∙ (ap (λ x. let y : PathAttrs = record { path = x; hop = h } in Some y) e ∙ ap (λ x. let y : PathAttrs = record { path = o.path; hop = x } in Some y) a)

pub appended : (b m : Flat) (q : PathKey) (r n h path id link : ℕ) (way : Addr) (o : PathAttrs) → flat_paths m ≡ flat_paths b → IsRowPlace m.rows.items q.prefix r → IsPeerNumber m.peers.keys q.via.peer n → slice_get m.hops.keys h ≡ Some way → path ≡ o.path → way ≡ o.hop → id ≡ q.via.id → HasNoKey b q
    → (after : Paths) → after ≡ flat_paths m ++ paths_on m.rows.items m.peers.keys m.hops.keys ((let s : PathSlot = record { path = path; peer = n; id = id; hop = h; row = r; link = link } in s) ∷ []) → Puts (flat_paths b) after q (Some o)
unfolding paths_on
appended b m q r n h path id link way o same row number there e a i none after d = subst (λ xs. Puts (flat_paths b) xs q (Some o)) (sym (d ∙ whole)) (put_last (flat_paths b) q (key_by s row.0 number.0) (Some o) none (parts_same q (key_by s row.0 number.0) (is_equal _ (peer_same q.via.peer number.0 ∙ number.2)) (is_equal _ row.2) (sym i)))
  where
    s : PathSlot
    s = record { path = path; peer = n; id = id; hop = h; row = r; link = link }

    whole : flat_paths m ++ key_then (key_on m.rows.items m.peers.keys s) (attrs_on m.hops.keys s) [] ≡ flat_paths b ++ (key_by s row.0 number.0, Some o) ∷ []
    whole =
        ap (λ xs. xs ++ key_then (key_on m.rows.items m.peers.keys s) (attrs_on m.hops.keys s) []) same
        ∙ (ap (λ x. flat_paths b ++ key_then x (attrs_on m.hops.keys s) []) (key_made m.rows.items m.peers.keys s row.0 number.0 row.1 number.1)
        ∙ ap (λ x. flat_paths b ++ (key_by s row.0 number.0, x) ∷ []) (attrs_made m.hops.keys path h way o there e a))

pub slot_kept : (b m : Flat) (q : PathKey) (i : ℕ) → m.rows.items ≡ b.rows.items → m.rows.slots ≡ b.rows.slots → m.peers.keys ≡ b.peers.keys → IsSlotOf b q i → IsSlotOf m q i
slot_kept b m q i d e g x = record {
  slot = x.slot;
  there = ap (λ xs. slice_get xs i) e ∙ x.there;
  key = x.key;
  is = ap (λ rows. key_on rows m.peers.keys x.slot) d ∙ (ap (λ peers. key_on b.rows.items peers x.slot) g ∙ x.is);
  same = x.same;
}

pub if_some : {X : Type 0} (P : X → Type 0) (o : Option X) (x : X) → o ≡ Some x → IfSome o P → P x
if_some P (Some y) x e h = subst P (same_Some y x e) h
if_some P None x e h = absurd cc

pub puts_from : (old older new : Paths) (q : PathKey) (o p : Option PathAttrs) → old ≡ older → o ≡ p → Puts old new q o → Puts older new q p
puts_from old older new q o p e a h = subst (λ xs. Puts xs new q p) e (subst (Puts old new q) a h)

pub slot_within : (b : Flat) (q : PathKey) (i : ℕ) → IsSlotOf b q i → i < length b.rows.slots
slot_within b q i x = slice_get_within b.rows.slots i x.slot x.there

pub nothing_by : (hops : List Addr) (path : ℕ) → length hops ≤ no_hop → attrs_by hops path no_hop ≡ None
nothing_by hops path l = ap (option_map (λ h. let o : PathAttrs = record { path = path; hop = h } in o)) (slice_get_past hops no_hop l)

pub addr_itself : (h : Addr) → addr_test h h ≡ true
addr_itself h = by_parts (sameb the_type h.family h.family) (nat_eq h.bits h.bits) (family_itself h.family) refl
  where
    family_itself : (f : Family) → sameb the_type f f ≡ true
    family_itself V4 = refl
    family_itself V6 = refl

    by_parts : (x y : Bool) → x ≡ true → nat_eq h.bits h.bits ≡ y → (x && nat_eq h.bits h.bits) ≡ true
    by_parts true true e f = f
    by_parts true false e f = absurd (grind (arith, f))
    by_parts false y e f = absurd cc

pub no_hop_there : (h : Addr) (keys : List Addr) → None ≡ position (addr_test h) keys → (n : ℕ) → slice_get keys n ≡ Some h → ⊥
no_hop_there h keys e n g = let x : addr_test h h ≡ false = position_none (addr_test h) keys (sym e) n h g in let y : addr_test h h ≡ true = addr_itself h in absurd cc

pub no_number_told : (h : Addr) (keys : List Addr) → None ≡ position (addr_test h) keys → (r : Option ℕ) → IfNone r (HasHop keys h → ⊥)
no_number_told h keys e None = λ x. no_hop_there h keys e x.0 x.1
no_number_told h keys e (Some n) = tt

pub prefix_row : (rows xs : List Row) (i : ℕ) (row : Row) (p : code.Prefix) → xs ≡ rows → i < length xs → row ≡ get_or xs i row → p ≡ row.prefix → IsRowPlace rows p i
prefix_row rows xs i row p d l e h = (row, read xs rows i row d l e, ap (λ q. is_eq (code_cmp q row.prefix)) h ∙ ap is_eq (tied_itself prefix_total row.prefix))

-- ---- a peer more

pub ends_more : (rows : List Row) (slots : List PathSlot) (peers : List Peer) (hops : List Addr) (ends : List ℕ) → AreFlat rows slots peers hops ends → AreFlat rows slots peers hops (ends ++ 0 ∷ [])
ends_more rows slots peers hops ends f = record {
  ordered = f.ordered;
  placed = f.placed;
  within = f.within;
  alone = f.alone;
  few = f.few;
  few_peers = f.few_peers;
  numbers = f.numbers;
  listed = omega (arith, f.listed, length-append ends (0 ∷ []));
  chained = chain_longer slots ends f.chained;
}

-- a path key that is there is a slot's
pub key_slot : (rows : List Row) (peers : List Peer) (hops : List Addr) (q : PathKey) (slots : List PathSlot) (o : Option PathAttrs) → lookup (is_at (key_cmp q)) (paths_on rows peers hops slots) ≡ Some o → (j : ℕ) × (s : PathSlot) × (t : PathKey) × (slice_get slots j ≡ Some s) × (key_on rows peers s ≡ Some t) × (is_eq (key_cmp q t) ≡ true)
unfolding paths_on
key_slot rows peers hops q [] o h = absurd cc
key_slot rows peers hops q (s ∷ slots) o h = by_key (key_on rows peers s) refl h (key_slot rows peers hops q slots o)
  where
    later : ((j : ℕ) × (u : PathSlot) × (t : PathKey) × (slice_get slots j ≡ Some u) × (key_on rows peers u ≡ Some t) × (is_eq (key_cmp q t) ≡ true)) → (j : ℕ) × (u : PathSlot) × (t : PathKey) × (slice_get (s ∷ slots) j ≡ Some u) × (key_on rows peers u ≡ Some t) × (is_eq (key_cmp q t) ≡ true)
    later r = (suc r.0, r.1, r.2, r.3, r.4, r.5)

    by_test : (t : PathKey) → key_on rows peers s ≡ Some t → (b : Bool) → is_eq (key_cmp q t) ≡ b → cond b (Some (attrs_on hops s)) (lookup (is_at (key_cmp q)) (paths_on rows peers hops slots)) ≡ Some o
        → (lookup (is_at (key_cmp q)) (paths_on rows peers hops slots) ≡ Some o → (j : ℕ) × (u : PathSlot) × (t : PathKey) × (slice_get slots j ≡ Some u) × (key_on rows peers u ≡ Some t) × (is_eq (key_cmp q t) ≡ true)) → (j : ℕ) × (u : PathSlot) × (t : PathKey) × (slice_get (s ∷ slots) j ≡ Some u) × (key_on rows peers u ≡ Some t) × (is_eq (key_cmp q t) ≡ true)
    by_test t e true m g ih = (zero, s, t, refl, e, m)
    by_test t e false m g ih = later (ih g)

    by_key : (x : Option PathKey) → key_on rows peers s ≡ x → lookup (is_at (key_cmp q)) (key_then x (attrs_on hops s) (paths_on rows peers hops slots)) ≡ Some o
        → (lookup (is_at (key_cmp q)) (paths_on rows peers hops slots) ≡ Some o → (j : ℕ) × (u : PathSlot) × (t : PathKey) × (slice_get slots j ≡ Some u) × (key_on rows peers u ≡ Some t) × (is_eq (key_cmp q t) ≡ true)) → (j : ℕ) × (u : PathSlot) × (t : PathKey) × (slice_get (s ∷ slots) j ≡ Some u) × (key_on rows peers u ≡ Some t) × (is_eq (key_cmp q t) ≡ true)
    by_key None e g ih = later (ih g)
    by_key (Some t) e g ih = by_test t e (is_eq (key_cmp q t)) refl g ih

-- the peer numbered after room was made for its chain
module _ (b m : Flat) (q : Peer) (after : List Peer) (f : IsFlat m) (room : length m.peers.keys < length m.ends.items) (few : length m.peers.keys < no_peer) (e : after ≡ cond (list_any (peer_test q) m.peers.keys) m.peers.keys (m.peers.keys ++ q ∷ [])) where
  few_now : length after ≤ no_peer
  few_now = few_more (list_any (peer_test q) m.peers.keys) m.peers.keys q after no_peer e few

  grown_now : KeepsNumbers m.peers.keys after
  grown_now = grown_key (list_any (peer_test q) m.peers.keys) m.peers.keys q after e

  pub numbered_flat : AreFlat m.rows.items m.rows.slots after m.hops.keys m.ends.items
  numbered_flat = more_hops m.rows.items m.rows.slots m.peers.keys after m.hops.keys m.hops.keys m.ends.items f grown_now (apart_peers m.peers.keys q after e f.numbers) few_now (few_more (list_any (peer_test q) m.peers.keys) m.peers.keys q after (length m.ends.items) e room) (λ i x g. g) f.few

  pub numbered_paths : m.rows.items ≡ b.rows.items → m.rows.slots ≡ b.rows.slots → m.peers.keys ≡ b.peers.keys → m.hops.keys ≡ b.hops.keys → paths_on m.rows.items after m.hops.keys m.rows.slots ≡ flat_paths b
  numbered_paths rows slots peers hops =
      grown_paths m.rows.items m.rows.items m.rows.slots m.peers.keys after m.hops.keys m.hops.keys m.ends.items f (λ i x g. g) grown_now few_now (λ i x g. g) f.few ∙ same_paths b m b.rows.slots rows slots peers hops

-- ---- a slot dropped

module _ (b : Flat) (q at : ℕ) (f : IsFlat b) (x : IsLastFree b q at) where
  -- what a slot that is a path key was before
  key_back : (i : ℕ) (u : PathSlot) (v : PathKey) → slice_get (slice_set b.rows.slots at (emptied x.slot)) i ≡ Some u → key_on b.rows.items b.peers.keys u ≡ Some v → slice_get b.rows.slots i ≡ Some u
  key_back i u v g e = elim (got_set b.rows.slots at (emptied x.slot) i u g) [
    | inl y ↦
        let p = key_parts b.rows.items b.peers.keys u v e in
        absurd (is_there b.peers.keys u.peer no_peer p.peer f.few_peers p.peer_there (ap (λ (w : PathSlot). w.peer) (sym y.1)))
    | inr y ↦ y
  ]

  pub slot_dropped : AreFlat b.rows.items (slice_set b.rows.slots at (emptied x.slot)) b.peers.keys b.hops.keys (slice_set b.ends.items q x.slot.link)
  slot_dropped = record {
    ordered = f.ordered;
    placed = λ i u g. elim (got_set b.rows.slots at (emptied x.slot) i u g) [
      | inl y ↦ let p = f.placed at x.slot x.there in subst (λ (w : PathSlot). IsSlotPlaced b.rows.items b.peers.keys b.hops.keys i w) y.1 (record { row = p.row; there = p.there; from = subst (λ n. p.row.off ≤ n) (sym y.0) p.from; to = λ next h. subst (λ n. n < next.off) (sym y.0) (p.to next h); peer = inr refl; hop = p.hop })
      | inr y ↦ f.placed i u y
    ];
    within = λ i r g. subst (λ n. r.off ≤ n) (sym (length-set b.rows.slots at (emptied x.slot))) (f.within i r g);
    alone = λ i j u v g h e a d n. elim (got_set b.rows.slots at (emptied x.slot) i u g) [
      | inl y ↦ absurd (n (ap (λ (w : PathSlot). w.peer) (sym y.1)))
      | inr y ↦ elim (got_set b.rows.slots at (emptied x.slot) j v h) [
        | inl z ↦ absurd (n (a ∙ ap (λ (w : PathSlot). w.peer) (sym z.1)))
        | inr z ↦ f.alone i j u v y z e a d n
      ]
    ];
    few = f.few;
    few_peers = f.few_peers;
    numbers = f.numbers;
    listed = subst (λ n. length b.peers.keys ≤ n) (sym (length-set b.ends.items q x.slot.link)) f.listed;
    chained = chain_dropped b.rows.slots b.ends.items q at x.slot (emptied x.slot) f.chained x.listed (end_there b.ends.items q at x.last) x.last x.there refl refl;
  }

  -- the slots' path keys but that one stay
  pub dropped_thins : Thins (flat_paths b) (paths_on b.rows.items b.peers.keys b.hops.keys (slice_set b.rows.slots at (emptied x.slot)))
  dropped_thins s = by_old (lookup (is_at (key_cmp s)) (flat_paths b)) refl
    where
      after : Paths
      after = paths_on b.rows.items b.peers.keys b.hops.keys (slice_set b.rows.slots at (emptied x.slot))

      none : ((i : ℕ) (u : PathSlot) (v : PathKey) → slice_get b.rows.slots i ≡ Some u → key_on b.rows.items b.peers.keys u ≡ Some v → is_eq (key_cmp s v) ≡ true → i ≡ at) → lookup (is_at (key_cmp s)) after ≡ None
      none alone = lookup_none b.rows.items b.peers.keys b.hops.keys s (slice_set b.rows.slots at (emptied x.slot)) (λ i u v g e. by_test i u v g e (is_eq (key_cmp s v)) refl)
        where
          by_test : (i : ℕ) (u : PathSlot) (v : PathKey) → slice_get (slice_set b.rows.slots at (emptied x.slot)) i ≡ Some u → key_on b.rows.items b.peers.keys u ≡ Some v → (t : Bool) → is_eq (key_cmp s v) ≡ t → t ≡ false
          by_test i u v g e true m =
              let k : i ≡ at = alone i u v (key_back i u v g e) e m in
              let w : u ≡ emptied x.slot = same_Some u (emptied x.slot) (sym g ∙ (ap (slice_get (slice_set b.rows.slots at (emptied x.slot))) k ∙ got_set_at b.rows.slots at (emptied x.slot) x.slot x.there)) in
              let p = key_parts b.rows.items b.peers.keys u v e in
              absurd (is_there b.peers.keys u.peer no_peer p.peer f.few_peers p.peer_there (ap (λ (w : PathSlot). w.peer) w))
          by_test i u v g e false m = refl

      by_old : (o : Option (Option PathAttrs)) → lookup (is_at (key_cmp s)) (flat_paths b) ≡ o → (lookup (is_at (key_cmp s)) after ≡ lookup (is_at (key_cmp s)) (flat_paths b)) ⊎ ((lookup (is_at (key_cmp s)) (flat_paths b) ≡ Some None) × (lookup (is_at (key_cmp s)) after ≡ None))
      by_old None e = inl (none (λ i u v g k m. absurd (none-some _ (sym e ∙ attrs_found b s i f (record { slot = u; there = g; key = v; is = k; same = m })))) ∙ sym e)
      by_old (Some o) e =
          let y = key_slot b.rows.items b.peers.keys b.hops.keys s b.rows.slots o e in
          let z : IsSlotOf b s y.0 = record { slot = y.1; there = y.3; key = y.2; is = y.4; same = y.5 } in
          elim (cases_lt y.0 at) [
            | inl l ↦ inl (stays y.0 z (λ k. omega (arith, l, k)))
            | inr l ↦ elim (cases_lt at y.0) [
              | inl m ↦ inl (stays y.0 z (λ k. omega (arith, m, k)))
              | inr m ↦
                  let k : y.0 ≡ at = omega (arith, l, m) in
                  let w : y.1 ≡ x.slot = same_Some y.1 x.slot (sym y.3 ∙ (ap (slice_get b.rows.slots) k ∙ x.there)) in
                  inr (attrs_found b s y.0 f z ∙ ap Some (ap (attrs_on b.hops.keys) w ∙ ap (option_map (λ h. let o : PathAttrs = record { path = x.slot.path; hop = h } in o)) (slice_get_past b.hops.keys x.slot.hop (subst (λ n. length b.hops.keys ≤ n) (sym x.free) f.few))), none (λ i u v g e m. same_key_slots b f i y.0 u y.1 v y.2 g y.3 e y.4 (paths_join s v y.2 m y.5) ∙ k))
            ]
          ]
        where
          stays : (i : ℕ) (z : IsSlotOf b s i) → (i ≡ at → ⊥) → lookup (is_at (key_cmp s)) after ≡ lookup (is_at (key_cmp s)) (flat_paths b)
          stays i z n =
              lookup_found b.rows.items b.peers.keys b.hops.keys s (slice_set b.rows.slots at (emptied x.slot)) i z.slot z.key (elim (set_got b.rows.slots at (emptied x.slot) i z.slot z.there) [ inl k ↦ absurd (n k) | inr g ↦ g ]) z.is z.same
              (λ j u v g e m. same_key_slots b f j i u z.slot v z.key (key_back j u v g e) z.there e z.is (paths_join s v z.key m z.same))
              ∙ sym (attrs_found b s i f z)

pub thin_itself : (xs : Paths) → Thins xs xs
thin_itself xs s = inl refl

pub thin_more : (xs ys zs : Paths) → Thins xs ys → Thins ys zs → Thins xs zs
thin_more xs ys zs a c s = elim (c s) [
  | inl e ↦ elim (a s) [
    | inl g ↦ inl (e ∙ g)
    | inr g ↦ inr (g.0, e ∙ g.1)
  ]
  | inr e ↦ elim (a s) [
    | inl g ↦ inr (sym g ∙ e.0, e.1)
    | inr g ↦ inr (g.0, e.1)
  ]
]

-- what is put as nothing, with path keys gone where nothing is offered
pub thin_cut : (old mid new : Paths) (t : PathKey) → Puts old mid t None → Thins mid new → Offers old new t None
thin_cut old mid new t p h s = elim (h s) [
  | inl e ↦ ap flat (e ∙ p s) ∙ by_test (is_eq (key_cmp t s))
  | inr e ↦ ap flat (e.1) ∙ (sym (ap flat e.0) ∙ (ap flat (p s) ∙ by_test (is_eq (key_cmp t s))))
]
  where
    by_test : (b : Bool) → flat (cond b (Some None) (lookup (is_at (key_cmp s)) old)) ≡ cond b None (attrs_at old s)
    by_test true = refl
    by_test false = refl

pub thin_none : (old mid new : Paths) (t : PathKey) (o : Option PathAttrs) → Puts old mid t None → lookup (is_at (key_cmp t)) old ≡ Some o → Thins mid new → NoKeyComes old new
thin_none old mid new t o p there h s n = elim (h s) [
  | inl e ↦ e ∙ (p s ∙ by_test (is_eq (key_cmp t s)) refl)
  | inr e ↦ e.1
]
  where
    by_test : (b : Bool) → is_eq (key_cmp t s) ≡ b → cond b (Some None) (lookup (is_at (key_cmp s)) old) ≡ None
    by_test true m = absurd (none-some _ (sym n ∙ (same_lookup t s old m ∙ there)))
    by_test false m = n

-- ---- what is there keeps its place

pub grows_itself : (b : Flat) → Grows b b
grows_itself b = record { rows = λ i x g. g; slots = λ i x g. g; peers = λ i x g. g; hops = λ i x g. g }

pub same_grown : {X : Type 0} (xs ys : List X) → ys ≡ xs → KeepsNumbers xs ys
same_grown xs ys e i x g = ap (λ zs. slice_get zs i) e ∙ g

pub pushed_grown : {X : Type 0} (xs ys : List X) (x : X) → ys ≡ xs ++ x ∷ [] → KeepsNumbers xs ys
pushed_grown xs ys x e i y g = ap (λ zs. slice_get zs i) e ∙ got_old xs (x ∷ []) i y g

pub grows_more : (b m n : Flat) → Grows b m → Grows m n → Grows b n
grows_more b m n f g = record {
  rows = λ i x h. g.rows i x (f.rows i x h);
  slots = λ i x h. g.slots i x (f.slots i x h);
  peers = λ i x h. g.peers i x (f.peers i x h);
  hops = λ i x h. g.hops i x (f.hops i x h);
}

-- a path key keeps its slot
pub slot_stays : (b n : Flat) (t : PathKey) (i : ℕ) → Grows b n → IsSlotOf b t i → IsSlotOf n t i
slot_stays b n t i g x =
    let p = key_parts b.rows.items b.peers.keys x.slot x.key x.is in
    record { slot = x.slot; there = g.slots i x.slot x.there; key = x.key; is = key_made n.rows.items n.peers.keys x.slot p.row p.peer (g.rows x.slot.row p.row p.row_there) (g.peers x.slot.peer p.peer p.peer_there) ∙ ap Some p.is; same = x.same }

-- ---- guesses that are tested

not_not : (b : Bool) → false ≡ not b → b ≡ true
not_not true e = refl
not_not false e = absurd cc

pub near_number : (q r : Peer) (keys : List Peer) (n : ℕ) → slice_get keys n ≡ Some r → false ≡ not (peer_test r q) → IsPeerNumber keys q n
near_number q r keys n g t = (r, g, sym (peer_test_is q r) ∙ (peer_back q r ∙ not_not (peer_test r q) t))

pub near_hop : (h k : Addr) (keys : List Addr) (n : ℕ) → slice_get keys n ≡ Some k → false ≡ not (addr_test k h) → slice_get keys n ≡ Some h
near_hop h k keys n g t = g ∙ ap Some (addr_same k h (not_not (addr_test k h) t))
