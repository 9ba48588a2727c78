-- The walk over a row's run finds what is offered for its prefix, by path source.
use Rattle.std.proofs.Common.{◌≡◌, ℕ, zero, suc, ◌+◌, ◌<◌, ◌≤◌, [], ◌∷◌, Bool, true, false, Option, Some, None, length, refl, sym, ap, subst, ◌∙◌, arith, inl, inr}
use Rattle.std.specs.Prelude.{◌⊎◌, ◌==◌, List, option_map, slice_get, if◌then◌else◌}
use Rattle.std.specs.Map.{lookup}
use Rattle.std.specs.Option.{option_or}
use Rattle.std.specs.Ordering.{is_eq}
use Rattle.std.specs.BTreeMap.{is_at}
use Rattle.std.specs.declared.cmp.Ordering.TheVariants.{Equal}
use Rattle.std.proofs.lemmas.Bool.{cases_lt}
use Rattle.std.proofs.lemmas.Cmp.{tied_back}
use Rattle.std.proofs.lemmas.Option.{same_Some}
use Rattle.fib_addr.specs.declared.addr.Addr.{Addr}
use Rattle.fib_addr.specs.declared.prefix.Prefix as code
use Rattle.fib_addr.specs.Order.{code_cmp}
use Rattle.fib_addr.specs.contracts.prefix.PrefixPartialEq.TheImpl as prefix_test
use Rattle.fib_prefix.specs.Order.{code_via_cmp}
use Rattle.fib_prefix.specs.declared.event.Peer.{Peer}
use Rattle.fib_prefix.specs.declared.event.Via.{Via}
use Rattle.adj_rib_in.specs.declared.keys.PathKey.{PathKey}
use Rattle.adj_rib_in.specs.declared.keys.PathAttrs.{PathAttrs}
use Rattle.adj_rib_in.specs.declared.rows.Row.{Row}
use Rattle.adj_rib_in.specs.declared.slot.PathSlot.{PathSlot}
use Rattle.adj_rib_in.specs.declared.flat.Flat.{Flat}
use Rattle.adj_rib_in.specs.Orders.{key_cmp}
use Rattle.adj_rib_in.specs.Paths.{flat, attrs_at}
use Rattle.adj_rib_in.specs.Flat.{IsFlat, IsRowPlace, HasNoRow, IsSlotRun, IsSlotOf, via_or, via_on, attrs_on, flat_paths}
use Rattle.adj_rib_in.specs.Ways.{Ways, way_attrs, key_by, AddsWays, way_put, way_step}
use Rattle.adj_rib_in.proofs.Equals.{prefix_eq}
use Rattle.adj_rib_in.proofs.Orders.{is_equal, prefix_total, via_total, key_tied, tied_via}
use Rattle.adj_rib_in.proofs.Betters.{key_of_via, same_number, number_same}
use Rattle.adj_rib_in.proofs.Flats.{key_slot, key_parts, same_parts, attrs_found, no_row_key, one_row, in_run}

-- no slot of the row below a place offers anything from this path source
abbrev NotYet : Flat → ℕ → ℕ → Via → Type 0
NotYet b r i v = (j : ℕ) (u : PathSlot) (w : Via) (o : PathAttrs) → j < i → slice_get b.rows.slots j ≡ Some u → u.row ≡ r → via_on b.peers.keys u ≡ Some w → attrs_on b.hops.keys u ≡ Some o → is_eq (code_via_cmp w v) ≡ false

-- past the slots below a place, each path source has what is offered by it, or waits for it
abbrev pub Gathered : Flat → code.Prefix → ℕ → Ways → ℕ → Ways → Type 0
Gathered b p r old i now = (v : Via) → (way_attrs now v ≡ option_or (attrs_at (flat_paths b) (key_by v p)) (way_attrs old v)) ⊎ ((way_attrs now v ≡ way_attrs old v) × NotYet b r i v)

pub gather_starts : (b : Flat) (p : code.Prefix) (r from to : ℕ) (old : Ways) → IsFlat b → IsSlotRun b.rows.items r (length b.rows.slots) from to → Gathered b p r old from old
gather_starts b p r from to old f run v = inr (refl, λ j u w o l g e k h. let x = (in_run b r from to j u f run g e).0 in absurd (omega (arith, l, x)))

-- what a slot of the row offers is offered at the path key of its path source
here_offered : (b : Flat) (p : code.Prefix) (r i : ℕ) (s : PathSlot) (v w : Via) (o : PathAttrs) → IsFlat b → IsRowPlace b.rows.items p r → slice_get b.rows.slots i ≡ Some s → s.row ≡ r → via_on b.peers.keys s ≡ Some w → attrs_on b.hops.keys s ≡ Some o → is_eq (code_via_cmp w v) ≡ true → attrs_at (flat_paths b) (key_by v p) ≡ Some o
here_offered b p r i s v w o f row g e k h t =
    let there : slice_get b.rows.items s.row ≡ Some row.0 = ap (slice_get b.rows.items) e ∙ row.1 in
    let q : PathKey = key_by w row.0.prefix in
    let x : IsSlotOf b (key_by v p) i = record {
      slot = s;
      there = g;
      key = q;
      is = key_of_via b.rows.items b.peers.keys s row.0 w there k;
      same = ap is_eq (key_tied (key_by v p) q (is_equal _ row.2) (tied_back via_total w v (is_equal _ t)));
    } in
    ap flat (attrs_found b (key_by v p) i f x ∙ ap Some h)

pub gather_step : (b : Flat) (p : code.Prefix) (r i : ℕ) (old now more : Ways) → IsFlat b → IsRowPlace b.rows.items p r → ((v : Via) → way_attrs more v ≡ way_step b.peers.keys b.hops.keys r (slice_get b.rows.slots i) v (way_attrs now v)) → Gathered b p r old i now → Gathered b p r old (i + 1) more
gather_step b p r i old now more f row add gathered v = by_slot (slice_get b.rows.slots i) refl (add v)
  where
    Next : Type 0
    Next = (way_attrs more v ≡ option_or (attrs_at (flat_paths b) (key_by v p)) (way_attrs old v)) ⊎ ((way_attrs more v ≡ way_attrs old v) × NotYet b r (i + 1) v)

    -- a slot that offers nothing from this path source
    kept : way_attrs more v ≡ way_attrs now v → ((u : PathSlot) (w : Via) (o : PathAttrs) → slice_get b.rows.slots i ≡ Some u → u.row ≡ r → via_on b.peers.keys u ≡ Some w → attrs_on b.hops.keys u ≡ Some o → is_eq (code_via_cmp w v) ≡ false) → Next
    kept same none = elim (gathered v) [
      | inl h ↦ inl (same ∙ h)
      | inr h ↦ inr (
        same ∙ h.0,
        λ j u w o l g e k m. elim (cases_lt j i) [
          | inl n ↦ h.1 j u w o n g e k m
          | inr n ↦ let at : j ≡ i = omega (arith, l, n) in none u w o (ap (slice_get b.rows.slots) (sym at) ∙ g) e k m
        ],
      )
    ]

    one_slot : (s u : PathSlot) → slice_get b.rows.slots i ≡ Some s → slice_get b.rows.slots i ≡ Some u → s ≡ u
    one_slot s u g h = same_Some s u (sym g ∙ h)

    by_way : (s : PathSlot) (w : Via) (o : PathAttrs) → slice_get b.rows.slots i ≡ Some s → s.row ≡ r → via_on b.peers.keys s ≡ Some w → attrs_on b.hops.keys s ≡ Some o → (t : Bool) → is_eq (code_via_cmp w v) ≡ t → way_attrs more v ≡ (if t then Some o else way_attrs now v) → Next
    by_way s w o g e k h true t m = inl (m ∙ sym (ap (λ x. option_or x (way_attrs old v)) (here_offered b p r i s v w o f row g e k h t)))
    by_way s w o g e k h false t m = kept m (λ u x y a c d n. let q : u ≡ s = one_slot u s a g in let z : x ≡ w = same_Some x w (sym d ∙ (ap (via_on b.peers.keys) q ∙ k)) in ap (λ y. is_eq (code_via_cmp y v)) z ∙ t)

    by_parts : (s : PathSlot) → slice_get b.rows.slots i ≡ Some s → s.row ≡ r → (w : Option Via) → via_on b.peers.keys s ≡ w → (o : Option PathAttrs) → attrs_on b.hops.keys s ≡ o → way_attrs more v ≡ way_put w o v (way_attrs now v) → Next
    by_parts s g e None k o h m = kept m (λ u x y a c d n. let z : None ≡ Some x = sym k ∙ (ap (via_on b.peers.keys) (one_slot s u g a) ∙ d) in absurd cc)
    by_parts s g e (Some w) k None h m = kept m (λ u x y a c d n. let z : None ≡ Some y = sym h ∙ (ap (attrs_on b.hops.keys) (one_slot s u g a) ∙ n) in absurd cc)
    by_parts s g e (Some w) k (Some o) h m = by_way s w o g e k h (is_eq (code_via_cmp w v)) refl m

    by_row : (s : PathSlot) → slice_get b.rows.slots i ≡ Some s → (t : Bool) → (s.row == r) ≡ t → way_attrs more v ≡ (if t then way_put (via_on b.peers.keys s) (attrs_on b.hops.keys s) v (way_attrs now v) else way_attrs now v) → Next
    by_row s g true t m = by_parts s g (same_number s.row r t) (via_on b.peers.keys s) refl (attrs_on b.hops.keys s) refl m
    by_row s g false t m = kept m (λ u x y a c d n. let z : (s.row == r) ≡ true = number_same s.row r (ap (λ (q : PathSlot). q.row) (one_slot s u g a) ∙ c) in absurd cc)

    by_slot : (s : Option PathSlot) → slice_get b.rows.slots i ≡ s → way_attrs more v ≡ way_step b.peers.keys b.hops.keys r s v (way_attrs now v) → Next
    by_slot None g m = kept m (λ u x y a c d n. let z : None ≡ Some u = sym g ∙ a in absurd cc)
    by_slot (Some s) g m = by_row s g (s.row == r) refl m

pub gather_ends : (b : Flat) (p : code.Prefix) (r from to i : ℕ) (old now : Ways) → IsFlat b → IsRowPlace b.rows.items p r → IsSlotRun b.rows.items r (length b.rows.slots) from to → to ≤ i → Gathered b p r old i now → AddsWays (flat_paths b) p old now
gather_ends b p r from to i old now f row run l gathered v = elim (gathered v) [
  | inl h ↦ h
  | inr h ↦ h.0 ∙ sym (ap (λ x. option_or x (way_attrs old v)) (none h.1 (lookup (is_at (key_cmp (key_by v p))) (flat_paths b)) refl))
]
  where
    none : NotYet b r i v → (o : Option (Option PathAttrs)) → lookup (is_at (key_cmp (key_by v p))) (flat_paths b) ≡ o → attrs_at (flat_paths b) (key_by v p) ≡ None
    none yet None e = ap flat e
    none yet (Some None) e = ap flat e
    none yet (Some (Some o)) e =
        let s : PathKey = key_by v p in
        let y = key_slot b.rows.items b.peers.keys b.hops.keys s b.rows.slots (Some o) e in
        let z : IsSlotOf b s y.0 = record { slot = y.1; there = y.3; key = y.2; is = y.4; same = y.5 } in
        let offered : attrs_on b.hops.keys y.1 ≡ Some o = same_Some _ _ (sym (attrs_found b s y.0 f z) ∙ e) in
        let x = key_parts b.rows.items b.peers.keys y.1 y.2 y.4 in
        let q = same_parts s y.2 y.5 in
        let one : code_cmp p x.row.prefix ≡ Equal = ap (λ (k : PathKey). code_cmp p k.prefix) x.is ∙ q.prefix in
        let its : y.1.row ≡ r = one_row b f y.1.row r x.row row.0 x.row_there row.1 (tied_back prefix_total row.0.prefix x.row.prefix (sym (prefix_total.congr p row.0.prefix x.row.prefix (is_equal _ row.2)) ∙ one)) in
        let way : Via = record { peer = x.peer; id = y.1.id } in
        let by : is_eq (code_via_cmp way v) ≡ true = ap is_eq (tied_back via_total v way (ap (λ (k : PathKey). code_via_cmp v k.via) x.is ∙ tied_via s y.2 (is_equal _ y.5))) in
        let not : is_eq (code_via_cmp way v) ≡ false = yet y.0 y.1 way o (let m = (in_run b r from to y.0 y.1 f run y.3 its).1 in omega (arith, m, l)) y.3 its (ap (λ k. via_or k y.1.id) x.peer_there) offered in
        absurd cc

-- the row of a number, where its prefix is this one
pub near_row : (rows : List Row) (n : ℕ) (p held : code.Prefix) (same : Bool) → Some held ≡ option_map (λ (r : Row). r.prefix) (slice_get rows n) → same ≡ (prefix_test.ghosts).eq p held → same ≡ true → IsRowPlace rows p n
near_row rows n p held same e test t = by_row (slice_get rows n) refl e
  where
    by_row : (o : Option Row) → slice_get rows n ≡ o → Some held ≡ option_map (λ (r : Row). r.prefix) o → IsRowPlace rows p n
    by_row None g h = absurd cc
    by_row (Some row) g h = (row, g, ap (λ q. is_eq (code_cmp p q)) (sym (same_Some held row.prefix h)) ∙ (sym (prefix_eq p held) ∙ (sym test ∙ t)))

pub no_ways : (b : Flat) (p : code.Prefix) (old : Ways) → HasNoRow b.rows.items p → AddsWays (flat_paths b) p old old
no_ways b p old none v = sym (ap (λ x. option_or (flat x) (way_attrs old v)) (no_row_key b (key_by v p) none))

pub way_of_slot : (peers : List Peer) (hops : List Addr) (row : ℕ) (o : Option PathSlot) (s : PathSlot) (v : Via) (old : Option PathAttrs) → o ≡ Some s → s.row ≡ row → way_put (via_on peers s) (attrs_on hops s) v old ≡ way_step peers hops row o v old
way_of_slot peers hops row o s v old e h = sym (ap (λ x. way_step peers hops row x v old) e ∙ ap (λ (b : Bool). if b then way_put (via_on peers s) (attrs_on hops s) v old else old) (number_same s.row row h))

pub no_slot_way : (peers : List Peer) (hops : List Addr) (row : ℕ) (o : Option PathSlot) (v : Via) (old : Option PathAttrs) → o ≡ None → old ≡ way_step peers hops row o v old
no_slot_way peers hops row o v old e = sym (ap (λ x. way_step peers hops row x v old) e)

pub unread : {X : Type 0} (xs ys : List X) (i : ℕ) → xs ≡ ys → length xs ≤ i → slice_get ys i ≡ None
unread {X = X} xs ys i e l = subst (λ (zs : List X). slice_get zs i ≡ None) e (past xs i l)
  where
    past : (zs : List X) (i : ℕ) → length zs ≤ i → slice_get zs i ≡ None
    past [] i m = refl
    past (z ∷ zs) zero m = absurd (omega (arith, m))
    past (z ∷ zs) (suc i) m = past zs i (omega (arith, m))
