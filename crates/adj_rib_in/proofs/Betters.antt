-- The best candidate of the flat part and another one.
use Rattle.std.proofs.Common.{◌+◌, ◌≡◌, ℕ, zero, suc, ◌<◌, ◌≤◌, List, [], ◌∷◌, Bool, true, false, Option, Some, None, refl, sym, ap, subst, ◌∙◌, arith, drop, length}
use Rattle.std.specs.Prelude.{option_map, if◌then◌else◌, ◌&&◌, ◌||◌, ◌==◌, nat_lt, slice_get}
use Rattle.std.specs.List.{list_any}
use Rattle.std.specs.Map.{lookup}
use Rattle.std.specs.Ordering.{nat_cmp, ordering_then, is_eq, is_lt}
use Rattle.std.specs.BTreeMap.{is_at}
use Rattle.std.specs.declared.cmp.Ordering.TheVariants.{Equal}
use Rattle.std.proofs.lemmas.Cmp.{tied_back, tied_itself}
use Rattle.std.proofs.lemmas.Option.{same_Some, none-some}
use Rattle.table_model.specs.Address.{Prefix, same_prefix}
use Rattle.table_model.proofs.SamePrefix.{same_prefix_is, same_prefix_itself}
use Rattle.fib_addr.specs.Views.{prefix_as}
use Rattle.fib_prefix.specs.Views.{peer_as, via_as}
use Rattle.fib_addr.specs.Order.{code_cmp}
use Rattle.fib_prefix.specs.Order.{code_via_cmp}
use Rattle.fib_prefix.specs.declared.event.Peer.{Peer}
use Rattle.fib_prefix.specs.declared.event.Via.{Via}
use Rattle.fib_addr.specs.declared.prefix.Prefix as code
use Rattle.route_model.specs.Events as events
use Rattle.route_model.specs.Events.{same_peer, same_via}
use Rattle.route_model.specs.Choice as model
use Rattle.route_model.specs.Choice.{Place, Candidates, IsHeld, same_place, beats}
use Rattle.route_model.proofs.Places.{peer_key, via_key}
use Rattle.route_model.proofs.Choices.{not_itself, not_back, not_beaten}
use Rattle.adj_rib_in.specs.declared.keys.PathKey.{PathKey}
use Rattle.adj_rib_in.specs.declared.keys.PathAttrs.{PathAttrs}
use Rattle.adj_rib_in.specs.declared.keys.Candidate.{Candidate}
use Rattle.adj_rib_in.specs.declared.rows.Row.{Row}
use Rattle.adj_rib_in.specs.declared.slot.PathSlot.{PathSlot}
use Rattle.adj_rib_in.specs.declared.flat.Flat.{Flat}
use Rattle.adj_rib_in.specs.Orders.{key_cmp}
use Rattle.adj_rib_in.specs.Paths.{Paths, held_in, attrs_at}
use Rattle.adj_rib_in.specs.Chains.{no_peer}
use Rattle.adj_rib_in.specs.Flat.{IsFlat, IsRowPlace, IsSlotRun, ShareNoKey, via_or, via_on, key_or, key_on, attrs_on, flat_paths, paths_over, HasNoRow}
use Rattle.adj_rib_in.specs.Bests.{IsBestOf, IsBestHeld, is_excluded, out_as, candidate_as, attrs_as, better_one, better_on, is_via, waits, best_step}
use Rattle.adj_rib_in.proofs.Orders.{place_as, is_equal, via_is, via_same, prefix_same, prefix_total, via_total, key_tied, tied_via}
use Rattle.adj_rib_in.proofs.Views.{at_key}
use Rattle.adj_rib_in.proofs.Holds.{is_out_as, code_of, place_at, same_value, is_own, is_better}
use Rattle.adj_rib_in.proofs.Flats.{is_there, key_slot, no_row_key, key_parts, same_parts, one_row, attrs_found, in_run}
use Rattle.adj_rib_in.proofs.Parts.{attrs_over, attrs_under}

-- ---- one more peer

abbrev model_join : Place → Option model.PathAttrs → Option (Place × model.PathAttrs) → Option (Place × model.PathAttrs)
model_join at None c = c
model_join at (Some o) None = Some (at, o)
model_join at (Some o) (Some c) = if beats (at, o) c then Some (at, o) else Some c

or_left : (a b : Bool) → (a || b) ≡ false → a ≡ false
or_left true b e = absurd cc
or_left false b e = refl

or_right : (a b : Bool) → (a || b) ≡ false → b ≡ false
or_right true b e = absurd cc
or_right false b e = e

or_false : (a b : Bool) → a ≡ false → b ≡ false → (a || b) ≡ false
or_false a b e f = ap (λ x. x || b) e ∙ f

module _ (held : Candidates) (p : Prefix) (q : events.Via) (out : events.Via → Bool) (outq : out q ≡ false) where
  -- a candidate that is out with the peer and not without it is the peer's
  its_own : (d : Place × model.PathAttrs) → (same_via q d.0.via || out d.0.via) ≡ true → out d.0.via ≡ false → same_via q d.0.via ≡ true
  its_own d e n = by_test (same_via q d.0.via) (out d.0.via) e n
    where
      by_test : (a b : Bool) → (a || b) ≡ true → b ≡ false → a ≡ true
      by_test true b x y = refl
      by_test false b x y = absurd cc

  pub widen : (own : Option model.PathAttrs) (c : Option (Place × model.PathAttrs)) → lookup (same_place (place_at p q)) held ≡ own → IsBestOf held p (λ m. same_via q m || out m) c → IsBestOf held p out (model_join (place_at p q) own c)
  widen None None l b = λ d h e. by_test d h e (same_via q d.0.via) refl (b d h e)
    where
      by_test : (d : Place × model.PathAttrs) → IsHeld held d → same_prefix p d.0.prefix ≡ true → (t : Bool) → same_via q d.0.via ≡ t → (t || out d.0.via) ≡ true → out d.0.via ≡ true
      by_test d h e true t x = absurd (none-some _ (sym l ∙ (is_own held p q d h e t).0))
      by_test d h e false t x = x
  widen None (Some c) l b = (b.0, b.1, or_right _ _ b.2, λ d h e n. b.3 d h e (or_false _ _ (by_test d h e (same_via q d.0.via) refl) n))
    where
      by_test : (d : Place × model.PathAttrs) → IsHeld held d → same_prefix p d.0.prefix ≡ true → (t : Bool) → same_via q d.0.via ≡ t → t ≡ false
      by_test d h e true t = absurd (none-some _ (sym l ∙ (is_own held p q d h e t).0))
      by_test d h e false t = refl
  widen (Some o) None l b = (l, refl, outq, λ d h e n. own d h e (its_own d (b d h e) n))
    where
      own : (d : Place × model.PathAttrs) → IsHeld held d → same_prefix p d.0.prefix ≡ true → same_via q d.0.via ≡ true → beats d (place_at p q, o) ≡ false
      own d h e t =
          let x = is_own held p q d h e t in
          let y : d.1 ≡ o = same_value d.1 o (sym x.0 ∙ l) in
          ap (λ (z : Place). beats (z, d.1) (place_at p q, o)) (sym x.1) ∙ (ap (λ (z : model.PathAttrs). beats (place_at p q, z) (place_at p q, o)) y ∙ not_itself (place_at p q, o))
  widen (Some o) (Some c) l b = by_beats (beats (place_at p q, o) c) refl
    where
      same_mine : (d : Place × model.PathAttrs) → IsHeld held d → same_prefix p d.0.prefix ≡ true → same_via q d.0.via ≡ true → (e : Place × model.PathAttrs) → beats d e ≡ beats (place_at p q, o) e
      same_mine d h e t f =
          let x = is_own held p q d h e t in
          let y : d.1 ≡ o = same_value d.1 o (sym x.0 ∙ l) in
          ap (λ (z : Place). beats (z, d.1) f) (sym x.1) ∙ ap (λ (z : model.PathAttrs). beats (place_at p q, z) f) y

      over_mine : beats (place_at p q, o) c ≡ true → (d : Place × model.PathAttrs) → IsHeld held d → same_prefix p d.0.prefix ≡ true → out d.0.via ≡ false → (t : Bool) → same_via q d.0.via ≡ t → beats d (place_at p q, o) ≡ false
      over_mine w d h e n true t = same_mine d h e t (place_at p q, o) ∙ not_itself (place_at p q, o)
      over_mine w d h e n false t = not_beaten (place_at p q, o) c d (not_back c (place_at p q, o) w) (b.3 d h e (or_false _ _ t n))

      over_other : beats (place_at p q, o) c ≡ false → (d : Place × model.PathAttrs) → IsHeld held d → same_prefix p d.0.prefix ≡ true → out d.0.via ≡ false → (t : Bool) → same_via q d.0.via ≡ t → beats d c ≡ false
      over_other w d h e n true t = same_mine d h e t c ∙ w
      over_other w d h e n false t = b.3 d h e (or_false _ _ t n)

      by_beats : (w : Bool) → beats (place_at p q, o) c ≡ w → IsBestOf held p out (if w then Some (place_at p q, o) else Some c)
      by_beats true w = (l, refl, outq, λ d h e n. over_mine w d h e n (same_via q d.0.via) refl)
      by_beats false w = (b.0, b.1, or_right _ _ b.2, λ d h e n. over_other w d h e n (same_via q d.0.via) refl)

best_by : (held : Candidates) (p : Prefix) (out less : events.Via → Bool) (c : Option (Place × model.PathAttrs)) → ((m : events.Via) → out m ≡ less m) → IsBestOf held p out c → IsBestOf held p less c
best_by held p out less None s b = λ d h e. sym (s d.0.via) ∙ b d h e
best_by held p out less (Some c) s b = (b.0, b.1, sym (s c.0.via) ∙ b.2, λ d h e n. b.3 d h e (s d.0.via ∙ n))

-- ---- the code's comparison

joined_as : (p : Prefix) (but : Option Via) (q : Via) (o : Option PathAttrs) (best : Option Candidate) → is_excluded but q ≡ false → option_map (candidate_as p) (better_on but (Some q) o best) ≡ model_join (place_at p (via_as q)) (option_map attrs_as o) (option_map (candidate_as p) best)
joined_as p but q None None n = refl
joined_as p but q None (Some c) n = refl
joined_as p but q (Some o) None n = ap (λ (b : Bool). option_map (candidate_as p) (if b then None else Some (record { via = q; attrs = o }))) n
joined_as p but q (Some o) (Some c) n =
    ap (λ (b : Bool). option_map (candidate_as p) (if b then Some c else Some (better_one (record { via = q; attrs = o }) (Some c)))) n
    ∙ (mapped (nat_lt o.path c.attrs.path || (o.path == c.attrs.path && is_lt (code_via_cmp q c.via)))
    ∙ ap (λ (b : Bool). if b then Some (candidate_as p (record { via = q; attrs = o })) else Some (candidate_as p c)) (is_better o.path c.attrs.path (code_via_cmp q c.via) ∙ ap (λ x. is_lt (ordering_then (nat_cmp o.path c.attrs.path) x)) (via_is q c.via)))
  where
    mapped : (b : Bool) → option_map (candidate_as p) (Some (let d : Candidate = if b then record { via = q; attrs = o } else c in d)) ≡ (if b then Some (candidate_as p (record { via = q; attrs = o })) else Some (candidate_as p c))
    mapped true = refl
    mapped false = refl

-- ---- slots that wait

drop_here : {X : Type 0} (xs : List X) (i : ℕ) (x : X) → slice_get xs i ≡ Some x → drop i xs ≡ x ∷ drop (suc i) xs
drop_here [] i x h = absurd cc
drop_here (y ∷ xs) zero x h = ap (λ z. z ∷ xs) (same_Some y x h)
drop_here (y ∷ xs) (suc i) x h = drop_here xs i x h

drop_past : {X : Type 0} (xs : List X) (i : ℕ) → slice_get xs i ≡ None → drop i xs ≡ drop (suc i) xs
drop_past [] zero h = refl
drop_past [] (suc i) h = refl
drop_past (y ∷ xs) zero h = absurd cc
drop_past (y ∷ xs) (suc i) h = drop_past xs i h

any_from : {X : Type 0} (f : X → Bool) (xs : List X) (i j : ℕ) (x : X) → slice_get xs j ≡ Some x → i ≤ j → f x ≡ true → list_any f (drop i xs) ≡ true
any_from f [] i j x h l t = absurd cc
any_from f (y ∷ xs) zero zero x h l t = ap (λ b. b || list_any f xs) (ap f (same_Some y x h) ∙ t)
any_from f (y ∷ xs) zero (suc j) x h l t = by_test (f y) (any_from f xs zero j x h (omega arith) t)
  where
    by_test : (b : Bool) → list_any f xs ≡ true → (b || list_any f xs) ≡ true
    by_test true e = refl
    by_test false e = e
any_from f (y ∷ xs) (suc i) zero x h l t = absurd (omega (arith, l))
any_from f (y ∷ xs) (suc i) (suc j) x h l t = any_from f xs i j x h (omega (arith, l)) t

record Found {X : Type 0} (f : X → Bool) (xs : List X) (i : ℕ) : Type 0 where
  place : ℕ
  elem : X
  there : slice_get xs place ≡ Some elem
  from : i ≤ place
  passes : f elem ≡ true

from_any : {X : Type 0} (f : X → Bool) (xs : List X) (i : ℕ) → list_any f (drop i xs) ≡ true → Found f xs i
from_any f [] zero e = absurd cc
from_any f [] (suc i) e = absurd cc
from_any {X = X} f (x ∷ xs) zero e = by_test (f x) refl e (from_any f xs zero)
  where
    by_test : (b : Bool) → f x ≡ b → (b || list_any f xs) ≡ true → (list_any f xs ≡ true → Found f xs zero) → Found f (x ∷ xs) zero
    by_test true t g ih = record { place = zero; elem = x; there = refl; from = omega arith; passes = t }
    by_test false t g ih = let r = ih g in record { place = suc r.place; elem = r.elem; there = r.there; from = omega arith; passes = r.passes }
from_any f (x ∷ xs) (suc i) e = let r = from_any f xs i e in record { place = suc r.place; elem = r.elem; there = r.there; from = omega (arith, r.from); passes = r.passes }

-- ---- path sources of slots

via_parts : (peers : List Peer) (s : PathSlot) (v : Via) → via_on peers s ≡ Some v → (slice_get peers s.peer ≡ Some v.peer) × (s.id ≡ v.id)
via_parts peers s v e = by_peer (slice_get peers s.peer) refl e
  where
    by_peer : (o : Option Peer) → slice_get peers s.peer ≡ o → via_or o s.id ≡ Some v → (slice_get peers s.peer ≡ Some v.peer) × (s.id ≡ v.id)
    by_peer None g h = absurd cc
    by_peer (Some q) g h = let x = same_Some _ v h in (g ∙ ap (λ (w : Via). Some w.peer) x, ap (λ (w : Via). w.id) x)

pub key_of_via : (rows : List Row) (peers : List Peer) (s : PathSlot) (r : Row) (v : Via) → slice_get rows s.row ≡ Some r → via_on peers s ≡ Some v → key_on rows peers s ≡ Some (record { via = v; prefix = r.prefix })
key_of_via rows peers s r v f g = ap (λ x. key_or x (via_on peers s)) f ∙ ap (key_or (Some r)) g

-- ---- the walk over a run

pub same_number : (a b : ℕ) → (a == b) ≡ true → a ≡ b
same_number a b i = grind arith

pub number_same : (a b : ℕ) → a ≡ b → (a == b) ≡ true
number_same a b i = grind (arith, i)

and_parts : (a b : Bool) → (a && b) ≡ true → (a ≡ true) × (b ≡ true)
and_parts true b e = (refl, e)
and_parts false b e = absurd cc

module _ (b : Flat) (over : Paths) (p : code.Prefix) (r : ℕ) (but : Option Via) (f : IsFlat b) (row : IsRowPlace b.rows.items p r) (apart : ShareNoKey (flat_paths b) over) where
  abbrev pub left : ℕ → events.Via → Bool
  left i m = out_as but m || waits b.peers.keys r m (drop i b.rows.slots)

  test : events.Via → PathSlot → Bool
  test m s = (s.row == r) && is_via m (via_on b.peers.keys s)

  pub one_prefix : prefix_as p ≡ prefix_as row.0.prefix
  one_prefix = same_prefix_is (prefix_as p) (prefix_as row.0.prefix) (sym (prefix_same p row.0.prefix) ∙ row.2)

  -- a candidate of the prefix that has a slot waits from the run's beginning on
  covered : (s : PathKey) (o : Option PathAttrs) (from : ℕ) → ((j : ℕ) (u : PathSlot) → slice_get b.rows.slots j ≡ Some u → u.row ≡ r → from ≤ j) → code_cmp p s.prefix ≡ Equal → lookup (is_at (key_cmp s)) (flat_paths b) ≡ Some o → waits b.peers.keys r (via_as s.via) (drop from b.rows.slots) ≡ true
  covered s o from start e h =
      let y = key_slot b.rows.items b.peers.keys b.hops.keys s b.rows.slots o h in
      let x = key_parts b.rows.items b.peers.keys y.1 y.2 y.4 in
      let q = same_parts s y.2 y.5 in
      let one : code_cmp p x.row.prefix ≡ Equal = prefix_total.congr p s.prefix x.row.prefix e ∙ (ap (λ (k : PathKey). code_cmp s.prefix k.prefix) x.is ∙ q.prefix) in
      let its : y.1.row ≡ r = one_row b f y.1.row r x.row row.0 x.row_there row.1 (tied_back prefix_total row.0.prefix x.row.prefix (sym (prefix_total.congr p row.0.prefix x.row.prefix (is_equal _ row.2)) ∙ one)) in
      let v : Via = record { peer = x.peer; id = y.1.id } in
      let way : same_via (via_as v) (via_as s.via) ≡ true = sym (via_same v s.via) ∙ ap is_eq (tied_back via_total s.via v (ap (λ (k : PathKey). code_via_cmp s.via k.via) x.is ∙ tied_via s y.2 (is_equal _ y.5))) in
      any_from (λ u. (u.row == r) && is_via (via_as s.via) (via_on b.peers.keys u)) b.rows.slots from y.0 y.1 y.3 (start y.0 y.1 y.3 its)
      (ap (λ c. c && is_via (via_as s.via) (via_on b.peers.keys y.1)) (number_same y.1.row r its) ∙ (ap (λ o. is_via (via_as s.via) (via_or o y.1.id)) x.peer_there ∙ way))

  -- a slot that waits is the row's, and of that peer
  waiting : (m : events.Via) (i : ℕ) → waits b.peers.keys r m (drop i b.rows.slots) ≡ true → (j : ℕ) × (s : PathSlot) × (q : Via) × (slice_get b.rows.slots j ≡ Some s) × (i ≤ j) × (s.row ≡ r) × (via_on b.peers.keys s ≡ Some q) × (same_via (via_as q) m ≡ true)
  waiting m i e =
      let x = from_any (λ s. (s.row == r) && is_via m (via_on b.peers.keys s)) b.rows.slots i e in
      let y = and_parts (x.elem.row == r) (is_via m (via_on b.peers.keys x.elem)) x.passes in
      by_peer x.place x.elem x.there x.from (same_number x.elem.row r y.0) (via_on b.peers.keys x.elem) refl y.1
    where
      by_peer : (j : ℕ) (s : PathSlot) → slice_get b.rows.slots j ≡ Some s → i ≤ j → s.row ≡ r → (o : Option Via) → via_on b.peers.keys s ≡ o → is_via m o ≡ true → (j : ℕ) × (s : PathSlot) × (q : Via) × (slice_get b.rows.slots j ≡ Some s) × (i ≤ j) × (s.row ≡ r) × (via_on b.peers.keys s ≡ Some q) × (same_via (via_as q) m ≡ true)
      by_peer j s g l h None k t = absurd cc
      by_peer j s g l h (Some q) k t = (j, s, q, g, l, h, k, t)

  -- the path key of such a slot is in the flat part
  its_key : (s : PathKey) (j : ℕ) (u : PathSlot) (q : Via) → slice_get b.rows.slots j ≡ Some u → u.row ≡ r → via_on b.peers.keys u ≡ Some q → same_via (via_as q) (via_as s.via) ≡ true → code_cmp s.prefix row.0.prefix ≡ Equal → lookup (is_at (key_cmp s)) (flat_paths b) ≡ Some (attrs_on b.hops.keys u)
  its_key s j u q g h k t e = attrs_found b s j f (record {
    slot = u;
    there = g;
    key = record { via = q; prefix = row.0.prefix };
    is = key_of_via b.rows.items b.peers.keys u row.0 q (ap (slice_get b.rows.items) h ∙ row.1) k;
    same = ap is_eq (key_tied s (record { via = q; prefix = row.0.prefix }) e (tied_back via_total q s.via (is_equal _ (via_same q s.via ∙ t))));
  })

  at_p : (s : PathKey) → same_prefix (prefix_as p) (prefix_as s.prefix) ≡ true → code_cmp p s.prefix ≡ Equal
  at_p s e = is_equal _ (prefix_same p s.prefix ∙ e)

  -- a candidate of the prefix that both hold and that doesn't wait is the other part's
  others : (from : ℕ) → ((j : ℕ) (u : PathSlot) → slice_get b.rows.slots j ≡ Some u → u.row ≡ r → from ≤ j) → (d : Place × model.PathAttrs) → IsHeld (held_in (paths_over b over)) d → same_prefix (prefix_as p) d.0.prefix ≡ true → waits b.peers.keys r d.0.via (drop from b.rows.slots) ≡ false → IsHeld (held_in over) d
  others from start d h e n =
      let c = code_of (paths_over b over) d h in
      by_key c.key c.place c.attrs c.here c.is (lookup (is_at (key_cmp c.key)) (flat_paths b)) refl
    where
      by_key : (s : PathKey) → place_as s ≡ d.0 → (o : PathAttrs) → attrs_at (paths_over b over) s ≡ Some o → attrs_as o ≡ d.1 → (x : Option (Option PathAttrs)) → lookup (is_at (key_cmp s)) (flat_paths b) ≡ x → IsHeld (held_in over) d
      by_key s k o g i None l = ap (λ (q : Place). lookup (same_place q) (held_in over)) (sym k) ∙ (at_key s over ∙ (ap (option_map attrs_as) (sym (attrs_over s (flat_paths b) over l) ∙ g) ∙ ap Some i))
      by_key s k o g i (Some x) l =
          let y : waits b.peers.keys r d.0.via (drop from b.rows.slots) ≡ true = ap (λ (q : Place). waits b.peers.keys r q.via (drop from b.rows.slots)) (sym k) ∙ covered s x from start (at_p s (ap (λ (q : Place). same_prefix (prefix_as p) q.prefix) k ∙ e)) l in absurd cc

  -- one that the other part holds doesn't wait, and both hold it
  stays : (d : Place × model.PathAttrs) → IsHeld (held_in over) d → (d.0.prefix ≡ prefix_as p) → (from : ℕ) → IsHeld (held_in (paths_over b over)) d × (waits b.peers.keys r d.0.via (drop from b.rows.slots) ≡ false)
  stays d h e from =
      let c = code_of over d h in
      let none = apart c.key c.attrs c.here in
      (ap (λ (q : Place). lookup (same_place q) (held_in (paths_over b over))) (sym c.place) ∙ (at_key c.key (paths_over b over) ∙ (ap (option_map attrs_as) (attrs_over c.key (flat_paths b) over none ∙ c.here) ∙ ap Some c.is)), by_test c.key c.place none (waits b.peers.keys r d.0.via (drop from b.rows.slots)) refl)
    where
      by_test : (s : PathKey) → place_as s ≡ d.0 → lookup (is_at (key_cmp s)) (flat_paths b) ≡ None → (t : Bool) → waits b.peers.keys r d.0.via (drop from b.rows.slots) ≡ t → t ≡ false
      by_test s k n true t =
          let w = waiting d.0.via from t in
          let one : code_cmp p s.prefix ≡ Equal = at_p s (ap (λ (q : Place). same_prefix (prefix_as p) q.prefix) k ∙ (ap (same_prefix (prefix_as p)) e ∙ same_prefix_itself (prefix_as p))) in
          let x = its_key s w.0 w.1 w.2 w.3 w.5 w.6 (ap (λ (q : Place). same_via (via_as w.2) q.via) k ∙ w.7) (sym (prefix_total.congr p s.prefix row.0.prefix one) ∙ is_equal _ row.2) in
          absurd (none-some _ (sym n ∙ x))
      by_test s k n false t = refl

  pub walk_starts : (from : ℕ) → ((j : ℕ) (u : PathSlot) → slice_get b.rows.slots j ≡ Some u → u.row ≡ r → from ≤ j) → (c : Option (Place × model.PathAttrs)) → IsBestOf (held_in over) (prefix_as p) (out_as but) c → IsBestOf (held_in (paths_over b over)) (prefix_as p) (left from) c
  walk_starts from start None best = λ d h e. by_test d h e (waits b.peers.keys r d.0.via (drop from b.rows.slots)) refl
    where
      by_test : (d : Place × model.PathAttrs) → IsHeld (held_in (paths_over b over)) d → same_prefix (prefix_as p) d.0.prefix ≡ true → (t : Bool) → waits b.peers.keys r d.0.via (drop from b.rows.slots) ≡ t → (out_as but d.0.via || t) ≡ true
      by_test d h e true t = right (out_as but d.0.via)
        where
          right : (a : Bool) → (a || true) ≡ true
          right true = refl
          right false = refl
      by_test d h e false t = ap (λ a. a || false) (best d (others from start d h e t) e)
  walk_starts from start (Some c) best =
      let x = stays c best.0 best.1 from in
      (x.0, best.1, or_false _ _ best.2 x.1, λ d h e n. best.3 d (others from start d h e (or_right _ _ n)) e (or_left _ _ n))

  -- past a slot of another row
  pub walk_past : (i : ℕ) (s : PathSlot) (c : Option (Place × model.PathAttrs)) → slice_get b.rows.slots i ≡ Some s → (s.row ≡ r → ⊥) → IsBestOf (held_in (paths_over b over)) (prefix_as p) (left i) c → IsBestOf (held_in (paths_over b over)) (prefix_as p) (left (suc i)) c
  walk_past i s c g n best = best_by (held_in (paths_over b over)) (prefix_as p) (left i) (left (suc i)) c (λ m. ap (λ xs. out_as but m || waits b.peers.keys r m xs) (drop_here b.rows.slots i s g) ∙ ap (λ x. out_as but m || ((x && is_via m (via_on b.peers.keys s)) || waits b.peers.keys r m (drop (suc i) b.rows.slots))) (by_test (s.row == r) refl)) best
    where
      by_test : (t : Bool) → (s.row == r) ≡ t → t ≡ false
      by_test true t = absurd (n (same_number s.row r t))
      by_test false t = refl

  -- past a slot of the row
  pub walk_slot : (i : ℕ) (s : PathSlot) (best new : Option Candidate) → slice_get b.rows.slots i ≡ Some s → s.row ≡ r → new ≡ better_on but (via_on b.peers.keys s) (attrs_on b.hops.keys s) best → IsBestOf (held_in (paths_over b over)) (prefix_as p) (left i) (option_map (candidate_as (prefix_as p)) best) → IsBestOf (held_in (paths_over b over)) (prefix_as p) (left (suc i)) (option_map (candidate_as (prefix_as p)) new)
  walk_slot i s best new g e same c =
      by_via (via_on b.peers.keys s) refl
    where
      held : Candidates
      held = held_in (paths_over b over)

      P : Prefix
      P = prefix_as p

      rest : events.Via → Bool
      rest m = waits b.peers.keys r m (drop (suc i) b.rows.slots)

      left_is : (q : Via) → via_on b.peers.keys s ≡ Some q → (m : events.Via) → left i m ≡ (out_as but m || (same_via (via_as q) m || rest m))
      left_is q k m = ap (λ xs. out_as but m || waits b.peers.keys r m xs) (drop_here b.rows.slots i s g) ∙ (ap (λ x. out_as but m || ((x && is_via m (via_on b.peers.keys s)) || rest m)) (number_same s.row r e) ∙ ap (λ o. out_as but m || (is_via m o || rest m)) k)

      -- no later slot of the row is of this peer
      none_later : (q : Via) → via_on b.peers.keys s ≡ Some q → (t : Bool) → rest (via_as q) ≡ t → t ≡ false
      none_later q k true t =
          let w = waiting (via_as q) (suc i) t in
          let x = via_parts b.peers.keys w.1 w.2 w.6 in
          let y = via_parts b.peers.keys s q k in
          let v : via_as w.2 ≡ via_as q = via_key.same (via_as w.2) (via_as q) w.7 in
          let peer : same_peer (peer_as w.2.peer) (peer_as q.peer) ≡ true = ap (λ (z : events.Via). same_peer (peer_as w.2.peer) z.peer) (sym v) ∙ peer_key.itself (peer_as w.2.peer) in
          let id : w.1.id ≡ s.id = x.1 ∙ (ap (λ (z : events.Via). z.id) v ∙ sym y.1) in
          let j : w.0 ≡ i = f.alone w.0 i w.1 s w.3 g (w.5 ∙ sym e) (f.numbers w.1.peer s.peer w.2.peer q.peer x.0 y.0 peer) id (is_there b.peers.keys w.1.peer no_peer w.2.peer f.few_peers x.0) in
          absurd (omega (arith, j, w.4))
      none_later q k false t = refl

      swapped : (a c d : Bool) → (a || (c || d)) ≡ (c || (a || d))
      swapped true true d = refl
      swapped true false d = refl
      swapped false true d = refl
      swapped false false d = refl

      by_out : (q : Via) → via_on b.peers.keys s ≡ Some q → (t : Bool) → is_excluded but q ≡ t → IsBestOf held P (left (suc i)) (option_map (candidate_as P) (better_on but (Some q) (attrs_on b.hops.keys s) best))
      by_out q k true t = subst (λ n. IsBestOf held P (left (suc i)) (option_map (candidate_as P) n)) (sym (kept (attrs_on b.hops.keys s))) (best_by held P (left i) (left (suc i)) (option_map (candidate_as P) best) (λ m. left_is q k m ∙ none m (same_via (via_as q) m) refl) c)
        where
          kept : (o : Option PathAttrs) → better_on but (Some q) o best ≡ best
          kept None = refl
          kept (Some o) = ap (λ (x : Bool). if x then best else Some (better_one (record { via = q; attrs = o }) best)) t

          none : (m : events.Via) (a : Bool) → same_via (via_as q) m ≡ a → (out_as but m || (a || rest m)) ≡ (out_as but m || rest m)
          none m true a = ap (λ x. x || (true || rest m)) out ∙ sym (ap (λ x. x || rest m) out)
            where
              out : out_as but m ≡ true
              out = ap (out_as but) (sym (via_key.same (via_as q) m a)) ∙ (sym (is_out_as but q) ∙ t)
          none m false a = refl
      by_out q k false t =
          let own : lookup (same_place (place_at P (via_as q))) held ≡ option_map attrs_as (attrs_on b.hops.keys s) = its_own_attrs q k in
          subst (IsBestOf held P (left (suc i))) (sym (joined_as P but q (attrs_on b.hops.keys s) best t))
          (widen held P (via_as q) (left (suc i)) (or_false _ _ (sym (is_out_as but q) ∙ t) (none_later q k (rest (via_as q)) refl)) (option_map attrs_as (attrs_on b.hops.keys s)) (option_map (candidate_as P) best) own
          (best_by held P (left i) (λ m. same_via (via_as q) m || left (suc i) m) (option_map (candidate_as P) best) (λ m. left_is q k m ∙ swapped (out_as but m) (same_via (via_as q) m) (rest m)) c))
        where
          key : Via → PathKey
          key q = record { via = q; prefix = row.0.prefix }

          its_own_attrs : (q : Via) → via_on b.peers.keys s ≡ Some q → lookup (same_place (place_at P (via_as q))) held ≡ option_map attrs_as (attrs_on b.hops.keys s)
          its_own_attrs q k =
              ap (λ x. lookup (same_place (place_at x (via_as q))) held) one_prefix
              ∙ (at_key (key q) (paths_over b over) ∙ ap (option_map attrs_as) (attrs_under (key q) (flat_paths b) over (attrs_on b.hops.keys s) (its_key (key q) i s q g e k (via_key.itself (via_as q)) (tied_itself prefix_total row.0.prefix))))

      by_via : (o : Option Via) → via_on b.peers.keys s ≡ o → IsBestOf held P (left (suc i)) (option_map (candidate_as P) new)
      by_via None k = subst (λ n. IsBestOf held P (left (suc i)) (option_map (candidate_as P) n)) (sym (same ∙ ap (λ q. better_on but q (attrs_on b.hops.keys s) best) k)) (best_by held P (left i) (left (suc i)) (option_map (candidate_as P) best) (λ m. ap (λ xs. out_as but m || waits b.peers.keys r m xs) (drop_here b.rows.slots i s g) ∙ (ap (λ x. out_as but m || ((x && is_via m (via_on b.peers.keys s)) || rest m)) (number_same s.row r e) ∙ ap (λ o. out_as but m || (is_via m o || rest m)) k)) c)
      by_via (Some q) k = subst (λ n. IsBestOf held P (left (suc i)) (option_map (candidate_as P) n)) (sym (same ∙ ap (λ q. better_on but q (attrs_on b.hops.keys s) best) k)) (by_out q k (is_excluded but q) refl)

  pub walk_ends : (i : ℕ) (c : Option (Place × model.PathAttrs)) → ((j : ℕ) (u : PathSlot) → slice_get b.rows.slots j ≡ Some u → u.row ≡ r → j < i) → IsBestOf (held_in (paths_over b over)) (prefix_as p) (left i) c → IsBestOf (held_in (paths_over b over)) (prefix_as p) (out_as but) c
  walk_ends i c ends best = best_by (held_in (paths_over b over)) (prefix_as p) (left i) (out_as but) c (λ m. ap (λ x. out_as but m || x) (by_test m (waits b.peers.keys r m (drop i b.rows.slots)) refl) ∙ or_none (out_as but m)) best
    where
      or_none : (a : Bool) → (a || false) ≡ a
      or_none true = refl
      or_none false = refl

      by_test : (m : events.Via) (t : Bool) → waits b.peers.keys r m (drop i b.rows.slots) ≡ t → t ≡ false
      by_test m true t = let w = waiting m i t in let l : w.0 < i = ends w.0 w.1 w.3 w.5 in absurd (omega (arith, l, w.4))
      by_test m false t = refl

-- where the flat part has no row of the prefix
pub no_row_best : (b : Flat) (over : Paths) (p : code.Prefix) (but : Option Via) → ShareNoKey (flat_paths b) over → HasNoRow b.rows.items p → (c : Option (Place × model.PathAttrs)) → IsBestOf (held_in over) (prefix_as p) (out_as but) c → IsBestOf (held_in (paths_over b over)) (prefix_as p) (out_as but) c
no_row_best b over p but apart none c best = by_best c best
  where
    mine : (d : Place × model.PathAttrs) → IsHeld (held_in (paths_over b over)) d → same_prefix (prefix_as p) d.0.prefix ≡ true → IsHeld (held_in over) d
    mine d h e =
        let c = code_of (paths_over b over) d h in
        let n = no_row_key b c.key (λ i row g. by_test c.key.prefix row (is_eq (code_cmp c.key.prefix row.prefix)) refl (none i row g) (is_equal _ (prefix_same p c.key.prefix ∙ (ap (λ (q : Place). same_prefix (prefix_as p) q.prefix) c.place ∙ e)))) in
        ap (λ (q : Place). lookup (same_place q) (held_in over)) (sym c.place) ∙ (at_key c.key over ∙ (ap (option_map attrs_as) (sym (attrs_over c.key (flat_paths b) over n) ∙ c.here) ∙ ap Some c.is))
      where
        by_test : (s : code.Prefix) (row : Row) (t : Bool) → is_eq (code_cmp s row.prefix) ≡ t → is_eq (code_cmp p row.prefix) ≡ false → code_cmp p s ≡ Equal → t ≡ false
        by_test s row true t x y = let z : is_eq (code_cmp p row.prefix) ≡ true = ap is_eq (prefix_total.congr p s row.prefix y) ∙ t in absurd cc
        by_test s row false t x y = refl

    theirs : (d : Place × model.PathAttrs) → IsHeld (held_in over) d → IsHeld (held_in (paths_over b over)) d
    theirs d h =
        let c = code_of over d h in
        ap (λ (q : Place). lookup (same_place q) (held_in (paths_over b over))) (sym c.place) ∙ (at_key c.key (paths_over b over) ∙ (ap (option_map attrs_as) (attrs_over c.key (flat_paths b) over (apart c.key c.attrs c.here) ∙ c.here) ∙ ap Some c.is))

    by_best : (c : Option (Place × model.PathAttrs)) → IsBestOf (held_in over) (prefix_as p) (out_as but) c → IsBestOf (held_in (paths_over b over)) (prefix_as p) (out_as but) c
    by_best None x = λ d h e. x d (mine d h e) e
    by_best (Some c) x = (theirs c x.0, x.1, x.2, λ d h e n. x.3 d (mine d h e) e n)

pub best_none : (b : Flat) (p : code.Prefix) (but : Option Via) (other : Option Candidate) → HasNoRow b.rows.items p → (over : Paths) → ShareNoKey (flat_paths b) over → IsBestHeld over but p other → IsBestHeld (paths_over b over) but p other
best_none b p but other none over apart best = no_row_best b over p but apart none (option_map (candidate_as (prefix_as p)) other) best

-- the best beside a path source, by a prefix and a path source that are the same
pub best_as : (b : Flat) (p q : code.Prefix) (but out : Option Via) (other best : Option Candidate) → p ≡ q → but ≡ out → ((over : Paths) → ShareNoKey (flat_paths b) over → IsBestHeld over but p other → IsBestHeld (paths_over b over) but p best) → (over : Paths) → ShareNoKey (flat_paths b) over → IsBestHeld over out q other → IsBestHeld (paths_over b over) out q best
best_as b p q but out other best e f h =
    let Best : code.Prefix → Option Via → Type 0 = λ r w. (over : Paths) → ShareNoKey (flat_paths b) over → IsBestHeld over w r other → IsBestHeld (paths_over b over) w r best in
    subst (λ (w : Option Via). Best q w) f (subst (λ (r : code.Prefix). Best r but) e h)

-- ---- what the loop keeps

abbrev pub Walks : Flat → code.Prefix → ℕ → Option Via → Option Candidate → ℕ → Option Candidate → Type 0
Walks b p r but other i best = (over : Paths) → ShareNoKey (flat_paths b) over → IsBestHeld over but p other → IsBestOf (held_in (paths_over b over)) (prefix_as p) (λ m. out_as but m || waits b.peers.keys r m (drop i b.rows.slots)) (option_map (candidate_as (prefix_as p)) best)

pub walks_start : (b : Flat) (p : code.Prefix) (r from to : ℕ) (but : Option Via) (other : Option Candidate) → IsFlat b → IsRowPlace b.rows.items p r → IsSlotRun b.rows.items r (length b.rows.slots) from to → Walks b p r but other from other
walks_start b p r from to but other f row run over apart best = walk_starts b over p r but f row apart from (λ j u g h. (in_run b r from to j u f run g h).0) (option_map (candidate_as (prefix_as p)) other) best

pub walks_past : (b : Flat) (p : code.Prefix) (r i : ℕ) (s : PathSlot) (but : Option Via) (other best : Option Candidate) → IsFlat b → IsRowPlace b.rows.items p r → slice_get b.rows.slots i ≡ Some s → (s.row ≡ r → ⊥) → Walks b p r but other i best → Walks b p r but other (suc i) best
walks_past b p r i s but other best f row g n w over apart x = walk_past b over p r but f row apart i s (option_map (candidate_as (prefix_as p)) best) g n (w over apart x)

pub walks_slot : (b : Flat) (p : code.Prefix) (r i : ℕ) (s : PathSlot) (but : Option Via) (other best new : Option Candidate) → IsFlat b → IsRowPlace b.rows.items p r → slice_get b.rows.slots i ≡ Some s → s.row ≡ r → new ≡ better_on but (via_on b.peers.keys s) (attrs_on b.hops.keys s) best → Walks b p r but other i best → Walks b p r but other (suc i) new
walks_slot b p r i s but other best new f row g e same w over apart x = walk_slot b over p r but f row apart i s best new g e same (w over apart x)

walks_none : (b : Flat) (p : code.Prefix) (r i : ℕ) (but : Option Via) (other best : Option Candidate) → slice_get b.rows.slots i ≡ None → Walks b p r but other i best → Walks b p r but other (suc i) best
walks_none b p r i but other best g w over apart x = best_by (held_in (paths_over b over)) (prefix_as p) (λ m. out_as but m || waits b.peers.keys r m (drop i b.rows.slots)) (λ m. out_as but m || waits b.peers.keys r m (drop (suc i) b.rows.slots)) (option_map (candidate_as (prefix_as p)) best) (λ m. ap (λ xs. out_as but m || waits b.peers.keys r m xs) (drop_past b.rows.slots i g)) (w over apart x)

pub walks_step : (b : Flat) (p : code.Prefix) (r i : ℕ) (but : Option Via) (other best new : Option Candidate) → IsFlat b → IsRowPlace b.rows.items p r → new ≡ best_step b.peers.keys b.hops.keys r but (slice_get b.rows.slots i) best → Walks b p r but other i best → Walks b p r but other (i + 1) new
walks_step b p r i but other best new f row e w = let k : suc i ≡ i + 1 = omega arith in subst (λ n. Walks b p r but other n new) k (by_slot (slice_get b.rows.slots i) refl e)
  where
    by_row : (s : PathSlot) → slice_get b.rows.slots i ≡ Some s → (t : Bool) → (s.row == r) ≡ t → new ≡ (if t then better_on but (via_on b.peers.keys s) (attrs_on b.hops.keys s) best else best) → Walks b p r but other (suc i) new
    by_row s g true t h = walks_slot b p r i s but other best new f row g (same_number s.row r t) h w
    by_row s g false t h = subst (Walks b p r but other (suc i)) (sym h) (walks_past b p r i s but other best f row g (λ a. let x : (s.row == r) ≡ true = number_same s.row r a in absurd cc) w)

    by_slot : (o : Option PathSlot) → slice_get b.rows.slots i ≡ o → new ≡ best_step b.peers.keys b.hops.keys r but o best → Walks b p r but other (suc i) new
    by_slot None g h = subst (Walks b p r but other (suc i)) (sym h) (walks_none b p r i but other best g w)
    by_slot (Some s) g h = by_row s g (s.row == r) refl h

pub walks_end : (b : Flat) (p : code.Prefix) (r from to i : ℕ) (but : Option Via) (other best : Option Candidate) → IsFlat b → IsRowPlace b.rows.items p r → IsSlotRun b.rows.items r (length b.rows.slots) from to → to ≤ i → Walks b p r but other i best → (over : Paths) → ShareNoKey (flat_paths b) over → IsBestHeld over but p other → IsBestHeld (paths_over b over) but p best
walks_end b p r from to i but other best f row run l w over apart x = walk_ends b over p r but f row apart i (option_map (candidate_as (prefix_as p)) best) (λ j u g h. let y = (in_run b r from to j u f run g h).1 in omega (arith, y, l)) (w over apart x)
