-- The least number among the VRPs that a walk has met.
use Rattle.std.proofs.Common.{◌≡◌, ℕ, ◌-◌, ◌<◌, ◌≤◌, ◌≢◌, inl, inr, Bool, true, false, not, List, [], ◌∷◌, length, map, get_or, min, Option, sym, ap, subst, ◌∙◌, arith}
use Rattle.std.specs.Prelude.{◌&&◌, nat_lt, position}
use Rattle.std.specs.List.{position_or_len}
use Rattle.std.proofs.lemmas.List.{get_or_default, length-map}
use Rattle.std.proofs.lemmas.Bool.{and_parts, cases_lt, cases_eq}
use Rattle.std.specs.List.Sorted.{IsPermutation}
use Rattle.table_model.specs.Address.{Prefix}
use Rattle.table_model.specs.Width.{width}
use Rattle.fib_addr.specs.Views.{prefix_as}
use Rattle.fib_addr.specs.declared.prefix.Prefix as code
use Rattle.fib_addr.proofs.Parts.{length_prefix}
use Rattle.fib_rov.specs.Rov.{covers_route, is_from, matches}
use Rattle.fib_rov.specs.Views.{allows, vrp_as}
use Rattle.fib_rov.specs.declared.vrp.Vrp.{Vrp}
use Rattle.fib_rov.specs.declared.numbered.Numbered.{Numbered}
use Rattle.fib_rov.specs.Index.{IsLast, vrp_covers, numbered, place_at, vrp_of, with_number}
use Rattle.fib_rov.proofs.Firsts.{first_few, first_least, first_mapped, first_passes}
use Rattle.fib_rov.proofs.Lasts.{apart}
use Rattle.fib_rov.proofs.Numbers.{row_at, row_is}

-- n is the number of a VRP that passes, and the least of those from a place on; it's the count if none passes
pub record Least (f : Vrp → Bool) (list : List Vrp) (sorted : List Numbered) (at n : ℕ) : Type 0 where
  pub few : n ≤ length list
  pub some : (v : Vrp) → n < length list → f (get_or list n v) ≡ true
  pub least : (i : ℕ) (r : Numbered) → at ≤ i → i < length sorted → f (vrp_of (get_or sorted i r)) ≡ true → n ≤ (get_or sorted i r).number

module _ (f : Vrp → Bool) (list : List Vrp) (sorted : List Numbered) where
  pub least_start : Least f list sorted (length sorted) (length list)
  least_start = record { few = omega arith; some = λ v h. absurd (omega arith); least = λ i r h k e. absurd (omega arith) }

  -- those between pass no test that only VRPs pass which cover the prefix
  pub least_further : (p : Prefix) (k at n : ℕ) → ((r : Numbered) → f (vrp_of r) ≡ true → vrp_covers p r ≡ true) → IsLast (vrp_covers p) sorted k at → Least f list sorted k n → Least f list sorted at n
  least_further p k at n only last l = record {
    few = l.few;
    some = l.some;
    least = λ i r h lt e. elim (cases_lt i k) [
      | inr ge ↦ l.least i r ge lt e
      | inl new ↦ absurd (apart (vrp_covers p (get_or sorted i r)) (only (get_or sorted i r) e) (last.none i r h new))
    ];
  }

  behind : (at i : ℕ) → 0 < at → at - 1 ≤ i → i ≢ at - 1 → at ≤ i
  behind at i some h ne = elim (cases_lt i at) [
    | inl lt ↦ absurd (ne (omega arith))
    | inr ge ↦ ge
  ]

  pub least_passed : (at n : ℕ) (d : Numbered) → 0 < at → at ≤ length sorted → f (vrp_of (get_or sorted (at - 1) d)) ≡ false → Least f list sorted at n → Least f list sorted (at - 1) n
  least_passed at n d some within fails l = record {
    few = l.few;
    some = l.some;
    least = λ i r h lt e. elim (cases_eq i (at - 1)) [
      | inl one ↦ absurd (apart (f (vrp_of (get_or sorted (at - 1) r))) (subst (λ j. f (vrp_of (get_or sorted j r)) ≡ true) one e) (ap (λ (x : Numbered). f (vrp_of x)) (get_or_default sorted (at - 1) r d (omega arith)) ∙ fails))
      | inr ne ↦ l.least i r (behind at i some h ne) lt e
    ];
  }

  pub least_taken : (at n : ℕ) (d : Numbered) → IsPermutation (numbered 0 list) sorted → 0 < at → at ≤ length sorted → f (vrp_of (get_or sorted (at - 1) d)) ≡ true → Least f list sorted at n → Least f list sorted (at - 1) (min n (get_or sorted (at - 1) d).number)
  least_taken at n d same some within is l =
      let row = row_is list sorted same (at - 1) d (omega arith) in
      let m = (get_or sorted (at - 1) d).number in
      record {
        few = omega (arith, l.few);
        some = λ v h. elim (cases_lt m n) [
          | inl lt ↦ let e : min n m ≡ m = omega arith in ap (λ j. f (get_or list j v)) e ∙ (ap f (row.vrp v) ∙ is)
          | inr ge ↦ let e : min n m ≡ n = omega arith in ap (λ j. f (get_or list j v)) e ∙ l.some v (omega (arith, e, h))
        ];
        least = λ i r h lt e. elim (cases_eq i (at - 1)) [
          | inl one ↦ let own : (get_or sorted i r).number ≡ m = ap (λ j. (get_or sorted j r).number) one ∙ ap (λ (x : Numbered). x.number) (get_or_default sorted (at - 1) r d (omega arith)) in omega (arith, own)
          | inr ne ↦ let old : n ≤ (get_or sorted i r).number = l.least i r (behind at i some h ne) lt e in omega (arith, old)
        ];
      }

  -- at the end it's the first that passes
  pub least_end : (n : ℕ) → IsPermutation (numbered 0 list) sorted → Least f list sorted 0 n → n ≡ position_or_len f list
  least_end n same l = elim (cases_lt n (length list)) [
    | inl lt ↦ upper lt
    | inr ge ↦ none ge
  ]
    where
      -- none that passes has a lower number
      lower : (k : ℕ) (v : Vrp) → k < length list → f (get_or list k v) ≡ true → n ≤ k
      lower k v h e =
          let x = with_number k (get_or list k v) in
          let at = row_at list sorted same k v h in
          subst (λ (r : Numbered). n ≤ r.number) at.2 (l.least at.0 x (omega arith) at.1 (subst (λ (r : Numbered). f (vrp_of r) ≡ true) (sym at.2) e))

      some_vrp : (xs : List Vrp) → 0 < length xs → Vrp
      some_vrp [] h = absurd (omega arith)
      some_vrp (x ∷ xs) h = x

      upper : n < length list → n ≡ position_or_len f list
      upper lt =
          let v = some_vrp list (omega arith) in
          let high : position_or_len f list ≤ n = first_least f list n v lt (l.some v lt) in
          let low : n ≤ position_or_len f list = lower (position_or_len f list) v (omega arith) (first_passes f list v (omega arith)) in
          omega arith

      none : length list ≤ n → n ≡ position_or_len f list
      none ge = elim (cases_lt (position_or_len f list) (length list)) [
        | inl lt ↦ let v = some_vrp list (omega arith) in let low : n ≤ position_or_len f list = lower (position_or_len f list) v lt (first_passes f list v lt) in absurd (omega arith)
        | inr all ↦ let few : position_or_len f list ≤ length list = first_few f list in let most : n ≤ length list = l.few in omega arith
      ]

-- ---- the two tests of a route

abbrev pub covering : Prefix → Vrp → Bool
covering p v = covers_route p (vrp_as v)

abbrev pub matching : Prefix → Option ℕ → Vrp → Bool
matching p origin v = matches p origin (vrp_as v)

pub only_covering : (p : Prefix) (r : Numbered) → covering p (vrp_of r) ≡ true → vrp_covers p r ≡ true
only_covering p r e = e

pub only_matching : (p : Prefix) (origin : Option ℕ) (r : Numbered) → matching p origin (vrp_of r) ≡ true → vrp_covers p r ≡ true
only_matching p origin r e = (and_parts (vrp_covers p r) (not (nat_lt r.maxlen (length p.bits)) && is_from origin r.asn) e).0

-- of a VRP that covers it, by the length that the prefix keeps
pub matching_is : (q : code.Prefix) (origin : Option ℕ) (r : Numbered) → vrp_covers (prefix_as q) r ≡ true → matching (prefix_as q) origin (vrp_of r) ≡ allows q.len origin (vrp_of r)
matching_is q origin r e =
    ap (λ b. b && (not (nat_lt r.maxlen (length (prefix_as q).bits)) && is_from origin r.asn)) e
    ∙ ap (λ n. not (nat_lt r.maxlen n) && is_from origin r.asn) (length_prefix (width q.family) q.len q.bits q.fits)

-- a place among the VRPs that contracts see
pub place_is : {X Y : Type 0} (f : Y → Bool) (v : X → Y) (xs : List X) (n count : ℕ) → n ≡ position_or_len (λ x. f (v x)) xs → count ≡ length xs → place_at n count ≡ position f (map v xs)
place_is f v xs n count e c =
    let same : n ≡ position_or_len f (map v xs) = e ∙ sym (first_mapped f v xs) in
    let all : count ≡ length (map v xs) = c ∙ sym (length-map xs v) in
    ap (λ k. place_at k count) same ∙ ap (λ k. place_at (position_or_len f (map v xs)) k) all
