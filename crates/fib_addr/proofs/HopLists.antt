-- Lists of hops: numbers stay as more hops are numbered, a number's hop has the number, and no hop stands twice.
use Rattle.std.proofs.Common.{◌≡◌, ℕ, zero, suc, ◌+◌, ◌<◌, ◌≤◌, List, [], ◌∷◌, ◌++◌, Bool, true, false, cond, not, Option, Some, None, length, refl, sym, ap, ◌∙◌, arith, length-append}
use Rattle.std.specs.Prelude.{◌||◌, nat_lt, option_map, fold, slice_get, IsSome}
use Rattle.std.specs.Cmp.{IsEquivalence, both_ways}
use Rattle.std.specs.List.{AllByRecursion, IsDistinct, list_any, position_or_len}
use Rattle.std.proofs.lemmas.Bool.{ltb-true, lt-ltb, ne_eqb, cond-false}
use Rattle.std.proofs.lemmas.List.Folds.{list_any-append, position_or_len_push}
use Rattle.std.proofs.lemmas.Map.Keys.{IsDistinct-push}
use Rattle.table_model.specs.Address.{Address, same_address}
use Rattle.table_model.proofs.SamePrefix.{same_address_is, same_address_itself}
use Rattle.fib_addr.specs.Hops.{number_of, hop_at, with_hop}

-- ---- a number is a place from 1

abbrev placed : ℕ → ℕ → Option ℕ
placed place len = option_map (λ n. n + 1) (cond (nat_lt place len) (Some place) None)

within : (place len n : ℕ) → placed place len ≡ Some n → (place < len) × (n ≡ place + 1)
within place len n e = by_test (nat_lt place len) refl e
  where
    by_test : (b : Bool) → nat_lt place len ≡ b → option_map (λ n. n + 1) (cond b (Some place) None) ≡ Some n → (place < len) × (n ≡ place + 1)
    by_test true t x = (ltb-true place len t, cc)
    by_test false t x = absurd cc

is_placed : (place len : ℕ) → place < len → placed place len ≡ Some (place + 1)
is_placed place len l = ap (λ b. option_map (λ n. n + 1) (cond b (Some place) None)) (lt-ltb place len l)

pub number_range : (hops : List Address) (a : Address) (n : ℕ) → number_of hops a ≡ Some n → (1 ≤ n) × (n ≤ length hops)
number_range hops a n e = let w = within (position_or_len (same_address a) hops) (length hops) n e in (omega (arith, w.1), omega (arith, w.0, w.1))

-- ---- numbers stay

number_stays : (hops : List Address) (a b : Address) (n : ℕ) → number_of hops a ≡ Some n → number_of (with_hop hops b) a ≡ Some n
number_stays hops a b n e = by_test (list_any (same_address b) hops)
  where
    place : ℕ
    place = position_or_len (same_address a) hops

    here : (place < length hops) × (n ≡ place + 1)
    here = within place (length hops) n e

    same : position_or_len (same_address a) (hops ++ b ∷ []) ≡ place
    same =
        let apart : place ≡ length hops → ⊥ = λ i. let l : place < length hops = here.0 in omega (arith, i, l) in
        position_or_len_push (same_address a) hops b ∙ cond-false _ _ _ (ne_eqb place (length hops) apart)

    by_test : (t : Bool) → number_of (cond t hops (hops ++ b ∷ [])) a ≡ Some n
    by_test true = e
    by_test false =
        ap (λ i. placed i (length (hops ++ b ∷ []))) same
        ∙ (is_placed place (length (hops ++ b ∷ [])) (omega (arith, here.0, length-append hops (b ∷ []))) ∙ ap Some (sym here.1))

pub folded_stays : (hops more : List Address) (a : Address) (n : ℕ) → number_of hops a ≡ Some n → number_of (fold with_hop hops more) a ≡ Some n
folded_stays hops [] a n e = e
folded_stays hops (b ∷ more) a n e = folded_stays (with_hop hops b) more a n (number_stays hops a b n e)

-- ---- hops that have numbers

abbrev pub HasNumber : List Address → Address → Type 0
HasNumber hops a = (n : ℕ) × (number_of hops a ≡ Some n)

pub passes_within : {X : Type 0} (p : X → Bool) (xs : List X) → list_any p xs ≡ true → position_or_len p xs < length xs
passes_within p [] h = absurd cc
passes_within p (x ∷ xs) h = by_test (p x) h (passes_within p xs)
  where
    by_test : (b : Bool) → (b || list_any p xs) ≡ true → (list_any p xs ≡ true → position_or_len p xs < length xs) → cond (not b) (1 + position_or_len p xs) 0 < length (x ∷ xs)
    by_test true g ih = omega arith
    by_test false g ih = omega (arith, ih g)

held_number : (hops : List Address) (a : Address) → list_any (same_address a) hops ≡ true → HasNumber hops a
held_number hops a h = (position_or_len (same_address a) hops + 1, is_placed _ _ (passes_within (same_address a) hops h))

-- a hop that is numbered has a number
pub brought_number : (hops : List Address) (a : Address) → HasNumber (with_hop hops a) a
brought_number hops a = by_test (list_any (same_address a) hops) refl
  where
    last : (b : Bool) → (b || (same_address a a || false)) ≡ true
    last true = refl
    last false = ap (λ b. b || false) (same_address_itself a)

    by_test : (b : Bool) → list_any (same_address a) hops ≡ b → HasNumber (cond b hops (hops ++ a ∷ [])) a
    by_test true t = held_number hops a t
    by_test false t = held_number (hops ++ a ∷ []) a (list_any-append (same_address a) hops (a ∷ []) ∙ last (list_any (same_address a) hops))

-- ---- the hop of a number

pub place_holds : (hops : List Address) (a : Address) → position_or_len (same_address a) hops < length hops → slice_get hops (position_or_len (same_address a) hops) ≡ Some a
place_holds [] a l = absurd (omega arith)
place_holds (b ∷ hops) a l = by_test (same_address a b) refl l (place_holds hops a)
  where
    by_test : (t : Bool) → same_address a b ≡ t → cond (not t) (1 + position_or_len (same_address a) hops) 0 < length (b ∷ hops)
        → (position_or_len (same_address a) hops < length hops → slice_get hops (position_or_len (same_address a) hops) ≡ Some a)
        → slice_get (b ∷ hops) (cond (not t) (1 + position_or_len (same_address a) hops) 0) ≡ Some a
    by_test true e m ih = ap Some (sym (same_address_is a b e))
    by_test false e m ih =
        let next : 1 + position_or_len (same_address a) hops ≡ suc (position_or_len (same_address a) hops) = omega arith in
        ap (slice_get (b ∷ hops)) next ∙ ih (omega arith)

-- the hop of a hop's number is the hop
pub number_holds : (hops : List Address) (a : Address) (n : ℕ) → number_of hops a ≡ Some n → hop_at hops n ≡ Some a
number_holds hops a n e =
    let w = within (position_or_len (same_address a) hops) (length hops) n e in
    let next : n ≡ suc (position_or_len (same_address a) hops) = omega (arith, w.1) in
    ap (hop_at hops) next ∙ place_holds hops a w.0

swapped : (a b : Address) → same_address a b ≡ true → same_address b a ≡ true
swapped a b e = ap (λ x. same_address x a) (sym (same_address_is a b e)) ∙ same_address_itself a

at_place : (P : Address → Type 0) (hops : List Address) (n : ℕ) (a : Address) → AllByRecursion P hops → slice_get hops n ≡ Some a → P a
at_place P [] n a h e = absurd cc
at_place P (b ∷ hops) zero a h e = let s : b ≡ a = cc in rw (sym s) h.0
at_place P (b ∷ hops) (suc n) a h e = at_place P hops n a h.1 e

place_from : (hops : List Address) (n : ℕ) (a : Address) → IsDistinct same_address hops → slice_get hops n ≡ Some a → (position_or_len (same_address a) hops ≡ n) × (n < length hops)
unfolding IsDistinct
place_from [] n a d e = absurd cc
place_from (b ∷ hops) zero a d e =
    let s : b ≡ a = cc in
    (ap (λ t. cond (not t) (1 + position_or_len (same_address a) hops) 0) (ap (same_address a) s ∙ same_address_itself a), omega arith)
place_from (b ∷ hops) (suc n) a d e =
    let r = place_from hops n a d.1 e in
    (by_test (same_address a b) refl r.0, omega (arith, r.1))
  where
    later : same_address b a ≡ false
    later = at_place (λ c. same_address b c ≡ false) hops n a d.0 e

    by_test : (t : Bool) → same_address a b ≡ t → position_or_len (same_address a) hops ≡ n → cond (not t) (1 + position_or_len (same_address a) hops) 0 ≡ suc n
    by_test true t p = let same : same_address b a ≡ true = swapped a b t in let apart : same_address b a ≡ false = later in absurd cc
    by_test false t p = omega (arith, p)

-- where no hop stands twice, the number of a number's hop is the number
pub number_from : (hops : List Address) (a : Address) (n : ℕ) → IsDistinct same_address hops → hop_at hops n ≡ Some a → number_of hops a ≡ Some n
number_from hops a zero d e = absurd cc
number_from hops a (suc n) d e =
    let p = place_from hops n a d e in
    let l : position_or_len (same_address a) hops < length hops = omega (arith, p.0, p.1) in
    let same : position_or_len (same_address a) hops + 1 ≡ suc n = omega (arith, p.0) in
    is_placed _ _ l ∙ ap Some same

-- each number up to the length is a hop's
pub number_there : (hops : List Address) (n : ℕ) → 1 ≤ n → n ≤ length hops → IsSome (hop_at hops n)
number_there hops zero l m = absurd (omega arith)
number_there [] (suc n) l m = absurd (omega arith)
number_there (a ∷ hops) (suc zero) l m = refl
number_there (a ∷ hops) (suc (suc n)) l m = number_there hops (suc n) (omega arith) (omega arith)

-- no other number is
pub number_within : (hops : List Address) (n : ℕ) → IsSome (hop_at hops n) → (1 ≤ n) × (n ≤ length hops)
number_within hops zero h = absurd cc
number_within [] (suc n) h = absurd cc
number_within (a ∷ hops) (suc zero) h = (omega arith, omega arith)
number_within (a ∷ hops) (suc (suc n)) h = let r = number_within hops (suc n) h in (omega arith, omega (arith, r.1))

-- ---- no hop stands twice

same_addresses : IsEquivalence same_address
same_addresses = record {
  refl = same_address_itself;
  symm = λ a b. both_ways (same_address a b) (same_address b a) (swapped a b) (swapped b a);
  congr = λ a b c e. ap (λ x. same_address x c) (same_address_is a b e);
}

pub with_hop_distinct : (hops : List Address) (a : Address) → IsDistinct same_address hops → IsDistinct same_address (with_hop hops a)
with_hop_distinct hops a d = by_test (list_any (same_address a) hops) refl
  where
    by_test : (t : Bool) → list_any (same_address a) hops ≡ t → IsDistinct same_address (cond t hops (hops ++ a ∷ []))
    by_test true e = d
    by_test false e = IsDistinct-push same_addresses hops a d e

pub folded_distinct : (hops used : List Address) → IsDistinct same_address hops → IsDistinct same_address (fold with_hop hops used)
folded_distinct hops [] d = d
folded_distinct hops (a ∷ used) d = folded_distinct (with_hop hops a) used (with_hop_distinct hops a d)

pub none_distinct : IsDistinct same_address []
unfolding IsDistinct
none_distinct = tt
