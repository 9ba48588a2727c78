-- What is computed of tables is what comparing them comes to.
use Rattle.std.proofs.Common.{◌≡◌, ℕ, ◌+◌, List, [], ◌∷◌, Bool, Option, Some, None, refl, sym, ap, subst, ◌∙◌, append_assoc, append-nil, length, length-append, arith}
use Rattle.std.specs.Prelude.{◌++◌, option_map}
use Rattle.std.specs.Option.{option_or}
use Rattle.table_model.specs.Width.{width}
use Rattle.table_model.specs.Address.{Address}
use Rattle.table_model.specs.declared.family.Family.{Family}
use Rattle.table_model.specs.declared.family.Family.TheVariants.{V4, V6}
use Rattle.table_model.specs.Entries.{Entries, match_in, of_family}
use Rattle.table_model.specs.Sets.{answers}
use Rattle.cert_model.specs.Verdict.{No, NotSame, IsLeastDiffering, least_differing, not_same, not_same_at, not_same_in}
use Rattle.cert_model.proofs.Differing.{same_law, says}
use Rattle.fib_same.specs.Texts.{ComparesTo, Difference, IsDifferenceOf, difference_at, differing, differing_in, least_after, least_difference, lesser}
use Rattle.fib_same.proofs.Told.{next_told}

-- what a checker says of two tables that differ at this address
abbrev pub says_at : Entries → Entries → Address → No
says_at L M a = NotSame a (match_in L a) (match_in M a)

in_family : (L M : Entries) (f : Family) → not_same_in L M f ≡ option_map (says_at L M) (differing_in L M f)
in_family L M f = by_bits (least_differing (width f) (answers (of_family f L) []) (answers (of_family f M) []))
  where
    by_bits : (o : Option (List Bool)) → not_same_at L M f o ≡ option_map (says_at L M) (option_map (λ a. record { family = f; bits = a }) o)
    by_bits None = refl
    by_bits (Some a) = refl

-- it says so exactly at the least address
pub not_same_is : (L M : Entries) → not_same L M ≡ option_map (says_at L M) (differing L M)
not_same_is L M =
    ap (λ o. option_or o (not_same_in L M V6)) (in_family L M V4)
    ∙ (ap (λ o. option_or (option_map (says_at L M) (differing_in L M V4)) o) (in_family L M V6) ∙ by_first (differing_in L M V4))
  where
    by_first : (o : Option Address) → option_or (option_map (says_at L M) o) (option_map (says_at L M) (differing_in L M V6)) ≡ option_map (says_at L M) (option_or o (differing_in L M V6))
    by_first None = refl
    by_first (Some a) = refl

one_address : (a b : Address) (x y u v : ℕ) → NotSame a x y ≡ NotSame b u v → a ≡ b
one_address a b x y u v e = cc

pub one_found : (first : Entries) (n : ℕ) (t : Entries) → IsDifferenceOf first n t (difference_at first n t)
one_found first n t = by_address (differing first t) (not_same_is first t)
  where
    by_address : (o : Option Address) → not_same first t ≡ option_map (says_at first t) o → IsDifferenceOf first n t (option_map (λ a. record { text = n; addr = a }) o)
    by_address None e = (same_law first t).0 e
    by_address (Some a) e =
        let s = says first t (says_at first t a) e in
        (refl, subst (λ (b : Address). IsLeastDiffering first t b) (sym (one_address _ _ _ _ _ _ s.1)) s.2)

found_after : (first : Entries) (before others : List Entries) (best : Option Difference) (n : ℕ) → n ≡ length before → ComparesTo first before best → ComparesTo first (before ++ others) (least_after first best n others)
found_after first before [] best n e c = subst (λ (ts : List Entries). ComparesTo first ts best) (sym (append-nil before)) c
found_after first before (t ∷ others) best n e c =
    let one : IsDifferenceOf first (length before) t (difference_at first n t) = subst (λ (k : ℕ). IsDifferenceOf first k t (difference_at first n t)) e (one_found first n t) in
    let next : ComparesTo first (before ++ t ∷ []) (lesser best (difference_at first n t)) = next_told first before t best (difference_at first n t) c one in
    subst (λ (ts : List Entries). ComparesTo first ts (least_after first (lesser best (difference_at first n t)) (n + 1) others)) (append_assoc before (t ∷ []) others)
    (found_after first (before ++ t ∷ []) others (lesser best (difference_at first n t)) (n + 1) (omega (arith, e, length-append before (t ∷ []))) next)

pub all_found : (first : Entries) (others : List Entries) → ComparesTo first others (least_difference first others)
all_found first others = found_after first [] others None 0 refl tt

-- one table more
after_more : (first : Entries) (best : Option Difference) (n : ℕ) (others : List Entries) (t : Entries)
    → least_after first best n (others ++ t ∷ []) ≡ lesser (least_after first best n others) (difference_at first (n + length others) t)
after_more first best n [] t = ap (λ (k : ℕ). lesser best (difference_at first k t)) (omega arith)
after_more first best n (u ∷ others) t =
    after_more first (lesser best (difference_at first n u)) (n + 1) others t
    ∙ ap (λ (k : ℕ). lesser (least_after first (lesser best (difference_at first n u)) (n + 1) others) (difference_at first k t)) (omega arith)

pub found_more : (first : Entries) (others : List Entries) (t : Entries) → least_difference first (others ++ t ∷ []) ≡ lesser (least_difference first others) (difference_at first (length others) t)
found_more first others t = after_more first None 0 others t ∙ ap (λ (k : ℕ). lesser (least_difference first others) (difference_at first k t)) (omega arith)
