-- How many entries are of a family, and rows of prefixes.
use Rattle.std.proofs.Common.{◌≡◌, ℕ, suc, ◌+◌, ◌<◌, ◌≤◌, List, [], ◌∷◌, Bool, true, false, cond, Some, None, length, map, take, get_or, refl, sym, ap, ◌∙◌, arith, length-append}
use Rattle.std.specs.List.{AllByRecursion}
use Rattle.std.proofs.lemmas.Bool.{cond-true, cond-false}
use Rattle.std.proofs.lemmas.List.{length-map, length-take}
use denote.Enum.Bare.{sameb}
use Rattle.table_model.specs.Address.{same_family}
use Rattle.table_model.specs.contracts.family.Family.{the_type}
use Rattle.table_model.specs.declared.family.Family.{Family}
use Rattle.table_model.specs.declared.family.Family.TheVariants.{V4, V6}
use Rattle.table_model.specs.Entries.{Entries, of_family}
use Rattle.cert_model.specs.Verdict.{No, RowFits}
use Rattle.fib_addr.specs.declared.entry.Entry.{Entry}
use Rattle.fib_addr.specs.Views.{entry_as}
use Rattle.cert_model.specs.declared.row.Row.{Row}
use Rattle.cert_model.specs.declared.row.Row.TheVariants as row
use Rattle.cert_model.specs.Views.{row_as}
use Rattle.cert_check.proofs.Deals.{family_next}
use Rattle.cert_check.proofs.Holding.{prefix_short}

pub back_test : (f g : Family) → sameb the_type f g ≡ same_family g f
back_test V4 V4 = refl
back_test V4 V6 = refl
back_test V6 V4 = refl
back_test V6 V6 = refl

pub counted_this : (f : Family) (entries : List Entry) (i : ℕ) (e : Entry) (n m : ℕ) → i < length entries → e ≡ get_or entries i e → same_family f e.prefix.family ≡ true → n ≡ length (of_family f (map entry_as (take i entries))) → m ≡ n + 1
    → m ≡ length (of_family f (map entry_as (take (i + 1) entries)))
counted_this f entries i e n m lt is one so_far step =
    let L = of_family f (map entry_as (take i entries)) in
    let more : length (of_family f (entry_as e ∷ [])) ≡ 1 = ap length (cond-true (same_family f e.prefix.family) _ _ one) in
    step ∙ sym (ap length (family_next f entries i e lt is) ∙ (length-append L (of_family f (entry_as e ∷ [])) ∙ omega (arith, more, so_far)))

pub counted_other : (f : Family) (entries : List Entry) (i : ℕ) (e : Entry) (n m : ℕ) → i < length entries → e ≡ get_or entries i e → same_family f e.prefix.family ≡ false → n ≡ length (of_family f (map entry_as (take i entries))) → m ≡ n
    → m ≡ length (of_family f (map entry_as (take (i + 1) entries)))
counted_other f entries i e n m lt is other so_far step =
    let L = of_family f (map entry_as (take i entries)) in
    let none : length (of_family f (entry_as e ∷ [])) ≡ 0 = ap length (cond-false (same_family f e.prefix.family) _ _ other) in
    step ∙ sym (ap length (family_next f entries i e lt is) ∙ (length-append L (of_family f (entry_as e ∷ [])) ∙ omega (arith, none, so_far)))

few_of : (f : Family) (L : Entries) → length (of_family f L) ≤ length L
few_of f [] = omega arith
few_of f (e ∷ L) = by_test (same_family f e.0.family) (few_of f L)
  where
    by_test : (b : Bool) → length (of_family f L) ≤ length L → length (cond b (record { prefix = e.0.bits; hop = e.1 } ∷ of_family f L) (of_family f L)) ≤ suc (length L)
    by_test true ih = omega arith
    by_test false ih = omega arith

pub count_most : (f : Family) (entries : List Entry) (i n : ℕ) → n ≡ length (of_family f (map entry_as (take i entries))) → n ≤ length entries
count_most f entries i n e =
    omega (arith, e, few_of f (map entry_as (take i entries)), length-map (take i entries) entry_as, length-take i entries)

pub rows_fit : (rows : List Row) → AllByRecursion RowFits (map row_as rows)
rows_fit [] = tt
rows_fit (row.Leaf p h ∷ rows) = (prefix_short p, rows_fit rows)
rows_fit (row.Join p k ∷ rows) = (prefix_short p, rows_fit rows)
rows_fit (row.Bound f n ∷ rows) = (tt, rows_fit rows)

pub some_not_none : (x : No) → Some x ≡ None → ⊥
some_not_none x e = cc
