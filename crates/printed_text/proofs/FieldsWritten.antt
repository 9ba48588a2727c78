-- What is written of a field is read again.
use Rattle.std.proofs.Common.{arith, ◌≡◌, ℕ, List, Bool, true, false, cond, Option, Some, None, Result, Ok, decimal, codes, refl, sym, ap, subst, ◌∙◌}
use Rattle.std.specs.Prelude.{bytes_eq}
use Rattle.std.specs.Str.Parse.{AllDigits}
use Rattle.std.proofs.lemmas.Fmt.{decimal_is_IsNumeral}
use Rattle.std.proofs.lemmas.Str.Parse.{digit_from_value}
use Rattle.octet_fields.specs.Field.{◌>>=◌}
use Rattle.table_model.specs.Address.{Address, Prefix, IsAddress, IsPrefix}
use Rattle.table_model.specs.declared.family.Family.{Family}
use Rattle.table_model.specs.declared.family.Family.TheVariants.{V4, V6}
use Rattle.fib_addr.specs.Groups.{groups_in}
use Rattle.fib_addr.specs.Text.{address_in, address_text, prefix_text}
use Rattle.fib_addr.proofs.Texts.{bytes_eq_is, bytes_eq_refl}
use Rattle.fib_addr.proofs.TextLaws.{written_is_read}
use Rattle.fib_addr.proofs.PrefixLaws.{prefix_written}
use Rattle.printed_text.specs.Rows.{Count, Records, Skipped, Events, Routes, Entries, Nodes, Leaves, Treated, IsHop, IsNumber, IsOrigin, count_name, family_name, hop_text, origin_text}
use Rattle.printed_text.specs.Reading.{bad_hop, bad_prefix, bad_number, or_why, address_field, prefix_field, number_field, hop_field, origin_field, count_field, family_field}
use Rattle.fib_addr.proofs.Numbers.{number_read}

pub address_again : (a : Address) → IsAddress a → address_field (address_text a) ≡ Ok a
address_again a h = ap (or_why bad_hop) (written_is_read a h)

pub prefix_again : (p : Prefix) → IsPrefix p → prefix_field (prefix_text p) ≡ Ok p
prefix_again p h = ap (or_why bad_prefix) (prefix_written p h)

pub number_again : (n : ℕ) → IsNumber n → number_field (decimal n) ≡ Ok n
number_again n h = ap (or_why bad_number) (number_read _ n h (omega arith))

-- a word that is no address stands for no hop alone
pub hop_again : (word : List ℕ) (hop : Option Address) → address_in word ≡ None → IsHop hop → hop_field word (hop_text word hop) ≡ Ok hop
unfolding hop_field
hop_again word None none h = ap (λ (t : Bool). cond t (Ok None) (address_field word >>= λ a. Ok (Some a))) (bytes_eq_refl word)
hop_again word (Some a) none h = by_test (bytes_eq (address_text a) word) refl
  where
    by_test : (t : Bool) → bytes_eq (address_text a) word ≡ t → cond t (Ok None) (address_field (address_text a) >>= λ a. Ok (Some a)) ≡ Ok (Some a)
    by_test true e =
        let same : address_text a ≡ word = bytes_eq_is (address_text a) word e in
        let read : address_in word ≡ Some a = ap address_in (sym same) ∙ written_is_read a h in
        absurd cc
    by_test false e = ap (λ (r : Result Address ℕ). r >>= λ b. Ok (Some b)) (address_again a h)

no_address_none : address_in (codes "none") ≡ None
unfolding groups_in
no_address_none = refl

no_address_drop : address_in (codes "drop") ≡ None
unfolding groups_in
no_address_drop = refl

pub none_again : (hop : Option Address) → IsHop hop → hop_field (codes "none") (hop_text (codes "none") hop) ≡ Ok hop
none_again hop h = hop_again (codes "none") hop no_address_none h

pub drop_again : (hop : Option Address) → IsHop hop → hop_field (codes "drop") (hop_text (codes "drop") hop) ≡ Ok hop
drop_again hop h = hop_again (codes "drop") hop no_address_drop h

pub origin_again : (origin : Option ℕ) → IsOrigin origin → origin_field (origin_text origin) ≡ Ok origin
unfolding origin_field
origin_again None h = refl
origin_again (Some n) h = by_test (bytes_eq (decimal n) (codes "none")) refl
  where
    by_test : (t : Bool) → bytes_eq (decimal n) (codes "none") ≡ t → cond t (Ok None) (number_field (decimal n) >>= λ n. Ok (Some n)) ≡ Ok (Some n)
    by_test true e = absurd (omega (arith, digit_from_value 110 (subst (AllDigits 10) (bytes_eq_is (decimal n) (codes "none") e) (decimal_is_IsNumeral n h).0.1).0))
    by_test false e = ap (λ (r : Result ℕ ℕ). r >>= λ m. Ok (Some m)) (number_again n h)

pub count_again : (count : Count) → count_field (count_name count) ≡ Ok count
unfolding count_field
count_again Records = refl
count_again Skipped = refl
count_again Events = refl
count_again Routes = refl
count_again Entries = refl
count_again Nodes = refl
count_again Leaves = refl
count_again Treated = refl

pub family_again : (f : Family) → family_field (family_name f) ≡ Ok f
unfolding family_field
family_again V4 = refl
family_again V6 = refl
