-- No field has a comma or a line end in it.
use Rattle.std.proofs.Common.{◌≡◌, ℕ, ◌^◌, ◌<◌, List, [], ◌∷◌, ◌++◌, false, Option, Some, None, decimal, codes, length, refl, ap, ◌∙◌, arith}
use Rattle.std.specs.Prelude.{◌||◌}
use Rattle.std.specs.List.{AllByRecursion, list_any}
use Rattle.std.specs.Net.Text.{dotted_text}
use Rattle.std.specs.Str.Parse.{AllDigits}
use Rattle.std.proofs.lemmas.Bool.{ne_eqb}
use Rattle.std.proofs.lemmas.Fmt.{decimal_is_IsNumeral}
use Rattle.std.proofs.lemmas.Str.Parse.{digit_from_value}
use Rattle.table_model.specs.Width.{width}
use Rattle.table_model.specs.Address.{Address, Prefix, IsPrefix}
use Rattle.table_model.specs.declared.family.Family.{Family}
use Rattle.table_model.specs.declared.family.Family.TheVariants.{V4, V6}
use Rattle.fib_addr.specs.Groups.{groups_of}
use Rattle.fib_addr.specs.Text.{bits_text, address_text, first_address, prefix_text}
use Rattle.fib_addr.proofs.TextLaws.{octet_lt}
use Rattle.fib_addr.proofs.GroupLaws.{is_mark, none_of_both, none_in_text}
use Rattle.printed_text.specs.Rows.{Count, Records, Skipped, Events, Routes, Entries, Nodes, Leaves, Treated, PrintedRow, route_row, invalid_row, add_row, replace_row, remove_row, moves_row, answer_row, visits_row, table_row, least_row, cert_leaf_row, cert_join_row, cert_bound_row, report_row, IsNumber, IsOrigin, IsRow, fields_of, count_name, family_name, hop_text, origin_text}

-- the mark doesn't stand in the text
abbrev pub Lacks : ℕ → List ℕ → Type 0
Lacks mark text = list_any (is_mark mark) text ≡ false

digits_lack : (mark : ℕ) (cs : List ℕ) → mark < 48 → AllDigits 10 cs → Lacks mark cs
digits_lack mark [] low h = refl
digits_lack mark (c ∷ cs) low h = let d = digit_from_value c h.0 in ap (λ t. t || list_any (is_mark mark) cs) (ne_eqb c mark (λ e. absurd (omega (arith, d.0)))) ∙ digits_lack mark cs low h.1

decimal_lacks : (mark n : ℕ) → mark < 48 → n < 2 ^ 64 → Lacks mark (decimal n)
decimal_lacks mark n low h = digits_lack mark (decimal n) low (decimal_is_IsNumeral n h).0.1

word_lacks : (mark b : ℕ) → mark < b → Lacks mark (b ∷ [])
word_lacks mark b low = ap (λ t. t || false) (ne_eqb b mark (λ e. absurd (omega arith)))

dotted_lacks : (mark a b c d : ℕ) → mark < 46 → a < 256 → b < 256 → c < 256 → d < 256 → Lacks mark (dotted_text a b c d)
dotted_lacks mark a b c d low ha hb hc hd =
    after _ d (after _ c (after _ b (decimal_lacks mark a (omega arith) (omega arith)) hb) hc) hd
  where
    after : (xs : List ℕ) (n : ℕ) → Lacks mark xs → n < 256 → Lacks mark ((xs ++ codes ".") ++ decimal n)
    after xs n e h = none_of_both mark (xs ++ codes ".") (decimal n) (none_of_both mark xs (codes ".") e (word_lacks mark 46 low)) (decimal_lacks mark n (omega arith) (omega arith))

address_lacks : (mark : ℕ) (a : Address) → mark < 46 → Lacks mark (address_text a)
address_lacks mark a low = by_family a.family
  where
    by_family : (f : Family) → Lacks mark (bits_text f a.bits)
    by_family V4 = dotted_lacks mark _ _ _ _ low (octet_lt a.bits 0) (octet_lt a.bits 1) (octet_lt a.bits 2) (octet_lt a.bits 3)
    by_family V6 = none_in_text mark (groups_of a.bits) (omega arith)

most_width : (f : Family) → width f < 256
most_width V4 = omega arith
most_width V6 = omega arith

prefix_lacks : (mark : ℕ) (p : Prefix) → mark < 46 → IsPrefix p → Lacks mark (prefix_text p)
prefix_lacks mark p low h =
    none_of_both mark (address_text (first_address p) ++ codes "/") (decimal (length p.bits))
    (none_of_both mark (address_text (first_address p)) (codes "/") (address_lacks mark (first_address p) low) (word_lacks mark 47 (omega arith)))
    (decimal_lacks mark (length p.bits) (omega arith) (omega (arith, h, most_width p.family)))

-- ---- the fields of a row

-- neither a line feed nor a carriage return nor a comma
abbrev pub IsPlain : List ℕ → Type 0
IsPlain text = Lacks 10 text × Lacks 13 text × Lacks 44 text

plain_number : (n : ℕ) → IsNumber n → IsPlain (decimal n)
plain_number n h = (decimal_lacks 10 n (omega arith) h, decimal_lacks 13 n (omega arith) h, decimal_lacks 44 n (omega arith) h)

plain_address : (a : Address) → IsPlain (address_text a)
plain_address a = (address_lacks 10 a (omega arith), address_lacks 13 a (omega arith), address_lacks 44 a (omega arith))

plain_prefix : (p : Prefix) → IsPrefix p → IsPlain (prefix_text p)
plain_prefix p h = (prefix_lacks 10 p (omega arith) h, prefix_lacks 13 p (omega arith) h, prefix_lacks 44 p (omega arith) h)

plain_hop : (word : List ℕ) (hop : Option Address) → IsPlain word → IsPlain (hop_text word hop)
plain_hop word None h = h
plain_hop word (Some a) h = plain_address a

plain_origin : (origin : Option ℕ) → IsOrigin origin → IsPlain (origin_text origin)
plain_origin None h = (refl, refl, refl)
plain_origin (Some n) h = plain_number n h

plain_count : (count : Count) → IsPlain (count_name count)
plain_count Records = (refl, refl, refl)
plain_count Skipped = (refl, refl, refl)
plain_count Events = (refl, refl, refl)
plain_count Routes = (refl, refl, refl)
plain_count Entries = (refl, refl, refl)
plain_count Nodes = (refl, refl, refl)
plain_count Leaves = (refl, refl, refl)
plain_count Treated = (refl, refl, refl)

plain_family : (f : Family) → IsPlain (family_name f)
plain_family V4 = (refl, refl, refl)
plain_family V6 = (refl, refl, refl)

pub fields_plain : (row : PrintedRow) → IsRow row → AllByRecursion IsPlain (fields_of row)
fields_plain (route_row p a) h = ((refl, refl, refl), (plain_prefix p h.0, (plain_address a, tt)))
fields_plain (invalid_row a v) h = (
  (refl, refl, refl),
  (
    plain_prefix a.prefix h.0,
    (
      plain_address a.peer,
      (
        plain_number a.peer_as h.2,
        (
          plain_origin a.origin h.3,
          (plain_prefix v.prefix h.4, (plain_number v.maxlen h.5, (plain_number v.asn h.6, tt))),
        ),
      ),
    ),
  ),
)
fields_plain (add_row event p hop) h = ((refl, refl, refl), (plain_number event h.0, ((refl, refl, refl), (plain_prefix p h.1, (plain_hop (codes "drop") hop (refl, refl, refl), tt)))))
fields_plain (replace_row event p hop) h = ((refl, refl, refl), (plain_number event h.0, ((refl, refl, refl), (plain_prefix p h.1, (plain_hop (codes "drop") hop (refl, refl, refl), tt)))))
fields_plain (remove_row event p) h = ((refl, refl, refl), (plain_number event h.0, ((refl, refl, refl), (plain_prefix p h.1, tt))))
fields_plain (moves_row event n) h = ((refl, refl, refl), (plain_number event h.0, (plain_number n h.1, tt)))
fields_plain (answer_row a hop) h = ((refl, refl, refl), (plain_address a, (plain_hop (codes "none") hop (refl, refl, refl), tt)))
fields_plain (visits_row a n) h = ((refl, refl, refl), (plain_address a, (plain_number n h.1, tt)))
fields_plain (table_row p hop) h = ((refl, refl, refl), (plain_prefix p h.0, (plain_hop (codes "drop") hop (refl, refl, refl), tt)))
fields_plain (least_row p hop) h = ((refl, refl, refl), (plain_prefix p h.0, (plain_hop (codes "drop") hop (refl, refl, refl), tt)))
fields_plain (cert_leaf_row p hop) h = ((refl, refl, refl), ((refl, refl, refl), (plain_prefix p h.0, (plain_hop (codes "none") hop (refl, refl, refl), tt))))
fields_plain (cert_join_row p k) h = ((refl, refl, refl), ((refl, refl, refl), (plain_prefix p h.0, (plain_number k h.1, tt))))
fields_plain (cert_bound_row f n) h = ((refl, refl, refl), ((refl, refl, refl), (plain_family f, (plain_number n h, tt))))
fields_plain (report_row count n) h = ((refl, refl, refl), (plain_count count, (plain_number n h, tt)))
