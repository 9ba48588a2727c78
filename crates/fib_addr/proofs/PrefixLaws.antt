-- What is written of a prefix is read as it, and what is read is a prefix.
use Rattle.std.proofs.Common.{◌≡◌, ℕ, suc, ◌+◌, ◌-◌, ◌<◌, ◌≤◌, List, [], ◌∷◌, ◌++◌, Bool, true, false, cond, not, Some, None, length, take, drop, replicate, codes, decimal, refl, sym, ap, ◌∙◌, arith, subst, append_assoc, length-append}
use Rattle.std.specs.Prelude.{◌||◌}
use Rattle.std.specs.Option.{option_and_then}
use Rattle.std.specs.List.{list_any, position_or_len, before_first, after_first}
use Rattle.std.specs.Net.Text.{dotted_text}
use Rattle.std.specs.Str.Parse.{AllDigits}
use Rattle.std.proofs.lemmas.Bool.{cond-true, ne_eqb, eqb-true}
use Rattle.std.proofs.lemmas.Fmt.{decimal_is_IsNumeral}
use Rattle.std.proofs.lemmas.Str.Parse.{digit_from_value}
use Rattle.std.proofs.lemmas.List.{length-take, length-drop, length-replicate, take-append-drop}
use Rattle.std.proofs.lemmas.List.Folds.{list_any-append}
use Rattle.std.proofs.Math.Seq.{drop-append-add, take-append_seam}
use Rattle.table_model.specs.Width.{width}
use Rattle.table_model.specs.Address.{Address, Prefix, IsAddress, IsPrefix, first_bits}
use Rattle.table_model.specs.declared.family.Family.{Family}
use Rattle.table_model.specs.declared.family.Family.TheVariants.{V4, V6}
use Rattle.fib_addr.specs.Groups.{groups_of}
use Rattle.fib_addr.specs.Text.{bits_text, address_in, address_text, first_address, number_below, prefix_from, prefix_in, prefix_text, is_slash}
use Rattle.fib_addr.proofs.HopLemmas.{none_passes}
use Rattle.fib_addr.proofs.Texts.{dots}
use Rattle.fib_addr.proofs.Numbers.{number_is, number_read}
use Rattle.fib_addr.proofs.TextLaws.{octet_lt, written_is_read, read_is_address, read_is_written}
use Rattle.fib_addr.proofs.GroupTexts.{then_some_is}
use Rattle.fib_addr.proofs.GroupLaws.{none_of_both, none_in_text}
use Rattle.fib_addr.proofs.PrefixTexts.{is_set, of_parts, zeros_are, none_in_zeros}

-- ---- no slash in an address

digits_no_slash : (cs : List ℕ) → AllDigits 10 cs → list_any is_slash cs ≡ false
digits_no_slash [] h = refl
digits_no_slash (c ∷ cs) h = let d = digit_from_value c h.0 in ap (λ t. t || list_any is_slash cs) (ne_eqb c 47 (omega (arith, d.0))) ∙ digits_no_slash cs h.1

none_in_decimal : (n : ℕ) → n < 256 → list_any is_slash (decimal n) ≡ false
none_in_decimal n h = digits_no_slash (decimal n) (decimal_is_IsNumeral n (omega arith)).0.1

none_in_dotted : (a b c d : ℕ) → a < 256 → b < 256 → c < 256 → d < 256 → list_any is_slash (dotted_text a b c d) ≡ false
none_in_dotted a b c d ha hb hc hd =
    ap (list_any is_slash) (dots (decimal a) (decimal b) (decimal c) (decimal d))
    ∙ after a (46 ∷ (decimal b ++ (46 ∷ (decimal c ++ (46 ∷ decimal d))))) ha
    (after b (46 ∷ (decimal c ++ (46 ∷ decimal d))) hb (after c (46 ∷ decimal d) hc (none_in_decimal d hd)))
  where
    after : (n : ℕ) (xs : List ℕ) → n < 256 → list_any is_slash xs ≡ false → list_any is_slash (decimal n ++ xs) ≡ false
    after n xs h e = none_of_both 47 (decimal n) xs (none_in_decimal n h) e

no_slash_written : (f : Family) (bits : List Bool) → list_any is_slash (bits_text f bits) ≡ false
no_slash_written V4 bits = none_in_dotted _ _ _ _ (octet_lt bits 0) (octet_lt bits 1) (octet_lt bits 2) (octet_lt bits 3)
no_slash_written V6 bits = none_in_text 47 (groups_of bits) (omega arith)

-- ---- the parts of a text with a slash

parts_of : (front back : List ℕ) → list_any is_slash front ≡ false → prefix_in (front ++ 47 ∷ back) ≡ of_parts front back
parts_of front back none =
    let there : list_any is_slash (front ++ 47 ∷ back) ≡ true = list_any-append is_slash front (47 ∷ back) ∙ ap (λ t. t || true) none in
    let place : position_or_len is_slash (front ++ 47 ∷ back) ≡ length front = none_passes is_slash front (47 ∷ back) none ∙ omega arith in
    let after : drop (length front + 1) (front ++ 47 ∷ back) ≡ back = drop-append-add front (47 ∷ back) 1 in
    let before : take (length front) (front ++ 47 ∷ back) ≡ front = take-append_seam front (47 ∷ back) in
    cond-true _ _ _ there
    ∙ (ap (λ (n : ℕ). of_parts (take n (front ++ 47 ∷ back)) (drop (n + 1) (front ++ 47 ∷ back))) place
    ∙ (ap (λ x. of_parts x (drop (length front + 1) (front ++ 47 ∷ back))) before ∙ ap (of_parts front) after))

-- ---- written and read

first_is_address : (p : Prefix) → IsPrefix p → IsAddress (first_address p)
first_is_address p h =
    let n = width p.family - length p.bits in
    length-append p.bits (replicate n false) ∙ omega (arith, length-replicate {A = Bool} n false)

pub prefix_written : (p : Prefix) → IsPrefix p → prefix_in (prefix_text p) ≡ Some p
prefix_written p h =
    let a = first_address p in
    let n = width p.family - length p.bits in
    let len = length p.bits in
    let front : address_in (address_text a) ≡ Some a = written_is_read a (first_is_address p h) in
    let most : width p.family ≤ 128 = width_most p.family in
    let back : number_below (width p.family + 1) (decimal len) ≡ Some len = number_read (width p.family + 1) len (omega arith) (omega arith) in
    let past : list_any is_set (drop len (p.bits ++ replicate n false)) ≡ false = ap (list_any is_set) (drop-append-add' p.bits (replicate n false)) ∙ none_in_zeros n in
    ap prefix_in (append_assoc (address_text a) (codes "/") (decimal len))
    ∙ (parts_of (address_text a) (decimal len) (no_slash_written a.family a.bits)
    ∙ (ap (option_and_then (λ x. option_and_then (prefix_from x) (number_below (width x.family + 1) (decimal len)))) front
    ∙ (ap (option_and_then (prefix_from a)) back
    ∙ (ap (λ (t : Bool). cond t None (Some (first_bits len a))) past
    ∙ ap (λ x. let q : Prefix = record { family = p.family; bits = x } in Some q) (take-append_seam p.bits (replicate n false))))))
  where
    width_most : (f : Family) → width f ≤ 128
    width_most V4 = omega arith
    width_most V6 = omega arith

    drop-append-add' : (xs ys : List Bool) → drop (length xs) (xs ++ ys) ≡ ys
    drop-append-add' xs ys = let e : length xs ≡ length xs + 0 = omega arith in ap (λ (k : ℕ). drop k (xs ++ ys)) e ∙ drop-append-add xs ys 0

split_at_slash : (text : List ℕ) → list_any is_slash text ≡ true → text ≡ before_first is_slash text ++ 47 ∷ after_first is_slash text
split_at_slash [] t = absurd cc
split_at_slash (x ∷ text) t = by_test (is_slash x) refl t (split_at_slash text)
  where
    place : ℕ
    place = position_or_len is_slash text

    by_test : (b : Bool) → is_slash x ≡ b → (b || list_any is_slash text) ≡ true → (list_any is_slash text ≡ true → text ≡ take place text ++ 47 ∷ drop (place + 1) text)
        → x ∷ text ≡ take (cond (not b) (1 + place) 0) (x ∷ text) ++ 47 ∷ drop (cond (not b) (1 + place) 0 + 1) (x ∷ text)
    by_test true e f later = ap (λ y. y ∷ text) (eqb-true x 47 e)
    by_test false e f later =
        let one : suc place ≡ 1 + place = omega arith in
        let two : suc (place + 1) ≡ (1 + place) + 1 = omega arith in
        ap (λ xs. x ∷ xs) (later f) ∙ (ap (λ (n : ℕ). take n (x ∷ text) ++ 47 ∷ drop (suc (place + 1)) (x ∷ text)) one ∙ ap (λ (n : ℕ). take (1 + place) (x ∷ text) ++ 47 ∷ drop n (x ∷ text)) two)

-- a text that is read as a prefix: an address, a slash and the length
record IsPrefixText (text : List ℕ) (p : Prefix) : Type 0 where
  a : Address
  len : ℕ
  front : List ℕ
  back : List ℕ
  text_is : text ≡ front ++ 47 ∷ back
  address : address_in front ≡ Some a
  length_is : (back ≡ decimal len) × (len < width a.family + 1)
  rest : list_any is_set (drop len a.bits) ≡ false
  prefix : p ≡ first_bits len a

prefix_of_is : (a : Address) (len : ℕ) (p : Prefix) → prefix_from a len ≡ Some p → (list_any is_set (drop len a.bits) ≡ false) × (p ≡ first_bits len a)
prefix_of_is a len p e = by_test (list_any is_set (drop len a.bits)) refl e
  where
    by_test : (t : Bool) → list_any is_set (drop len a.bits) ≡ t → cond t None (Some (first_bits len a)) ≡ Some p → (list_any is_set (drop len a.bits) ≡ false) × (p ≡ first_bits len a)
    by_test true t f = absurd cc
    by_test false t f = let same : first_bits len a ≡ p = cc in (t, sym same)

prefix_is_text : (text : List ℕ) (p : Prefix) → prefix_in text ≡ Some p → IsPrefixText text p
prefix_is_text text p e = by_slash (list_any is_slash text) refl e
  where
    by_slash : (t : Bool) → list_any is_slash text ≡ t → cond t (of_parts (before_first is_slash text) (after_first is_slash text)) None ≡ Some p → IsPrefixText text p
    by_slash false t f = absurd cc
    by_slash true t f =
        let x = then_some_is (λ (a : Address). option_and_then (prefix_from a) (number_below (width a.family + 1) (after_first is_slash text))) (address_in (before_first is_slash text)) p f in
        let y = then_some_is (prefix_from x.0) (number_below (width x.0.family + 1) (after_first is_slash text)) p x.2 in
        let z = prefix_of_is x.0 y.0 p y.2 in
        record {
          a = x.0;
          len = y.0;
          front = before_first is_slash text;
          back = after_first is_slash text;
          text_is = split_at_slash text t;
          address = x.1;
          length_is = number_is (width x.0.family + 1) (after_first is_slash text) y.0 y.1;
          rest = z.0;
          prefix = z.1;
        }

pub read_is_prefix : (text : List ℕ) (p : Prefix) → prefix_in text ≡ Some p → IsPrefix p
read_is_prefix text p e =
    let r = prefix_is_text text p e in
    let long : length r.a.bits ≡ width r.a.family = read_is_address r.front r.a r.address in
    subst IsPrefix (sym r.prefix) (let short : length (take r.len r.a.bits) ≤ width r.a.family = omega (arith, length-take r.len r.a.bits) in short)

-- what is read as an IPv4 prefix was written of it
pub prefix_is_written : (text : List ℕ) (p : Prefix) → prefix_in text ≡ Some p → p.family ≡ V4 → text ≡ prefix_text p
prefix_is_written text p e v =
    let r = prefix_is_text text p e in
    let a = r.a in
    let fam : a.family ≡ V4 = sym (ap (λ (q : Prefix). q.family) r.prefix) ∙ v in
    let long : length a.bits ≡ width a.family = read_is_address r.front a r.address in
    let fits : r.len < width a.family + 1 = r.length_is.1 in
    let rest = drop r.len a.bits in
    let left : length (take r.len a.bits) ≡ r.len = omega (arith, length-take r.len a.bits) in
    let zeros : rest ≡ replicate (length rest) false = zeros_are rest r.rest in
    let count : length rest ≡ width a.family - length (take r.len a.bits) = omega (arith, length-drop r.len a.bits) in
    let whole : a.bits ≡ take r.len a.bits ++ replicate (width a.family - length (take r.len a.bits)) false =
    sym (take-append-drop r.len a.bits) ∙ ap (λ x. take r.len a.bits ++ x) (zeros ∙ ap (λ (n : ℕ). replicate n false) count) in
    let first : a ≡ first_address p = ap (λ x. let b : Address = record { family = a.family; bits = x } in b) whole ∙ ap first_address (sym r.prefix) in
    let front : r.front ≡ address_text (first_address p) = read_is_written r.front a r.address fam ∙ ap address_text first in
    let back : r.back ≡ decimal (length p.bits) = r.length_is.0 ∙ ap decimal (sym left ∙ ap (λ (q : Prefix). length q.bits) (sym r.prefix)) in
    r.text_is
    ∙ (ap (λ x. x ++ 47 ∷ r.back) front ∙ (ap (λ x. address_text (first_address p) ++ 47 ∷ x) back ∙ sym (append_assoc (address_text (first_address p)) (codes "/") (decimal (length p.bits)))))
