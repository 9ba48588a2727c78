-- Decimal numbers of 64 bits.
use Rattle.std.proofs.Common.{◌≡◌, ℕ, zero, suc, ◌+◌, ◌*◌, ◌^◌, ◌<◌, ◌≤◌, List, [], ◌∷◌, ◌++◌, Bool, true, false, cond, Option, Some, None, length, take, drop, get_or, decimal, refl, sym, ap, ◌∙◌, arith, subst, add-one}
use Rattle.std.specs.Prelude.{◌&&◌, ◌==◌, nat_lt, nat_le, bytes_eq}
use Rattle.std.specs.Bool.{then_some}
use Rattle.std.specs.Char.{digit_value}
use Rattle.std.specs.Int.{IsInRange}
use Rattle.std.specs.Str.Parse.{AllDigits, digits_value}
use Rattle.std.proofs.Math.Seq.{take-length, take-suc}
use Rattle.std.proofs.lemmas.Bool.{and_from, ne_eqb, lt-ltb, ltb-true, leb-true, leb-false}
use Rattle.std.proofs.lemmas.Fmt.{decimal_is_IsNumeral, decimal_nonempty, decimal_digit, first_decimal, decimal-digits_value}
use Rattle.std.proofs.lemmas.Int.Digits.{digits_push, digits_value_push, digits_value_more}
use Rattle.std.proofs.lemmas.Str.{digit_value_digit}
use Rattle.std.proofs.lemmas.Str.Parse.{IsNumeralModel, numerals_by_value, tells_digits, digit_at, digits_value-take-le}
use Rattle.fib_addr.specs.Text.{number_below}
use Rattle.fib_addr.proofs.Texts.{bytes_eq_is, bytes_eq_refl}

-- a text is read as the number that it is the decimal text of
pub number_is : (bound : ℕ) (text : List ℕ) (n : ℕ) → number_below bound text ≡ Some n → (text ≡ decimal n) × (n < bound)
number_is bound text n e = by_test (bytes_eq (decimal (digits_value 10 text)) text) (nat_lt (digits_value 10 text) bound) refl refl e
  where
    by_test : (s t : Bool) → bytes_eq (decimal (digits_value 10 text)) text ≡ s → nat_lt (digits_value 10 text) bound ≡ t → cond (s && t) (Some (digits_value 10 text)) None ≡ Some n → (text ≡ decimal n) × (n < bound)
    by_test true true s t f = let v : digits_value 10 text ≡ n = cc in (sym (bytes_eq_is _ _ s) ∙ ap decimal v, subst (λ (x : ℕ). x < bound) v (ltb-true _ _ t))
    by_test true false s t f = absurd cc
    by_test false b s t f = absurd cc

pub number_read : (bound n : ℕ) → n < bound → bound ≤ 2 ^ 64 → number_below bound (decimal n) ≡ Some n
number_read bound n h most =
    let v : digits_value 10 (decimal n) ≡ n = (decimal_is_IsNumeral n (omega arith)).1 in
    ap (λ x. cond (bytes_eq (decimal x) (decimal n) && nat_lt x bound) (Some x) None) v
    ∙ ap (λ (t : Bool). cond t (Some n) None) (and_from _ _ (bytes_eq_refl (decimal n)) (lt-ltb n bound h))

pub no_number : (bound : ℕ) (text : List ℕ) → ((n : ℕ) → text ≡ decimal n → n < bound → ⊥) → None ≡ number_below bound text
no_number bound text none = by_read (number_below bound text) refl
  where
    by_read : (o : Option ℕ) → number_below bound text ≡ o → None ≡ o
    by_read None e = refl
    by_read (Some n) e = let h = number_is bound text n e in absurd (none n h.0 h.1)

-- ---- the ways of the reader

own : IsNumeralModel (AllDigits 10) (digits_value 10)
own = numerals_by_value (AllDigits 10) tells_digits

pub no_text : (bound : ℕ) (text : List ℕ) → bound ≤ 2 ^ 64 → length text ≡ 0 → None ≡ number_below bound text
no_text bound text most e = no_number bound text (λ n same low. omega (arith, decimal_nonempty n (omega arith), ap length same))

-- a number's text has a zero in front only where it is 0
front_of : (n : ℕ) → n < 2 ^ 64 → get_or (decimal n) 0 0 ≡ 48 → decimal n ≡ 48 ∷ []
front_of zero h e = decimal_digit 0 (omega arith)
front_of (suc n) h e = absurd (omega (arith, first_decimal (suc n) (omega arith) h))

zero_and : (most : ℕ) (rest : List ℕ) → most < 2 ^ 64 → then_some (length rest == 0) 0 ≡ number_below (most + 1) (48 ∷ rest)
zero_and most [] m = sym (ap (number_below (most + 1)) (sym (decimal_digit 0 (omega arith))) ∙ number_read (most + 1) 0 (omega arith) (omega arith))
zero_and most (c ∷ rest) m =
    ap (λ (t : Bool). then_some t 0) (ne_eqb (length (c ∷ rest)) 0 (λ e. absurd (omega arith)))
    ∙ no_number (most + 1) (48 ∷ c ∷ rest) (λ n same low.
    let one : decimal n ≡ 48 ∷ [] = front_of n (omega arith) (sym (ap (λ ds. get_or ds 0 0) same)) in
    omega (arith, ap length same, ap length one))

pub zero_in_front : (most : ℕ) (text : List ℕ) → most < 2 ^ 64 → 1 ≤ length text → get_or text 0 0 ≡ 48 → then_some (length (drop 1 text) == 0) 0 ≡ number_below (most + 1) text
zero_in_front most [] m some z = absurd (omega arith)
zero_in_front most (c ∷ rest) m some z = zero_and most rest m ∙ ap (λ (x : ℕ). number_below (most + 1) (x ∷ rest)) (sym z)

-- ---- digits

-- the digits up to a place are read as the number
pub record IsReadTo (text : List ℕ) (i n : ℕ) : Type 0 where
  pub value : n ≡ digits_value 10 (take i text)
  pub digits : AllDigits 10 (take i text)

pub one_digit_more : (text : List ℕ) (i c n m : ℕ) → i < length text → c ≡ get_or text i 0 → (digit_value c < 10) × (m ≡ n * 10 + digit_value c) → IsReadTo text i n → IsReadTo text (i + 1) m
one_digit_more text i c n m here is step so_far =
    let longer : take (i + 1) text ≡ take i text ++ (c ∷ []) = ap (λ (j : ℕ). take j text) (add-one i) ∙ (take-suc text i 0 here ∙ ap (λ x. take i text ++ (x ∷ [])) (sym is)) in
    record {
      value = step.1 ∙ (ap (λ (k : ℕ). k * 10 + digit_value c) so_far.value ∙ sym (ap (digits_value 10) longer ∙ digits_value_push 10 (take i text) c));
      digits = subst (AllDigits 10) (sym longer) (digits_push 10 (take i text) c so_far.digits step.0);
    }

pub no_digit_more : (text : List ℕ) (i c n : ℕ) → i < length text → c ≡ get_or text i 0 → (digit_value c < 10 → 2 ^ 64 ≤ n * 10 + digit_value c) → IsReadTo text i n → AllDigits 10 text → 2 ^ 64 ≤ digits_value 10 text
no_digit_more text i c n here is none so_far all =
    let digit : IsInRange 48 57 c = subst (IsInRange 48 57) (sym is) (digit_at text i all here) in
    let value : digit_value c + 48 ≡ c = digit_value_digit c digit in
    let over : 2 ^ 64 ≤ n * 10 + digit_value c = none (omega (arith, digit)) in
    let more : digits_value 10 (take (i + 1) text) ≡ n * 10 + digit_value c = digits_value_more 10 text i here ∙ (ap (λ (j : ℕ). j * 10 + digit_value (get_or text i 0)) (sym so_far.value) ∙ ap (λ (x : ℕ). n * 10 + digit_value x) (sym is)) in
    omega (arith, digits_value-take-le 10 text (i + 1) (omega arith))

pub all_read : (text : List ℕ) (v : ℕ) → IsReadTo text (length text) v → AllDigits 10 text × (v ≡ digits_value 10 text)
all_read text v read = (subst (AllDigits 10) (take-length text) read.digits, read.value ∙ ap (digits_value 10) (take-length text))

-- what isn't digits of a number of 64 bits is no number
pub not_digits : (most : ℕ) (text : List ℕ) → most < 2 ^ 64 → (AllDigits 10 text → 2 ^ 64 ≤ digits_value 10 text) → None ≡ number_below (most + 1) text
not_digits most text m none =
    no_number (most + 1) text (λ n same low.
    let d = decimal_is_IsNumeral n (omega arith) in
    let all : AllDigits 10 text = subst (AllDigits 10) (sym same) d.0.1 in
    let whole : digits_value 10 text ≡ n = ap (digits_value 10) same ∙ d.1 in
    omega (arith, none all))

value_back : (n : ℕ) → n < 2 ^ 64 → digits_value 10 (decimal n) ≡ n
value_back n h = (decimal_is_IsNumeral n (omega arith)).1

-- digits without a zero in front are the number's text
pub number_all : (most v : ℕ) (text : List ℕ) → most < 2 ^ 64 → v < 2 ^ 64 → 0 < length text → (get_or text 0 0 ≡ 48 → ⊥) → AllDigits 10 text × (v ≡ digits_value 10 text) → then_some (nat_le v most) v ≡ number_below (most + 1) text
number_all most v text m l some front read = by_test (nat_le v most) refl
  where
    same : text ≡ decimal v
    same = sym (decimal-digits_value own text read.0 some (λ z. absurd (front z)) (subst (λ (x : ℕ). x < 2 ^ 64) read.1 l)) ∙ ap decimal (sym read.1)

    by_test : (t : Bool) → nat_le v most ≡ t → then_some t v ≡ number_below (most + 1) text
    by_test true t = let h : v ≤ most = leb-true v most t in sym (ap (number_below (most + 1)) same ∙ number_read (most + 1) v (omega arith) (omega arith))
    by_test false t =
        let h : most < v = leb-false v most t in
        no_number (most + 1) text (λ n k low. let value : v ≡ n = sym (value_back v l) ∙ (ap (digits_value 10) (sym same ∙ k) ∙ value_back n (omega arith)) in absurd (omega arith))
