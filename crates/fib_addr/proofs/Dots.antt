-- Four numbers with dots between them, read one after another.
use Rattle.std.proofs.Common.{◌≡◌, ℕ, suc, ◌+◌, ◌<◌, List, [], ◌∷◌, ◌++◌, Bool, true, false, cond, not, Some, None, length, take, drop, decimal, refl, sym, ap, ◌∙◌, arith, length-append}
use Rattle.std.specs.Prelude.{◌==◌, nat_lt, position}
use Rattle.std.specs.Int.{w32, from_be_bytes}
use Rattle.std.specs.List.{slice_split, join_with_byte, position_or_len}
use Rattle.std.specs.Net.Grammar.{IsDotted}
use Rattle.std.proofs.Math.Seq.{take-append_seam}
use Rattle.std.proofs.lemmas.Bool.{cond-true, eqb-true, lt-ltb, ltb-true}
use Rattle.std.proofs.lemmas.List.Folds.{list_any_none}
use Rattle.std.proofs.lemmas.List.Splits.{slice_split_at, join_with_byte-slice_split}
use Rattle.table_model.specs.Bits.{bits_of}
use Rattle.table_model.specs.declared.family.Family.TheVariants.{V4}
use Rattle.fib_addr.specs.Text.{ipv4_in, is_dot, number_below}
use Rattle.fib_addr.proofs.HopLemmas.{none_passes}
use Rattle.fib_addr.proofs.Numbers.{number_is, number_read}
use Rattle.fib_addr.proofs.Octets.{dotted_read, not_dotted}
use Rattle.fib_addr.proofs.Texts.{dots, no_dot}

-- ---- the first dot

dot_after : (n : ℕ) (rest : List ℕ) → n < 256 → position is_dot (decimal n ++ 46 ∷ rest) ≡ Some (length (decimal n))
dot_after n rest h =
    let text = decimal n ++ 46 ∷ rest in
    let here : position_or_len is_dot (46 ∷ rest) ≡ 0 = refl in
    let place : position_or_len is_dot text ≡ length (decimal n) = none_passes is_dot (decimal n) (46 ∷ rest) (list_any_none is_dot (decimal n) (no_dot n h)) ∙ omega (arith, here) in
    cond-true _ _ _ (lt-ltb (position_or_len is_dot text) (length text) (omega (arith, place, length-append (decimal n) (46 ∷ rest)))) ∙ ap Some place

place_of : (text : List ℕ) (k : ℕ) → Some k ≡ position is_dot text → (position_or_len is_dot text < length text) × (position_or_len is_dot text ≡ k)
place_of text k e = by_test (nat_lt (position_or_len is_dot text) (length text)) refl e
  where
    by_test : (t : Bool) → nat_lt (position_or_len is_dot text) (length text) ≡ t → Some k ≡ cond t (Some (position_or_len is_dot text)) None → (position_or_len is_dot text < length text) × (position_or_len is_dot text ≡ k)
    by_test true t f = (ltb-true _ _ t, let same : position_or_len is_dot text ≡ k = cc in same)
    by_test false t f = absurd cc

cut_there : (text : List ℕ) → position_or_len is_dot text < length text → text ≡ take (position_or_len is_dot text) text ++ 46 ∷ drop (position_or_len is_dot text + 1) text
cut_there [] h = absurd (omega arith)
cut_there (c ∷ text) h = by_test (c == 46) refl h (cut_there text)
  where
    place : ℕ
    place = position_or_len is_dot text

    by_test : (t : Bool) → (c == 46) ≡ t → cond (not t) (1 + position_or_len is_dot text) 0 < suc (length text)
        → (position_or_len is_dot text < length text → text ≡ take (position_or_len is_dot text) text ++ 46 ∷ drop (position_or_len is_dot text + 1) text)
        → c ∷ text ≡ take (cond (not t) (1 + position_or_len is_dot text) 0) (c ∷ text) ++ 46 ∷ drop (cond (not t) (1 + position_or_len is_dot text) 0 + 1) (c ∷ text)
    by_test true t h ih = ap (λ (x : ℕ). x ∷ text) (eqb-true c 46 t)
    by_test false t h ih =
        let p = position_or_len is_dot text in
        let one : suc p ≡ 1 + p = omega arith in
        let two : suc (p + 1) ≡ 1 + p + 1 = omega arith in
        ap (λ xs. c ∷ xs) (ih (omega arith))
        ∙ (ap (λ (j : ℕ). take j (c ∷ text) ++ 46 ∷ drop (suc (p + 1)) (c ∷ text)) one ∙ ap (λ (j : ℕ). take (1 + p) (c ∷ text) ++ 46 ∷ drop j (c ∷ text)) two)

-- ---- one number and its dot

-- the text doesn't begin with a number below 256 and a dot
abbrev pub NoOctet : List ℕ → Type 0
NoOctet text = (n : ℕ) (rest : List ℕ) → n < 256 → text ≡ decimal n ++ 46 ∷ rest → ⊥

pub no_dot_there : (text : List ℕ) → None ≡ position is_dot text → NoOctet text
no_dot_there text none n rest h e = let there : position is_dot text ≡ Some (length (decimal n)) = ap (position is_dot) e ∙ dot_after n rest h in cc

pub no_number_there : (text : List ℕ) (k : ℕ) → Some k ≡ position is_dot text → None ≡ number_below 256 (take k text) → NoOctet text
no_number_there text k place none n rest h e =
    let there : Some k ≡ Some (length (decimal n)) = place ∙ (ap (position is_dot) e ∙ dot_after n rest h) in
    let same : k ≡ length (decimal n) = cc in
    let front : take k text ≡ decimal n = ap (λ (j : ℕ). take j text) same ∙ (ap (take (length (decimal n))) e ∙ take-append_seam (decimal n) (46 ∷ rest)) in
    let some : number_below 256 (take k text) ≡ Some n = ap (number_below 256) front ∙ number_read 256 n h (omega arith) in
    cc

pub number_and_dot : (text : List ℕ) (k n : ℕ) → Some k ≡ position is_dot text → Some n ≡ number_below 256 (take k text) → text ≡ decimal n ++ 46 ∷ drop (k + 1) text
number_and_dot text k n place number =
    let p = place_of text k place in
    cut_there text p.0
    ∙ (ap (λ (j : ℕ). take j text ++ 46 ∷ drop (j + 1) text) p.1 ∙ ap (λ front. front ++ 46 ∷ drop (k + 1) text) (number_is 256 (take k text) n (sym number)).0)

-- ---- four numbers

rest_is : (a b : ℕ) (x y : List ℕ) → a < 256 → b < 256 → decimal a ++ 46 ∷ x ≡ decimal b ++ 46 ∷ y → x ≡ y
rest_is a b x y h k e =
    let both : decimal a ∷ slice_split is_dot x ≡ decimal b ∷ slice_split is_dot y = sym (slice_split_at is_dot (decimal a) 46 x (no_dot a h) refl) ∙ (ap (slice_split is_dot) e ∙ slice_split_at is_dot (decimal b) 46 y (no_dot b k) refl) in
    let same : slice_split is_dot x ≡ slice_split is_dot y = cc in
    sym (join_with_byte-slice_split 46 x) ∙ (ap (join_with_byte 46) same ∙ join_with_byte-slice_split 46 y)

spelled : (text octets : List ℕ) (t : IsDotted text octets) → text ≡ decimal t.a ++ 46 ∷ (decimal t.b ++ 46 ∷ (decimal t.c ++ 46 ∷ decimal t.d))
spelled text octets t = t.spelled ∙ dots (decimal t.a) (decimal t.b) (decimal t.c) (decimal t.d)

second : (text octets x : List ℕ) (a : ℕ) (t : IsDotted text octets) → a < 256 → text ≡ decimal a ++ 46 ∷ x → x ≡ decimal t.b ++ 46 ∷ (decimal t.c ++ 46 ∷ decimal t.d)
second text octets x a t h e = rest_is a t.a x _ h t.fit.0 (sym e ∙ spelled text octets t)

third : (text octets x y : List ℕ) (a b : ℕ) (t : IsDotted text octets) → a < 256 → b < 256 → text ≡ decimal a ++ 46 ∷ x → x ≡ decimal b ++ 46 ∷ y → y ≡ decimal t.c ++ 46 ∷ decimal t.d
third text octets x y a b t h k e f = rest_is b t.b y _ k t.fit.1 (sym f ∙ second text octets x a t h e)

last : (text octets x y z : List ℕ) (a b c : ℕ) (t : IsDotted text octets) → a < 256 → b < 256 → c < 256 → text ≡ decimal a ++ 46 ∷ x → x ≡ decimal b ++ 46 ∷ y → y ≡ decimal c ++ 46 ∷ z → z ≡ decimal t.d
last text octets x y z a b c t h k l e f g = rest_is c t.c z _ l t.fit.2 (sym g ∙ third text octets x y a b t h k e f)

pub no_first : (text : List ℕ) → NoOctet text → None ≡ ipv4_in text
no_first text none = not_dotted text (λ ip t. none t.a _ t.fit.0 (spelled text _ t))

pub no_second : (text x : List ℕ) (a : ℕ) → a < 256 → text ≡ decimal a ++ 46 ∷ x → NoOctet x → None ≡ ipv4_in text
no_second text x a h e none = not_dotted text (λ ip t. none t.b _ t.fit.1 (second text _ x a t h e))

pub no_third : (text x y : List ℕ) (a b : ℕ) → a < 256 → b < 256 → text ≡ decimal a ++ 46 ∷ x → x ≡ decimal b ++ 46 ∷ y → NoOctet y → None ≡ ipv4_in text
no_third text x y a b h k e f none = not_dotted text (λ ip t. none t.c _ t.fit.2 (third text _ x y a b t h k e f))

pub no_last : (text x y z : List ℕ) (a b c : ℕ) → a < 256 → b < 256 → c < 256 → text ≡ decimal a ++ 46 ∷ x → x ≡ decimal b ++ 46 ∷ y → y ≡ decimal c ++ 46 ∷ z → None ≡ number_below 256 z → None ≡ ipv4_in text
no_last text x y z a b c h k l e f g none =
    not_dotted text (λ ip t.
    let some : number_below 256 z ≡ Some t.d = ap (number_below 256) (last text _ x y z a b c t h k l e f g) ∙ number_read 256 t.d t.fit.3 (omega arith) in
    cc)

pub all_four : (text x y z : List ℕ) (a b c d n : ℕ) → a < 256 → b < 256 → c < 256 → text ≡ decimal a ++ 46 ∷ x → x ≡ decimal b ++ 46 ∷ y → y ≡ decimal c ++ 46 ∷ z → Some d ≡ number_below 256 z
    → n ≡ from_be_bytes w32 (a ∷ b ∷ c ∷ d ∷ []) → Some (record { family = V4; bits = bits_of 32 n }) ≡ ipv4_in text
all_four text x y z a b c d n h k l e f g number is =
    let v = number_is 256 z d (sym number) in
    let whole : text ≡ decimal a ++ 46 ∷ (decimal b ++ 46 ∷ (decimal c ++ 46 ∷ decimal d)) =
    e ∙ ap (λ xs. decimal a ++ 46 ∷ xs) (f ∙ ap (λ xs. decimal b ++ 46 ∷ xs) (g ∙ ap (λ xs. decimal c ++ 46 ∷ xs) v.0)) in
    dotted_read text (a ∷ b ∷ c ∷ d ∷ []) n (record { a = a; b = b; c = c; d = d; fit = (h, k, l, v.1); value = refl; spelled = whole ∙ sym (dots (decimal a) (decimal b) (decimal c) (decimal d)) }) is
