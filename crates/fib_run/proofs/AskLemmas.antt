-- One line after another.
use Rattle.std.proofs.Common.{◌≡◌, ℕ, suc, ◌+◌, List, [], ◌∷◌, ◌++◌, true, false, Some, None, Result, Ok, Err, length, map, refl, sym, ap, ◌∙◌, arith, append_assoc, append-nil}
use Rattle.std.specs.Prelude.{◌==◌, ◌≤◌, Option}
use Rattle.octet_fields.specs.Field.{◌>>=◌}
use Rattle.std.proofs.lemmas.Bool.{eqb-true}
use Rattle.std.proofs.lemmas.List.{length-map}
use Rattle.bstr.specs.Text.{without_terminator, lines_of as cut_lines}
use Rattle.table_model.specs.Address.{Address}
use Rattle.fib_addr.specs.Text.{address_in}
use Rattle.printed_text.specs.Texts.{lines_of, line_texts}
use Rattle.printed_text.proofs.Lines.{lines_same, few_lines}
use Rattle.fib_due.specs.Asks.{address_or, addresses_from}
use Rattle.fib_run.specs.Asking.{asks_behind}

-- the lines of a text, and how many there are at most
pub lines_cut : (text : List ℕ) (lines : List (List ℕ)) → lines ≡ map without_terminator (cut_lines text) → lines ≡ line_texts text
lines_cut text lines l = l ∙ ap (map without_terminator) (lines_same text)

pub few_texts : (text : List ℕ) → length (line_texts text) ≤ length text
few_texts text = omega (arith, few_lines text, length-map (lines_of text) without_terminator)

-- ---- the lines that are left

-- what the lines so far gave, and the lines left
pub record Left (old : List Address) (before : ℕ) (lines : List (List ℕ)) (asks : List Address) (n : ℕ) (left : List (List ℕ)) : Type 0 where
  pub all : asks_behind asks n left ≡ asks_behind old before lines
  pub count : n + length left ≡ before + length lines

pub starts : (old asks : List Address) (n : ℕ) (lines left : List (List ℕ)) → asks ≡ old → left ≡ lines → Left old n lines asks n left
starts old asks n lines left a l = record {
  all = ap (λ xs. asks_behind xs n left) a ∙ ap (asks_behind old n) l;
  count = omega (arith, ap length l);
}

empty_here : (n : ℕ) (line : List ℕ) (lines : List (List ℕ)) → true ≡ (length line == 0) → addresses_from n (line ∷ lines) ≡ addresses_from (n + 1) lines
unfolding addresses_from
empty_here n [] lines e = refl
empty_here n (b ∷ line) lines e = absurd (not_empty (sym e)) where
  not_empty : (suc (length line) == 0) ≡ true → ⊥
  not_empty h = let z : suc (length line) ≡ 0 = eqb-true (suc (length line)) 0 h in omega arith

filled_here : (n : ℕ) (line : List ℕ) (lines : List (List ℕ)) → false ≡ (length line == 0) → addresses_from n (line ∷ lines) ≡ address_or n (address_in line) (addresses_from (n + 1) lines)
unfolding addresses_from
filled_here n [] lines e = absurd cc
filled_here n (b ∷ line) lines e = refl

pub empty_line : (old : List Address) (before : ℕ) (all : List (List ℕ)) (asks : List Address) (n : ℕ) (line : List ℕ) (lines left : List (List ℕ)) → lines ≡ line ∷ left → true ≡ (length line == 0) → Left old before all asks n lines → Left old before all asks (n + 1) left
empty_line old before all asks n line lines left e t l = record {
  all = sym (ap (asks_behind asks n) e ∙ ap (λ read. read >>= λ more. Ok (asks ++ more)) (empty_here (n + 1) line left t)) ∙ l.all;
  count = omega (arith, l.count, ap length e);
}

one_more : (asks : List Address) (a : Address) (read : Result (List Address) ℕ) → (read >>= λ more. Ok ((asks ++ a ∷ []) ++ more)) ≡ ((read >>= λ addresses. Ok (a ∷ addresses)) >>= λ more. Ok (asks ++ more))
one_more asks a (Ok addresses) = ap Ok (append_assoc asks (a ∷ []) addresses)
one_more asks a (Err n) = refl

filled_left : (asks : List Address) (n : ℕ) (o : Option Address) (line : List ℕ) (lines left : List (List ℕ)) → lines ≡ line ∷ left → false ≡ (length line == 0) → o ≡ address_in line → asks_behind asks n lines ≡ (address_or (n + 1) o (addresses_from (n + 1 + 1) left) >>= λ more. Ok (asks ++ more))
filled_left asks n o line lines left e t r =
    ap (asks_behind asks n) e
    ∙ ap (λ read. read >>= λ more. Ok (asks ++ more)) (filled_here (n + 1) line left t ∙ ap (λ p. address_or (n + 1) p (addresses_from (n + 1 + 1) left)) (sym r))

pub ask_line : (old : List Address) (before : ℕ) (all : List (List ℕ)) (asks more : List Address) (n : ℕ) (a : Address) (line : List ℕ) (lines left : List (List ℕ)) → lines ≡ line ∷ left → false ≡ (length line == 0) → Some a ≡ address_in line → more ≡ asks ++ a ∷ [] → Left old before all asks n lines → Left old before all more (n + 1) left
ask_line old before all asks more n a line lines left e t r m l = record {
  all = ap (λ xs. asks_behind xs (n + 1) left) m ∙ (one_more asks a (addresses_from (n + 1 + 1) left) ∙ (sym (filled_left asks n (Some a) line lines left e t r) ∙ l.all));
  count = omega (arith, l.count, ap length e);
}

pub wrong_line : (old : List Address) (before : ℕ) (all : List (List ℕ)) (asks : List Address) (n : ℕ) (line : List ℕ) (lines left : List (List ℕ)) → lines ≡ line ∷ left → false ≡ (length line == 0) → None ≡ address_in line → Left old before all asks n lines → asks_behind old before all ≡ Err (n + 1)
wrong_line old before all asks n line lines left e t r l = sym l.all ∙ filled_left asks n None line lines left e t r

pub no_line : (old : List Address) (before : ℕ) (all : List (List ℕ)) (asks : List Address) (n : ℕ) (lines : List (List ℕ)) → lines ≡ [] → Left old before all asks n lines → (asks_behind old before all ≡ Ok asks) × (n ≡ before + length all)
unfolding addresses_from
no_line old before all asks n lines e l = (sym l.all ∙ (ap (asks_behind asks n) e ∙ ap Ok (append-nil asks)), omega (arith, l.count, ap length e))

-- ---- lines behind lines

nothing_before : (read : Result (List Address) ℕ) → (read >>= λ more. Ok ([] ++ more)) ≡ read
nothing_before (Ok addresses) = refl
nothing_before (Err n) = refl

in_front : (a : Address) (addresses : List Address) (read : Result (List Address) ℕ) → ((read >>= λ more. Ok (addresses ++ more)) >>= λ all. Ok (a ∷ all)) ≡ (read >>= λ more. Ok ((a ∷ addresses) ++ more))
in_front a addresses (Ok more) = refl
in_front a addresses (Err n) = refl

-- the addresses of lines, and those of others behind them
abbrev pub then_lines : ℕ → Result (List Address) ℕ → List (List ℕ) → Result (List Address) ℕ
then_lines n read ys = read >>= λ asks. asks_behind asks n ys

on_more : (n : ℕ) (a : Address) (read : Result (List Address) ℕ) (ys : List (List ℕ)) → (then_lines n read ys >>= λ all. Ok (a ∷ all)) ≡ then_lines n (read >>= λ addresses. Ok (a ∷ addresses)) ys
on_more n a (Ok addresses) ys = in_front a addresses (addresses_from (n + 1) ys)
on_more n a (Err k) ys = refl

on_line : (n k : ℕ) (o : Option Address) (all read : Result (List Address) ℕ) (ys : List (List ℕ)) → all ≡ then_lines n read ys → address_or k o all ≡ then_lines n (address_or k o read) ys
on_line n k None all read ys e = refl
on_line n k (Some a) all read ys e = ap (λ r. r >>= λ addresses. Ok (a ∷ addresses)) e ∙ on_more n a read ys

pub addresses_on : (n : ℕ) (xs ys : List (List ℕ)) → addresses_from (n + 1) (xs ++ ys) ≡ then_lines (n + length xs) (addresses_from (n + 1) xs) ys
unfolding addresses_from
addresses_on n [] ys =
    let same : n ≡ n + 0 = omega arith in
    sym (nothing_before (addresses_from (n + 1) ys)) ∙ ap (λ k. asks_behind [] k ys) same
addresses_on n ([] ∷ xs) ys =
    let same : n + 1 + length xs ≡ n + suc (length xs) = omega arith in
    addresses_on (n + 1) xs ys ∙ ap (λ k. then_lines k (addresses_from (n + 1 + 1) xs) ys) same
addresses_on n ((b ∷ line) ∷ xs) ys =
    let same : n + 1 + length xs ≡ n + suc (length xs) = omega arith in
    on_line (n + suc (length xs)) (n + 1) (address_in (b ∷ line)) (addresses_from (n + 1 + 1) (xs ++ ys)) (addresses_from (n + 1 + 1) xs) ys (addresses_on (n + 1) xs ys ∙ ap (λ k. then_lines k (addresses_from (n + 1 + 1) xs) ys) same)
