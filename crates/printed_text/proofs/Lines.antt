-- The lines of a text are those that bstr cuts it into.
use Rattle.std.proofs.Common.{◌≡◌, ℕ, suc, List, [], ◌∷◌, Bool, true, false, cond, length, take, drop, refl, sym, ap, ◌∙◌, arith}
use Rattle.std.specs.Prelude.{◌==◌, ◌≤◌}
use Rattle.bstr.specs.Text.{line_len, lines_of as cut_lines}
use Rattle.bstr.proofs.lemmas.LineLemmas.{lines-nil, lines-step}
use Rattle.printed_text.specs.Texts.{in_front, lines_of}

line_long : (b : ℕ) (text : List ℕ) → (b == 10) ≡ true → cut_lines (b ∷ text) ≡ (b ∷ []) ∷ cut_lines text
unfolding line_len
line_long b text e =
    let one : line_len (b ∷ text) ≡ 1 = ap (λ t. cond t 1 (suc (line_len text))) e in
    lines-step (b ∷ text) (omega arith) ∙ ap (λ n. take n (b ∷ text) ∷ cut_lines (drop n (b ∷ text))) one

line_more : (b : ℕ) (text : List ℕ) → (b == 10) ≡ false → cut_lines (b ∷ text) ≡ in_front b (cut_lines text)
unfolding line_len
line_more b text e =
    let long : line_len (b ∷ text) ≡ suc (line_len text) = ap (λ t. cond t 1 (suc (line_len text))) e in
    lines-step (b ∷ text) (omega arith) ∙ (ap (λ n. take n (b ∷ text) ∷ cut_lines (drop n (b ∷ text))) long ∙ rest text)
  where
    rest : (text : List ℕ) → (b ∷ take (line_len text) text) ∷ cut_lines (drop (line_len text) text) ≡ in_front b (cut_lines text)
    rest [] = ap (λ ls. (b ∷ []) ∷ ls) lines-nil ∙ sym (ap (in_front b) lines-nil)
    rest (c ∷ more) = sym (ap (in_front b) (lines-step (c ∷ more) (omega arith)))

pub lines_same : (text : List ℕ) → cut_lines text ≡ lines_of text
unfolding lines_of
lines_same [] = lines-nil
lines_same (b ∷ text) = by_test (b == 10) refl (lines_same text)
  where
    by_test : (t : Bool) → (b == 10) ≡ t → cut_lines text ≡ lines_of text → cut_lines (b ∷ text) ≡ cond t ((b ∷ []) ∷ lines_of text) (in_front b (lines_of text))
    by_test true e ih = line_long b text e ∙ ap (λ ls. (b ∷ []) ∷ ls) ih
    by_test false e ih = line_more b text e ∙ ap (in_front b) ih

-- ---- there are no more lines than octets

front_long : (b : ℕ) (lines : List (List ℕ)) → length (in_front b lines) ≤ suc (length lines)
front_long b [] = omega arith
front_long b (line ∷ lines) = omega arith

pub few_lines : (text : List ℕ) → length (lines_of text) ≤ length text
unfolding lines_of
few_lines [] = omega arith
few_lines (b ∷ text) = by_test (b == 10) (few_lines text)
  where
    by_test : (t : Bool) → length (lines_of text) ≤ length text → length (cond t ((b ∷ []) ∷ lines_of text) (in_front b (lines_of text))) ≤ suc (length text)
    by_test true le = omega (arith, le)
    by_test false le = omega (arith, le, front_long b (lines_of text))
