-- One line after another.
use Rattle.std.proofs.Common.{◌≡◌, ℕ, suc, ◌+◌, ◌≤◌, List, [], ◌∷◌, ◌++◌, true, false, Ok, Err, length, map, refl, sym, ap, ◌∙◌, arith}
use Rattle.std.specs.Prelude.{◌==◌}
use Rattle.octet_fields.specs.Field.{◌>>=◌}
use Rattle.std.proofs.lemmas.Bool.{eqb-true}
use Rattle.bstr.specs.Text.{without_terminator, lines_of as cut_lines}
use Rattle.printed_text.specs.Texts.{lines_of}
use Rattle.printed_text.proofs.Lines.{lines_same, few_lines}
use Rattle.std.proofs.lemmas.List.{length-map}
use Rattle.step_script.specs.Script.{Step, step_in, with_step, steps_after, script_in}

-- the steps of the n lines so far, and the lines left
pub record Left (steps : List Step) (n : ℕ) (lines : List (List ℕ)) (text : List ℕ) : Type 0 where
  pub all : steps_after steps (n + 1) lines ≡ script_in text
  pub few : n + length lines ≤ length text

pub starts : (text : List ℕ) (steps : List Step) (lines : List (List ℕ)) → steps ≡ [] → lines ≡ map without_terminator (cut_lines text) → Left steps 0 lines text
unfolding script_in
starts text steps lines e l =
    let same : lines ≡ map without_terminator (lines_of text) = l ∙ ap (map without_terminator) (lines_same text) in
    record {
      all = ap (λ s. steps_after s 1 lines) e ∙ ap (steps_after [] 1) same;
      few = omega (arith, few_lines text, ap length same, length-map (lines_of text) without_terminator);
    }

empty_here : (steps : List Step) (n : ℕ) (line : List ℕ) (lines : List (List ℕ)) → true ≡ (length line == 0) → steps_after steps n (line ∷ lines) ≡ steps_after steps (n + 1) lines
unfolding steps_after
empty_here steps n [] lines e = refl
empty_here steps n (b ∷ line) lines e = absurd (not_empty (sym e)) where
  not_empty : (suc (length line) == 0) ≡ true → ⊥
  not_empty h = let z : suc (length line) ≡ 0 = eqb-true (suc (length line)) 0 h in omega arith

filled_here : (steps : List Step) (n : ℕ) (line : List ℕ) (lines : List (List ℕ)) → false ≡ (length line == 0) → steps_after steps n (line ∷ lines) ≡ (with_step n steps (step_in line) >>= λ more. steps_after more (n + 1) lines)
unfolding steps_after
filled_here steps n [] lines e = absurd cc
filled_here steps n (b ∷ line) lines e = refl

pub empty_line : (steps : List Step) (n : ℕ) (line : List ℕ) (lines left : List (List ℕ)) (text : List ℕ) → lines ≡ line ∷ left → true ≡ (length line == 0) → Left steps n lines text → Left steps (n + 1) left text
empty_line steps n line lines left text e t l = record {
  all = sym (ap (steps_after steps (n + 1)) e ∙ empty_here steps (n + 1) line left t) ∙ l.all;
  few = omega (arith, l.few, ap length e);
}

pub taken_line : (steps : List Step) (step : Step) (n : ℕ) (line : List ℕ) (lines left : List (List ℕ)) (text : List ℕ) → lines ≡ line ∷ left → false ≡ (length line == 0) → step_in line ≡ Ok step → Left steps n lines text → Left (steps ++ step ∷ []) (n + 1) left text
taken_line steps step n line lines left text e t r l = record {
  all = sym (ap (steps_after steps (n + 1)) e ∙ (filled_here steps (n + 1) line left t ∙ ap (λ read. with_step (n + 1) steps read >>= λ more. steps_after more (n + 1 + 1) left) r)) ∙ l.all;
  few = omega (arith, l.few, ap length e);
}

pub bad_line : (steps : List Step) (why : ℕ) (n : ℕ) (line : List ℕ) (lines left : List (List ℕ)) (text : List ℕ) → lines ≡ line ∷ left → false ≡ (length line == 0) → step_in line ≡ Err why → Left steps n lines text → script_in text ≡ Err (record { line = n + 1; why = why })
bad_line steps why n line lines left text e t r l =
    sym l.all
    ∙ (ap (steps_after steps (n + 1)) e
    ∙ (filled_here steps (n + 1) line left t
    ∙ ap (λ read. with_step (n + 1) steps read >>= λ more. steps_after more (n + 1 + 1) left) r))

pub no_line : (steps : List Step) (n : ℕ) (lines : List (List ℕ)) (text : List ℕ) → lines ≡ [] → Left steps n lines text → script_in text ≡ Ok steps
unfolding steps_after
no_line steps n lines text e l = sym l.all ∙ ap (steps_after steps (n + 1)) e
