-- One line after another.
use Rattle.std.proofs.Common.{◌≡◌, ℕ, suc, ◌+◌, ◌≤◌, List, [], ◌∷◌, ◌++◌, true, false, Result, Ok, Err, length, map, refl, sym, ap, ◌∙◌, arith}
use Rattle.std.specs.Prelude.{◌==◌}
use Rattle.octet_fields.specs.Field.{◌>>=◌}
use Rattle.std.proofs.lemmas.Bool.{eqb-true}
use Rattle.std.proofs.lemmas.List.{length-map, append_assoc, append-nil}
use Rattle.bstr.specs.Text.{without_terminator, lines_of as cut_lines}
use Rattle.printed_text.specs.Texts.{BadLine, lines_of}
use Rattle.printed_text.proofs.Lines.{lines_same, few_lines}
use Rattle.printed_text.specs.Rows.{Vrp}
use Rattle.fib_rov.specs.Lines.{vrp_in, at_line, vrps_of, vrps_in}

-- the VRPs so far, and those of what is left
abbrev pub joined : List Vrp → Result (List Vrp) BadLine → Result (List Vrp) BadLine
joined vrps left = left >>= λ more. Ok (vrps ++ more)

-- the VRPs of the n lines so far, and the lines left
pub record Left (vrps : List Vrp) (n : ℕ) (lines : List (List ℕ)) (text : List ℕ) : Type 0 where
  pub all : joined vrps (vrps_of (n + 1) lines) ≡ vrps_in text
  pub few : n + length lines ≤ length text

joined_none : (left : Result (List Vrp) BadLine) → joined [] left ≡ left
joined_none (Ok more) = refl
joined_none (Err bad) = refl

joined_one : (vrps : List Vrp) (vrp : Vrp) (left : Result (List Vrp) BadLine) → joined vrps (left >>= λ more. Ok (vrp ∷ more)) ≡ joined (vrps ++ vrp ∷ []) left
joined_one vrps vrp (Ok more) = ap Ok (sym (append_assoc vrps (vrp ∷ []) more))
joined_one vrps vrp (Err bad) = refl

pub starts : (text : List ℕ) (vrps : List Vrp) (lines : List (List ℕ)) → vrps ≡ [] → lines ≡ map without_terminator (cut_lines text) → Left vrps 0 lines text
unfolding vrps_in
starts text vrps lines e l =
    let same : lines ≡ map without_terminator (lines_of text) = l ∙ ap (map without_terminator) (lines_same text) in
    record {
      all = ap (λ v. joined v (vrps_of 1 lines)) e ∙ (joined_none (vrps_of 1 lines) ∙ ap (vrps_of 1) same);
      few = omega (arith, few_lines text, ap length same, length-map (lines_of text) without_terminator);
    }

empty_here : (n : ℕ) (line : List ℕ) (lines : List (List ℕ)) → true ≡ (length line == 0) → vrps_of n (line ∷ lines) ≡ vrps_of (n + 1) lines
unfolding vrps_of
empty_here n [] lines e = refl
empty_here n (b ∷ line) lines e = absurd (not_empty (sym e)) where
  not_empty : (suc (length line) == 0) ≡ true → ⊥
  not_empty h = let z : suc (length line) ≡ 0 = eqb-true (suc (length line)) 0 h in omega arith

filled_here : (n : ℕ) (line : List ℕ) (lines : List (List ℕ)) → false ≡ (length line == 0) → vrps_of n (line ∷ lines) ≡ (at_line n (vrp_in line) >>= λ vrp. vrps_of (n + 1) lines >>= λ more. Ok (vrp ∷ more))
unfolding vrps_of
filled_here n [] lines e = absurd cc
filled_here n (b ∷ line) lines e = refl

pub empty_line : (vrps : List Vrp) (n : ℕ) (line : List ℕ) (lines left : List (List ℕ)) (text : List ℕ) → lines ≡ line ∷ left → true ≡ (length line == 0) → Left vrps n lines text → Left vrps (n + 1) left text
empty_line vrps n line lines left text e t l = record {
  all = sym (ap (λ ls. joined vrps (vrps_of (n + 1) ls)) e ∙ ap (joined vrps) (empty_here (n + 1) line left t)) ∙ l.all;
  few = omega (arith, l.few, ap length e);
}

-- what is due where a line is filled
filled_due : (vrps : List Vrp) (n : ℕ) (line : List ℕ) (lines left : List (List ℕ)) (text : List ℕ) (read : Result Vrp ℕ) → lines ≡ line ∷ left → false ≡ (length line == 0) → vrp_in line ≡ read → Left vrps n lines text
    → vrps_in text ≡ joined vrps (at_line (n + 1) read >>= λ vrp. vrps_of (n + 1 + 1) left >>= λ more. Ok (vrp ∷ more))
filled_due vrps n line lines left text read e t r l =
    sym l.all
    ∙ (ap (λ ls. joined vrps (vrps_of (n + 1) ls)) e
    ∙ (ap (joined vrps) (filled_here (n + 1) line left t) ∙ ap (λ x. joined vrps (at_line (n + 1) x >>= λ vrp. vrps_of (n + 1 + 1) left >>= λ more. Ok (vrp ∷ more))) r))

pub taken_line : (vrps : List Vrp) (vrp : Vrp) (n : ℕ) (line : List ℕ) (lines left : List (List ℕ)) (text : List ℕ) → lines ≡ line ∷ left → false ≡ (length line == 0) → vrp_in line ≡ Ok vrp → Left vrps n lines text → Left (vrps ++ vrp ∷ []) (n + 1) left text
taken_line vrps vrp n line lines left text e t r l = record {
  all = sym (filled_due vrps n line lines left text (Ok vrp) e t r l ∙ joined_one vrps vrp (vrps_of (n + 1 + 1) left));
  few = omega (arith, l.few, ap length e);
}

pub bad_line : (vrps : List Vrp) (why : ℕ) (n : ℕ) (line : List ℕ) (lines left : List (List ℕ)) (text : List ℕ) → lines ≡ line ∷ left → false ≡ (length line == 0) → vrp_in line ≡ Err why → Left vrps n lines text → vrps_in text ≡ Err (record { line = n + 1; why = why })
bad_line vrps why n line lines left text e t r l = filled_due vrps n line lines left text (Err why) e t r l

pub no_line : (vrps : List Vrp) (n : ℕ) (lines : List (List ℕ)) (text : List ℕ) → lines ≡ [] → Left vrps n lines text → vrps_in text ≡ Ok vrps
unfolding vrps_of
no_line vrps n lines text e l = sym l.all ∙ (ap (λ ls. joined vrps (vrps_of (n + 1) ls)) e ∙ ap Ok (append-nil vrps))
