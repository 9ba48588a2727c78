-- The text of rows, one row after the other.
use Rattle.std.proofs.Common.{◌≡◌, ℕ, suc, ◌+◌, List, [], ◌∷◌, ◌++◌, Option, None, Some, length, arith, refl, ap, sym, subst, append-nil, append_assoc, length-append, ◌∙◌}
use Rattle.std.specs.Io.KnownBytes.{Appends}
use Rattle.csv.specs.Writing.{text_written}
use Rattle.csv.specs.declared.writer.Writer.{Writer}
use Rattle.step_script.specs.Rows.{StepRow, row_line, rows_text}
use Rattle.step_script.specs.Texts.{HasWritten}
use Rattle.step_script.specs.declared.text.StepText.{StepText}
use Rattle.fib_report.specs.Writing.{AddsRows}

pub no_rows : rows_text 1 [] ≡ []
unfolding rows_text
no_rows = refl

-- some rows, and then more
rows_text-append : (n : ℕ) (rows more : List StepRow) → rows_text n (rows ++ more) ≡ rows_text n rows ++ rows_text (n + length rows) more
unfolding rows_text
rows_text-append n [] more = ap (λ k. rows_text k more) (omega arith)
rows_text-append n (row ∷ rows) more =
    ap (λ text. row_line n row ++ text) (rows_text-append (n + 1) rows more ∙ ap (λ k. rows_text (n + 1) rows ++ rows_text k more) (omega arith))
    ∙ sym (append_assoc (row_line n row) (rows_text (n + 1) rows) (rows_text (n + suc (length rows)) more))

-- one row
rows_text-one : (n : ℕ) (row : StepRow) → rows_text n (row ∷ []) ≡ row_line n row
unfolding rows_text
rows_text-one n row = append-nil (row_line n row)

added : (old new : Option (List ℕ)) (text rows : List ℕ) → old ≡ Some text → Appends old new rows → new ≡ Some (text ++ rows)
added old None text rows e h = absurd (subst (λ o. Appends o None rows) e h)
added old (Some all) text rows e h = ap Some (subst (λ o. Appends o (Some all) rows) e h)

-- the row of one more step is written
pub one_more : {W : Type 0} (contents : W → Option (List ℕ)) (v w : Writer W) (rows : List StepRow) (row : StepRow) (n : ℕ) → n ≡ length rows + 1
    → text_written contents v ≡ Some (rows_text 1 rows) → AddsRows contents v w (row_line n row) → text_written contents w ≡ Some (rows_text 1 (rows ++ row ∷ []))
one_more contents v w rows row n numbered before next =
    let line : row_line n row ≡ rows_text (1 + length rows) (row ∷ []) = ap (λ k. row_line k row) (numbered ∙ omega arith) ∙ sym (rows_text-one (1 + length rows) row) in
    added _ _ _ _ before next.text
    ∙ ap Some (ap (λ text. rows_text 1 rows ++ text) line ∙ sym (rows_text-append 1 rows (row ∷ [])))

-- the count of rows
pub one_longer : (rows : List StepRow) (row : StepRow) (n m : ℕ) → n ≡ length rows → m ≡ n + 1 → m ≡ length (rows ++ row ∷ [])
one_longer rows row n m many more = more ∙ (ap (λ k. k + 1) many ∙ sym (length-append rows (row ∷ [])))
