-- The sections of a run, written one after the other.
use Rattle.std.proofs.Common.{◌≡◌, List, [], ◌++◌, map, ap, subst, ◌∙◌}
use Rattle.std.specs.Prelude.{flat_map}
use Rattle.table_model.specs.Address.{Address}
use Rattle.printed_text.specs.Rows.{PrintedRow}
use Rattle.printed_text.specs.Numbered.{of_cert, of_least, of_route}
use Rattle.fib_report.specs.Rows.{of_answer, of_change, of_invalid, of_moves, table_entry_row, printed_rows, report_rows, run_text}
use Rattle.fib_report.specs.Sections.{WritesRows, text_hops, text_in, writes_more}
use Rattle.fib_report.specs.Views.{Told}
use Rattle.fib_report.specs.declared.run_text.RunText.{RunText}

-- The text of a run, whose sections were written in their order, each with the hops of the text as it stood then.
module _ (hops : List Address) (run : Told) (t0 t1 t2 t3 t4 t5 t6 t7 t8 t9 : RunText) (same : text_hops t0 ≡ hops)
    (routes : WritesRows t0 t1 (flat_map (of_route (text_hops t0)) run.routes))
    (invalid : WritesRows t1 t2 (map of_invalid run.invalid))
    (changes : WritesRows t2 t3 (map (of_change (text_hops t2)) run.changes))
    (moves : WritesRows t3 t4 (map of_moves run.moves))
    (answers : WritesRows t4 t5 (flat_map (of_answer (text_hops t4)) run.answers))
    (table : WritesRows t5 t6 (map (table_entry_row (text_hops t5)) run.table))
    (least : WritesRows t6 t7 (map (of_least (text_hops t6)) run.least))
    (cert : WritesRows t7 t8 (map (of_cert (text_hops t7)) run.cert))
    (report : WritesRows t8 t9 (report_rows run.report)) where
  h2 : text_hops t2 ≡ hops
  h2 = invalid.hops ∙ (routes.hops ∙ same)

  h3 : text_hops t3 ≡ hops
  h3 = changes.hops ∙ h2

  h4 : text_hops t4 ≡ hops
  h4 = moves.hops ∙ h3

  h5 : text_hops t5 ≡ hops
  h5 = answers.hops ∙ h4

  h6 : text_hops t6 ≡ hops
  h6 = table.hops ∙ h5

  h7 : text_hops t7 ≡ hops
  h7 = least.hops ∙ h6

  abbrev R : List PrintedRow
  R = flat_map (of_route hops) run.routes

  abbrev I : List PrintedRow
  I = map of_invalid run.invalid

  abbrev C : List PrintedRow
  C = map (of_change hops) run.changes

  abbrev N : List PrintedRow
  N = map of_moves run.moves

  abbrev A : List PrintedRow
  A = flat_map (of_answer hops) run.answers

  abbrev T : List PrintedRow
  T = map (table_entry_row hops) run.table

  abbrev L : List PrintedRow
  L = map (of_least hops) run.least

  abbrev P : List PrintedRow
  P = map (of_cert hops) run.cert

  pub all_written : WritesRows t0 t9 (printed_rows hops run)
  all_written =
      let a = subst (λ h. WritesRows t0 t1 (flat_map (of_route h) run.routes)) same routes in
      let b = writes_more t0 t1 t2 R I a invalid in
      let c = writes_more t0 t2 t3 (R ++ I) C b (subst (λ h. WritesRows t2 t3 (map (of_change h) run.changes)) h2 changes) in
      let n = writes_more t0 t3 t4 (R ++ I ++ C) N c moves in
      let d = writes_more t0 t4 t5 (R ++ I ++ C ++ N) A n (subst (λ h. WritesRows t4 t5 (flat_map (of_answer h) run.answers)) h4 answers) in
      let e = writes_more t0 t5 t6 (R ++ I ++ C ++ N ++ A) T d (subst (λ h. WritesRows t5 t6 (map (table_entry_row h) run.table)) h5 table) in
      let f = writes_more t0 t6 t7 (R ++ I ++ C ++ N ++ A ++ T) L e (subst (λ h. WritesRows t6 t7 (map (of_least h) run.least)) h6 least) in
      let g = writes_more t0 t7 t8 (R ++ I ++ C ++ N ++ A ++ T ++ L) P f (subst (λ h. WritesRows t7 t8 (map (of_cert h) run.cert)) h7 cert) in
      writes_more t0 t8 t9 (R ++ I ++ C ++ N ++ A ++ T ++ L ++ P) (report_rows run.report) g report

  -- begun with no row
  pub text_written : text_in t0 ≡ [] → text_in t9 ≡ run_text hops run
  text_written empty = all_written.text ∙ ap (λ text. text ++ run_text hops run) empty
