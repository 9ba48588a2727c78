-- The rows of what a router must change, written one after another.
use Rattle.std.proofs.Common.{◌≡◌, ℕ, List, [], ◌∷◌, ◌++◌, length, map, refl, sym, ap, subst, ◌∙◌, append_assoc}
use Rattle.std.proofs.lemmas.List.{map-append}
use Rattle.table_model.specs.Address.{Address}
use Rattle.table_model.specs.Changes.{Change}
use Rattle.cert_model.specs.Rows.{CertRow}
use Rattle.kept_model.specs.Feed.{at_event}
use Rattle.printed_text.specs.Rows.{PrintedRow, moves_row}
use Rattle.printed_text.specs.Numbered.{of_cert}
use Rattle.fib_report.specs.Rows.{of_change, of_moves}
use Rattle.fib_report.specs.Sections.{WritesRows, text_hops, text_in, writes_more}
use Rattle.fib_report.specs.declared.run_text.RunText.{RunText}
use Rattle.router_moves.specs.Due.{ShortestMoves}
use Rattle.fib_due.specs.RouterRows.{router_rows, router_text}

-- the changes of event 1
of_event : (hops : List Address) (cs : List Change) → map (λ c. of_change hops (1, c)) cs ≡ map (of_change hops) (at_event 1 cs)
of_event hops [] = refl
of_event hops (c ∷ cs) = ap (λ rows. of_change hops (1, c) ∷ rows) (of_event hops cs)

event_both : (cs ds : List Change) → at_event 1 (cs ++ ds) ≡ at_event 1 cs ++ at_event 1 ds
event_both cs ds = map-append (λ c. (1, c)) cs ds

-- changes of both families, their number, and the rows of both
module _ (hops : List Address) (a b : List Change) (c d : List CertRow) (n : ℕ) (t0 t1 t2 t3 t4 t5 : RunText) (same : text_hops t0 ≡ hops) (count : n ≡ length (a ++ b))
    (first : WritesRows t0 t1 (map (λ x. of_change (text_hops t0) (1, x)) a))
    (second : WritesRows t1 t2 (map (λ x. of_change (text_hops t1) (1, x)) b))
    (many : WritesRows t2 t3 (map of_moves ((1, n) ∷ [])))
    (low : WritesRows t3 t4 (map (of_cert (text_hops t3)) c))
    (high : WritesRows t4 t5 (map (of_cert (text_hops t4)) d)) where
  h1 : text_hops t1 ≡ hops
  h1 = first.hops ∙ same

  h3 : text_hops t3 ≡ hops
  h3 = many.hops ∙ (second.hops ∙ h1)

  h4 : text_hops t4 ≡ hops
  h4 = low.hops ∙ h3

  abbrev A : List PrintedRow
  A = map (of_change hops) (at_event 1 a)

  abbrev B : List PrintedRow
  B = map (of_change hops) (at_event 1 b)

  abbrev N : List PrintedRow
  N = moves_row 1 n ∷ []

  abbrev C : List PrintedRow
  C = map (of_cert hops) c

  abbrev D : List PrintedRow
  D = map (of_cert hops) d

  written : WritesRows t0 t5 (A ++ B ++ N ++ C ++ D)
  written =
      let x = subst (WritesRows t0 t1) (of_event hops a) (subst (λ h. WritesRows t0 t1 (map (λ x. of_change h (1, x)) a)) same first) in
      let y = subst (WritesRows t1 t2) (of_event hops b) (subst (λ h. WritesRows t1 t2 (map (λ x. of_change h (1, x)) b)) h1 second) in
      let ab = writes_more t0 t1 t2 A B x y in
      let abn = writes_more t0 t2 t3 (A ++ B) N ab many in
      let abnc = writes_more t0 t3 t4 (A ++ B ++ N) C abn (subst (λ h. WritesRows t3 t4 (map (of_cert h) c)) h3 low) in
      writes_more t0 t4 t5 (A ++ B ++ N ++ C) D abnc (subst (λ h. WritesRows t4 t5 (map (of_cert h) d)) h4 high)

  abbrev all : ShortestMoves
  all = record { changes = a ++ b; rows = c ++ d; hops = hops }

  rows_are : A ++ B ++ N ++ C ++ D ≡ router_rows all
  rows_are =
      append_assoc (A ++ B ++ N) C D
      ∙ (append_assoc (A ++ B) N (C ++ D)
      ∙ (ap (λ rows. (A ++ B) ++ (moves_row 1 n ∷ rows)) (sym (map-append (of_cert hops) c d))
      ∙ (ap (λ k. (A ++ B) ++ (moves_row 1 k ∷ map (of_cert hops) (c ++ d))) count
      ∙ ap (λ rows. rows ++ (moves_row 1 (length (a ++ b)) ∷ map (of_cert hops) (c ++ d))) (sym (map-append (of_change hops) (at_event 1 a) (at_event 1 b)) ∙ ap (map (of_change hops)) (sym (event_both a b))))))

  -- begun with no row
  pub router_written : text_in t0 ≡ [] → text_in t5 ≡ router_text all
  router_written empty = (subst (WritesRows t0 t5) rows_are written).text ∙ ap (λ text. text ++ router_text all) empty
