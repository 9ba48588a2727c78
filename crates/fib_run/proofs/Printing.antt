-- What a run prints is a text that a check says yes to.
use Rattle.std.proofs.Common.{◌≡◌, ℕ, ◌≤◌, List, [], ◌∷◌, ◌++◌, Option, Result, Ok, Err, length, map, sym, ap, subst, ◌∙◌, append_assoc}
use Rattle.std.specs.Prelude.{flat_map}
use Rattle.std.specs.List.{AllByRecursion}
use Rattle.table_model.specs.Address.{Address}
use Rattle.table_model.specs.Changes.{Change, Add, Replace, Remove}
use Rattle.table_model.specs.Entries.{Entries}
use Rattle.table_model.specs.Both.{aggregate_in_both}
use Rattle.cert_model.specs.Rows.{CertRow, certificate_of}
use Rattle.cert_model.specs.Right.{IsCertificate}
use Rattle.cert_model.proofs.Verdicts.{verdict_from}
use Rattle.route_model.specs.Events.{Elem}
use Rattle.route_model.specs.Choice.{Candidates, IsElem, after_elems}
use Rattle.route_model.proofs.Elems.{candidates_stay}
use Rattle.route_model.proofs.Said.{none_yet}
use Rattle.kept_model.specs.Feed.{entries_of, hops_after}
use Rattle.kept_model.proofs.Numbers.{hops_distinct, entries_have}
use Rattle.kept_model.proofs.Tables.{entries_sorted}
use Rattle.fib_addr.specs.Hops.{most_hops}
use Rattle.printed_text.specs.Rows.{PrintedRow, IsRow, text_of as rows_text}
use Rattle.printed_text.specs.Numbered.{of_route, of_least, of_cert, IsOther, Proves, rows_with}
use Rattle.printed_text.specs.Used.{printed_in, used_of}
use Rattle.printed_text.proofs.Few.{printed_read}
use Rattle.printed_text.proofs.Renamed.{printed_proves}
use Rattle.fib_report.specs.Views.{Answer, Told}
use Rattle.fib_report.specs.Rows.{change_row, of_answer, of_change, of_invalid, of_moves, table_entry_row, printed_rows, report_rows}
use Rattle.fib_words.specs.Commands.{Named, Asked, Run}
use Rattle.fib_run.specs.declared.report.InputCounts.{InputCounts}
use Rattle.fib_run.specs.declared.state.State.{State}
use Rattle.fib_due.specs.Refusals.{Limits}
use Rattle.fib_due.specs.Due.{Feed, Printed, kept_of, output_at, printed, ran, run_at, printed_text, with_text}
use Rattle.fib_due.specs.Proves.{ChecksYes, IfRan, PrintsYes}
use Rattle.fib_run.specs.Standing.{IsFed}
use Rattle.fib_due.specs.Stops.{Stop, Untold, Refused, LongPath, IsDueIfTold}
use Rattle.fib_due.proofs.Certifying.{certified_least}

-- ---- the rows

-- rows of routes, others, those of the least table and of its certificate, and others at the end
parted : {A : Type 0} (r i c m a t l e p : List A) → r ++ i ++ c ++ m ++ a ++ t ++ l ++ e ++ p ≡ r ++ ((i ++ c ++ m ++ a ++ t) ++ (l ++ (e ++ p)))
parted r i c m a t l e p =
    append_assoc (r ++ i ++ c ++ m ++ a ++ t ++ l) e p
    ∙ (append_assoc (r ++ i ++ c ++ m ++ a ++ t) l (e ++ p)
    ∙ (ap (λ xs. xs ++ m ++ a ++ t ++ (l ++ (e ++ p))) (append_assoc r i c)
    ∙ (ap (λ xs. xs ++ a ++ t ++ (l ++ (e ++ p))) (append_assoc r (i ++ c) m)
    ∙ (ap (λ xs. xs ++ t ++ (l ++ (e ++ p))) (append_assoc r (i ++ c ++ m) a)
    ∙ (ap (λ xs. xs ++ (l ++ (e ++ p))) (append_assoc r (i ++ c ++ m ++ a) t) ∙ append_assoc r (i ++ c ++ m ++ a ++ t) (l ++ (e ++ p)))))))

all_other : {X : Type 0} (f : X → PrintedRow) → ((x : X) → IsOther (f x)) → (xs : List X) → AllByRecursion IsOther (map f xs)
all_other f o [] = tt
all_other f o (x ∷ xs) = (o x, all_other f o xs)

both_other : (xs ys : List PrintedRow) → AllByRecursion IsOther xs → AllByRecursion IsOther ys → AllByRecursion IsOther (xs ++ ys)
both_other [] ys a b = b
both_other (x ∷ xs) ys a b = (a.0, both_other xs ys a.1 b)

change_other : (hops : List Address) (event : ℕ) (c : Change) → IsOther (change_row hops event c)
change_other hops event (Add p h) = tt
change_other hops event (Replace p h) = tt
change_other hops event (Remove p) = tt

answers_other : (hops : List Address) (answers : List Answer) → AllByRecursion IsOther (flat_map (of_answer hops) answers)
answers_other hops [] = tt
answers_other hops (a ∷ answers) = (tt, (tt, answers_other hops answers))

between_other : (hops : List Address) (told : Told) → AllByRecursion IsOther (map of_invalid told.invalid ++ map (of_change hops) told.changes ++ map of_moves told.moves ++ flat_map (of_answer hops) told.answers ++ map (table_entry_row hops) told.table)
between_other hops told =
    let I : List PrintedRow = map of_invalid told.invalid in
    let C : List PrintedRow = map (of_change hops) told.changes in
    let N : List PrintedRow = map of_moves told.moves in
    let A : List PrintedRow = flat_map (of_answer hops) told.answers in
    both_other (I ++ C ++ N ++ A) (map (table_entry_row hops) told.table)
    (both_other (I ++ C ++ N) A (both_other (I ++ C) N (both_other I C (all_other of_invalid (λ x. tt) told.invalid) (all_other (of_change hops) (λ c. change_other hops c.0 c.1) told.changes)) (all_other of_moves (λ m. tt) told.moves)) (answers_other hops told.answers))
    (all_other (table_entry_row hops) (λ e. tt) told.table)

-- ---- the text

all_elems : (xs ys : List Elem) → AllByRecursion IsElem xs → AllByRecursion IsElem ys → AllByRecursion IsElem (xs ++ ys)
all_elems [] ys a b = b
all_elems (x ∷ xs) ys a b = (a.0, all_elems xs ys a.1 b)

pub checks_yes : (limits : Limits) (load updates : Feed) (fed : InputCounts) (state : State) (asks numbered : List Address) (run : Told) (text : List ℕ) → IsFed limits load updates fed state → run ≡ (printed limits load updates asks).told
    → numbered ≡ state.engine.hops → AllByRecursion IsRow (printed_rows numbered run) → text ≡ printed_text (printed limits load updates asks) → ChecksYes text
checks_yes limits load updates fed state asks numbered run text f r n proper e =
    let elems : List Elem = load.elems ++ updates.elems in
    let hops : List Address = hops_after [] elems in
    let held : Candidates = after_elems [] elems in
    let told : Told = (printed limits load updates asks).told in
    let R : Entries = entries_of hops held in
    let K : Entries = kept_of limits.fewest limits.every hops load.elems updates.elems in
    let T : Entries = aggregate_in_both R K in
    let C : List CertRow = certificate_of R in
    let between : List PrintedRow = map of_invalid told.invalid ++ map (of_change hops) told.changes ++ map of_moves told.moves ++ flat_map (of_answer hops) told.answers ++ map (table_entry_row hops) told.table in
    let after : List PrintedRow = report_rows told.report in
    let s = f.has.stands in
    let few : length hops ≤ most_hops = subst (λ h. length h ≤ most_hops) s.engine.hops s.few in
    let proper_all : AllByRecursion IsElem elems = all_elems load.elems updates.elems s.engine.proper.0 s.engine.proper.1 in
    let cert : IsCertificate R T C = certified_least R K (entries_sorted hops held (candidates_stay [] elems none_yet proper_all)) in
    let others = between_other hops told in
    let same : printed_rows hops told ≡ rows_with hops R T C between after =
    parted (flat_map (of_route hops) R) (map of_invalid told.invalid) (map (of_change hops) told.changes) (map of_moves told.moves) (flat_map (of_answer hops) told.answers) (map (table_entry_row hops) told.table) (map (of_least hops) T) (map (of_cert hops) C) after
    in
    let all : AllByRecursion IsRow (rows_with hops R T C between after) =
    subst (AllByRecursion IsRow) same (subst (λ h. AllByRecursion IsRow (printed_rows h told)) (n ∙ s.engine.hops) (subst (λ x. AllByRecursion IsRow (printed_rows numbered x)) r proper))
    in
    let right : Proves (used_of (rows_with hops R T C between after)) =
    printed_proves hops R T C between after (hops_distinct elems) (entries_have elems) others (tt, (tt, (tt, (tt, (tt, (tt, (tt, (tt, tt)))))))) cert
    in
    record {
      used = used_of (rows_with hops R T C between after);
      read = ap printed_in (e ∙ ap rows_text same) ∙ printed_read hops R T C between after few others (tt, (tt, (tt, (tt, (tt, (tt, (tt, (tt, tt)))))))) all;
      certified = right;
      yes = verdict_from _ _ _ right;
    }

-- ---- where a run is due

abbrev fine : {A : Type 0} → A → Result A Stop
fine x = Ok x

same_fine : {A : Type 0} (x y : A) → fine x ≡ fine y → x ≡ y
same_fine x y e = cc

pub run_yes : (content : List ℕ → Option (List ℕ)) (named : Named) (asked : Asked) (text : List ℕ) → asked ≡ Run named → IsDueIfTold (with_text (run_at content named)) (Ok text) → ChecksYes text → IfRan (output_at content asked) PrintsYes
unfolding output_at
run_yes content named asked text a i says = rw a (by_run (run_at content named) i)
  where
    by_run : (d : Result Printed Stop) → IsDueIfTold (with_text d) (fine text) → IfRan (ran d) PrintsYes
    by_run (Ok p) i = subst ChecksYes (sym (same_fine (printed_text p) text i)) says
    by_run (Err Untold) i = tt
    by_run (Err (Refused o)) i = tt
    by_run (Err (LongPath p n)) i = tt
