-- One line after another.
use Rattle.std.proofs.Common.{◌≡◌, ℕ, ◌+◌, ◌≤◌, List, [], ◌∷◌, false, Result, Ok, Err, length, map, refl, sym, ap, subst, ◌∙◌}
use Rattle.std.specs.Prelude.{◌==◌}
use Rattle.octet_fields.specs.Field.{◌>>=◌}
use Rattle.bstr.specs.Text.{without_terminator, lines_of as cut_lines}
use Rattle.table_model.specs.Address.{Address}
use Rattle.table_model.specs.Changes.{Change}
use Rattle.cert_model.specs.Rows.{CertRow}
use Rattle.fib_addr.specs.Hops.{Hops, most_hops}
use Rattle.fib_delta.specs.Views.{change_as}
use Rattle.cert_model.specs.Views.{row_as}
use Rattle.printed_text.specs.Reading.{line_in}
use Rattle.printed_text.specs.declared.error.PrintedError.{PrintedError}
use Rattle.printed_text.specs.declared.error.PrintedError.TheVariants as error
use Rattle.printed_text.specs.Steps.{TakesLine}
use Rattle.printed_text.proofs.LinesTaken.{Left, Way, starts, whole_text, wrong_line}
use Rattle.router_moves.specs.declared.read.PrintedMoves.{PrintedMoves}
use Rattle.router_moves.specs.Said.{SaidMoves, moves_hops, said_in, said_moves}
use Rattle.router_moves.specs.Steps.{said_after}
use Rattle.router_moves.specs.SaidViews.{IsSaid, said_moves_as}
use Rattle.router_moves.proofs.Numbers.{moves_more}

abbrev pub moves_way : List Address → Way SaidMoves
moves_way before = record { hops = moves_hops before; kept = said_moves before; after = said_after; hops_of = λ s. s.hops; more = moves_more before; same = λ rows. refl }

abbrev made : List Address → List Change → List CertRow → SaidMoves
made hops changes rows = record { changes = changes; rows = rows; hops = hops }

pub moves_start : (said : PrintedMoves) (hops : Hops) (text : List ℕ) (lines : List (List ℕ)) → said.changes.items ≡ [] → said.rows.items ≡ [] → length hops.list ≤ most_hops → lines ≡ map without_terminator (cut_lines text)
    → Left (moves_way hops.list) (said_moves_as said hops) 0 lines (whole_text (moves_way hops.list) text)
moves_start said hops text lines c r few l =
    starts (moves_way hops.list) text (said_moves_as said hops) lines (ap (λ cs. made hops.list (map change_as cs) (map row_as said.rows.items)) c ∙ ap (λ rows. made hops.list [] (map row_as rows)) r) few l

pub bad_moves_line : (before : List Address) (e : PrintedError) (s : Result PrintedMoves PrintedError) (hops : Hops) (old new : SaidMoves) (n : ℕ) (line : List ℕ) (lines left : List (List ℕ)) (text : List ℕ)
    → lines ≡ line ∷ left → false ≡ (length line == 0) → s ≡ Err e → TakesLine {A = Unit {0}} said_after (λ m. m.hops) (Err e) old new (n + 1) (line_in line) → Left (moves_way before) old n lines (whole_text (moves_way before) text) → IsSaid s hops (said_in before text)
bad_moves_line before error.NoMemory s hops old new n line lines left text le t se taken l = subst (λ x. IsSaid x hops (said_in before text)) (sym se) tt
bad_moves_line before (error.BadRow bad) s hops old new n line lines left text le t se taken l =
    subst (λ x. IsSaid x hops (said_in before text)) (sym se)
    (ap (λ read. read >>= λ rows. Ok (said_moves before rows)) (wrong_line (moves_way before) (record { line = bad.line; why = bad.why }) old n line lines left (whole_text (moves_way before) text) le t taken.0 taken.1 l))
