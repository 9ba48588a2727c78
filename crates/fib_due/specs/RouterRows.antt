-- The rows that say what a router must change.
use Rattle.std.specs.Prelude.{ℕ, List, ◌∷◌, ◌++◌, length, map}
use Rattle.kept_model.specs.Feed.{at_event}
use Rattle.printed_text.specs.Rows.{PrintedRow, moves_row, text_of}
use Rattle.printed_text.specs.Numbered.{of_cert}
use Rattle.fib_report.specs.Rows.{of_change}
use Rattle.router_moves.specs.Due.{ShortestMoves}

-- the changes, as those of event 1, how many there are, and the rows that prove that no fewer would do
abbrev pub router_rows : ShortestMoves → List PrintedRow
router_rows m = map (of_change m.hops) (at_event 1 m.changes) ++ (moves_row 1 (length m.changes) ∷ map (of_cert m.hops) m.rows)

-- their text
abbrev pub router_text : ShortestMoves → List ℕ
router_text m = text_of (router_rows m)
