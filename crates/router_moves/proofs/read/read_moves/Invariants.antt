use Rattle.printed_text.proofs.LinesTaken.{Left, whole_text}
use Rattle.router_moves.specs.SaidViews.{said_moves_as}
use Rattle.router_moves.proofs.Reading.{moves_way}
use Rattle.router_moves.proofs.read.read_moves.Given as goal

abbrev pub invariant-loop-line : goal.invariant-loop-line
invariant-loop-line l = Left (moves_way l.fn.hops.list) (said_moves_as l.said l.hops) l.number l.line-iterator (whole_text (moves_way l.fn.hops.list) l.fn.text)
