use Rattle.printed_text.specs.Printed.{kind_as}
use Rattle.printed_text.proofs.LinesTaken.{Left, kind_way, whole_text}
use Rattle.printed_text.proofs.kind_rows.read_rows.Given as goal

abbrev pub invariant-loop-line : goal.invariant-loop-line
invariant-loop-line l = Left (kind_way l.fn.kind l.fn.hops.list) (kind_as l.entries l.hops) l.number l.line-iterator (whole_text (kind_way l.fn.kind l.fn.hops.list) l.fn.text)
