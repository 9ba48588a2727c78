use Rattle.std.proofs.Common.{◌≡◌, ◌+◌, ◌≤◌, List, length}
use Rattle.fib_addr.specs.Hops.{most_hops}
use Rattle.printed_text.specs.Rows.{PrintedRow}
use Rattle.printed_text.specs.Texts.{line_texts}
use Rattle.printed_text.specs.Used.{used_of}
use Rattle.printed_text.specs.Printed.{printed_as}
use Rattle.printed_text.proofs.LinesTaken.{Left, lines_behind, printed_way}
use Rattle.printed_text.proofs.printed.Printed.take_lines.Given as goal

abbrev pub invariant-loop-line : goal.invariant-loop-line
invariant-loop-line l = record {
  few : length l.self.hops.list ≤ most_hops;
  count : l.number + length l.line-iterator ≡ l.lines + length (line_texts l.fn.text);
  left : (rows : List PrintedRow) → printed_as l.fn.self ≡ used_of rows → Left printed_way (printed_as l.self) l.number l.line-iterator (lines_behind printed_way rows l.lines (line_texts l.fn.text));
}
