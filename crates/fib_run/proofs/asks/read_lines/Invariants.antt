use Rattle.std.specs.Prelude.{map}
use Rattle.fib_addr.specs.Views.{addr_as}
use Rattle.printed_text.specs.Texts.{line_texts}
use Rattle.fib_run.proofs.AskLemmas.{Left}
use Rattle.fib_run.proofs.asks.read_lines.Given as goal

abbrev pub invariant-loop-line : goal.invariant-loop-line
invariant-loop-line l = Left (map addr_as l.fn.asks.items) l.fn.lines (line_texts l.fn.text) (map addr_as l.asks.items) l.lines l.line-iterator
