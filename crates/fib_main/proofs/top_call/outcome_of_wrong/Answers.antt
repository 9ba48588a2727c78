use Rattle.fib_due.proofs.Untold.{ends_differing, ends_refuting}
use Rattle.fib_main.proofs.top_call.outcome_of_wrong.Goals as goal

pub returns-in-Differ : goal.returns-in-Differ
returns-in-Differ c = ends_differing _ c.in-Differ.difference c.in-Differ.is

pub returns-in-MovesNo : goal.returns-in-MovesNo
returns-in-MovesNo c = ends_refuting _ c.in-MovesNo.wrong c.in-MovesNo.is
