use Rattle.std.proofs.Common.{◌≡◌, ℕ, take, map}
use Rattle.table_model.specs.Entries.{Entries}
use Rattle.fib_addr.specs.Views.{addr_as}
use Rattle.fib_report.specs.Views.{answer_as}
use Rattle.route_tries.specs.Tries.{AreTriesOf}
use Rattle.fib_due.specs.Due.{answers_to}
use Rattle.fib_run.proofs.report.look_up_all.Given as goal

-- the answers so far are those of the addresses so far
abbrev pub invariant-loop-ask : goal.invariant-loop-ask
invariant-loop-ask g l = (s : ℕ) (routes : Entries) → AreTriesOf s routes l.tries → map answer_as l.answers.items ≡ answers_to s routes (map addr_as (take l.ask-index l.asks))
