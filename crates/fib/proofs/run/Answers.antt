use Rattle.std.proofs.Common.{◌∙◌}
use Rattle.fib.proofs.run.Goals as goal

pub returns : goal.returns
returns g c = record { outcome = c.outcome_of-outcome.result; ends = c.outcome_of-outcome.ensures; is_status = c.from.ensures ∙ c.status.ensures }
