use Rattle.std.proofs.Common.{[], subst}
use Rattle.fib_due.specs.declared.outcome.MrtInput.TheVariants.{Dump}
use Rattle.fib_run.specs.Standing.{StateStands}
use Rattle.fib_due.specs.declared.outcome.Which.TheVariants as which
use Rattle.fib_run.proofs.run.made_for.Goals as goal

pub take_made-requires-clause-stands : goal.take_made-requires-clause-stands
take_made-requires-clause-stands c = subst (λ l. StateStands Dump l [] [] c.new-state.result) c.limits_of.ensures c.new-state.ensures.stands

pub returns-in_default-clause-stops : goal.returns-in_default-clause-stops
returns-in_default-clause-stops c = (which.Dump, tt, tt)
