use Rattle.std.proofs.Common.{refl}
use Rattle.fib_run.proofs.Stands.{stands_new}
use Rattle.fib_run.proofs.state.State.new.Goals as goal

pub returns-clause-stands : goal.returns-clause-stands
returns-clause-stands c = stands_new _ _ c.new.ensures refl refl c.new-2.ensures c.new-3.ensures.items c.new-4.ensures.items
