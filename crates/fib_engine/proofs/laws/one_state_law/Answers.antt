use Rattle.fib_engine.proofs.Alike.{one_state}
use Rattle.fib_engine.proofs.laws.one_state_law.Goals as goal

pub returns : goal.returns
returns c = one_state
