use Rattle.kept_model.proofs.Goes.{steady}
use Rattle.kept_model.proofs.steady_laws.steady_law.Goals as goal

pub returns : goal.returns
returns c = steady
