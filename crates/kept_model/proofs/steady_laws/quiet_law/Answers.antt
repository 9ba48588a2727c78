use Rattle.kept_model.proofs.Goes.{quiet}
use Rattle.kept_model.proofs.steady_laws.quiet_law.Goals as goal

pub returns : goal.returns
returns c = quiet
