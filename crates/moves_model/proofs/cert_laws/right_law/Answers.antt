use Rattle.moves_model.proofs.Rules.{bound_is}
use Rattle.moves_model.proofs.cert_laws.right_law.Goals as goal

pub returns : goal.returns
returns c = bound_is
