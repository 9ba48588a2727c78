use Rattle.kept_model.proofs.Sums.{made}
use Rattle.kept_model.proofs.between_laws.sum_law.Goals as goal

pub returns : goal.returns
returns c = made
