use Rattle.cert_model.proofs.Verdicts.{not_least_law}
use Rattle.cert_model.proofs.not_least_law.Goals as goal

pub returns : goal.returns
returns c = not_least_law
