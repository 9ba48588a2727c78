use Rattle.cert_model.proofs.Verdicts.{twice_law}
use Rattle.cert_model.proofs.twice_law.Goals as goal

pub returns : goal.returns
returns c = twice_law
