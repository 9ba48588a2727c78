use Rattle.cert_model.proofs.Verdicts.{verdict_law}
use Rattle.cert_model.proofs.verdict_law.Goals as goal

pub returns : goal.returns
returns c = verdict_law
