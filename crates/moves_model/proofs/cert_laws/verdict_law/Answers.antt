use Rattle.moves_model.proofs.Verdicts.{verdict_law}
use Rattle.moves_model.proofs.cert_laws.verdict_law.Goals as goal

pub returns : goal.returns
returns c = verdict_law
