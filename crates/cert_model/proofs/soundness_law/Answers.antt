use Rattle.cert_model.proofs.Rules.{soundness_law}
use Rattle.cert_model.proofs.soundness_law.Goals as goal

pub returns : goal.returns
returns c = soundness_law
