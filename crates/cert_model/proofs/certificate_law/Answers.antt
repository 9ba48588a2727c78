use Rattle.cert_model.proofs.Rules.{certificate_law}
use Rattle.cert_model.proofs.certificate_law.Goals as goal

pub returns : goal.returns
returns c = certificate_law
