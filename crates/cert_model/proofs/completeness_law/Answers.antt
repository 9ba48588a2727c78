use Rattle.cert_model.proofs.Postorder.{completeness_law}
use Rattle.cert_model.proofs.completeness_law.Goals as goal

pub returns : goal.returns
returns c = completeness_law
