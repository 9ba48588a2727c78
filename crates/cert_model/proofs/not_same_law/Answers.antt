use Rattle.cert_model.proofs.Differing.{same_law, says}
use Rattle.cert_model.proofs.not_same_law.Goals as goal

pub returns : goal.returns
returns c = record { none = same_law; some = says }
