use Rattle.cert_model.proofs.Renamed.{renaming_law}
use Rattle.cert_model.proofs.renaming_law.Goals as goal

pub returns : goal.returns
returns c = renaming_law
