use Rattle.kept_model.proofs.Again.{stays_again}
use Rattle.kept_model.proofs.stays_laws.again_law.Goals as goal

pub returns : goal.returns
returns c = stays_again
