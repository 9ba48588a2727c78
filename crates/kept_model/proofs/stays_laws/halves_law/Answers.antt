use Rattle.kept_model.proofs.Again.{stays_half}
use Rattle.kept_model.proofs.stays_laws.halves_law.Goals as goal

pub returns : goal.returns
returns c = stays_half
