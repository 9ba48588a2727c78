use Rattle.kept_model.proofs.Settling.{settled_after}
use Rattle.kept_model.proofs.stays_laws.change_law.Goals as goal

pub returns : goal.returns
returns c = settled_after
