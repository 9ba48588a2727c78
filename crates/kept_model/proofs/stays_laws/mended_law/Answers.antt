use Rattle.kept_model.proofs.Settling.{settled_mended}
use Rattle.kept_model.proofs.stays_laws.mended_law.Goals as goal

pub returns : goal.returns
returns c = settled_mended
