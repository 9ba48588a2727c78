use Rattle.kept_model.proofs.FeedSteps.{snapshot_is}
use Rattle.kept_model.proofs.kept_laws.snapshot_law.Goals as goal

pub returns : goal.returns
returns c = snapshot_is
