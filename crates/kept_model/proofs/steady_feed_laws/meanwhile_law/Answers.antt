use Rattle.kept_model.proofs.Events.{meanwhile}
use Rattle.kept_model.proofs.steady_feed_laws.meanwhile_law.Goals as goal

pub returns : goal.returns
returns c = meanwhile
