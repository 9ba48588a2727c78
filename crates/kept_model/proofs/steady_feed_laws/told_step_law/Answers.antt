use Rattle.kept_model.proofs.Told.{events_step}
use Rattle.kept_model.proofs.steady_feed_laws.told_step_law.Goals as goal

pub returns : goal.returns
returns c = λ steady every hops held T elems elem. events_step steady every hops elem held T elems
