use Rattle.kept_model.proofs.Told.{run_sum}
use Rattle.kept_model.proofs.steady_feed_laws.told_sum_law.Goals as goal

pub returns : goal.returns
returns c = λ steady every hops held elems h e. run_sum steady every hops held elems e
