use Rattle.moves_model.proofs.Reported.{run_sum}
use Rattle.moves_model.proofs.feed_laws.told_sum_law.Goals as goal

pub returns : goal.returns
returns c = run_sum
