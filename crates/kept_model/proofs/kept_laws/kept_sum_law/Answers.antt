use Rattle.kept_model.proofs.FeedSums.{all}
use Rattle.kept_model.proofs.kept_laws.kept_sum_law.Goals as goal

pub returns : goal.returns
returns c = λ every hops held elems a h. all every hops held elems h
