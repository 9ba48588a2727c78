use Rattle.kept_model.proofs.Sorted.{one_order}
use Rattle.kept_model.proofs.steady_laws.sorted_law.Goals as goal

pub returns : goal.returns
returns c = λ cs ds s a p up. one_order cs ds s a p up
