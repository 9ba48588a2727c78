use Rattle.table_model.proofs.Laws.{set_join, k_join}
use Rattle.table_model.proofs.least_laws.join_law.Goals as goal

pub returns : goal.returns
returns c = λ w R p s. (set_join w R p s, k_join w R p s)
