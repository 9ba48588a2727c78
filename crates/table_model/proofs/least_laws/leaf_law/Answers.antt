use Rattle.table_model.proofs.Laws.{set_leaf, k_leaf}
use Rattle.table_model.proofs.least_laws.leaf_law.Goals as goal

pub returns : goal.returns
returns c = λ w R p h s e. (set_leaf w R p h s e, k_leaf w R p h s e)
