use Rattle.table_model.proofs.Laws.{cost_law}
use Rattle.table_model.proofs.least_laws.cost_law.Goals as goal

pub returns : goal.returns
returns c = cost_law
