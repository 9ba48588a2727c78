use Rattle.table_model.proofs.Laws.{cost_halves}
use Rattle.table_model.proofs.least_laws.halves_law.Goals as goal

pub returns : goal.returns
returns c = cost_halves
