use Rattle.table_model.proofs.Laws.{bound_law}
use Rattle.table_model.proofs.least_laws.bound_law.Goals as goal

pub returns : goal.returns
returns c = bound_law
