use Rattle.table_model.proofs.Laws.{not_least}
use Rattle.table_model.proofs.least_laws.not_least_law.Goals as goal

pub returns : goal.returns
returns c = not_least
