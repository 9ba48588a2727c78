use Rattle.table_model.proofs.Laws.{best_law}
use Rattle.table_model.proofs.least_laws.best_law.Goals as goal

pub returns : goal.returns
returns c = best_law
