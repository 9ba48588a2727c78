use Rattle.table_model.proofs.Laws.{fresh_law}
use Rattle.table_model.proofs.least_laws.fresh_law.Goals as goal

pub returns : goal.returns
returns c = fresh_law
