use Rattle.table_model.proofs.Laws.{region_law}
use Rattle.table_model.proofs.least_laws.region_law.Goals as goal

pub returns : goal.returns
returns c = region_law
