use Rattle.table_model.proofs.Order.{kept_law}
use Rattle.table_model.proofs.least_laws.kept_law.Goals as goal

pub returns : goal.returns
returns c = kept_law
