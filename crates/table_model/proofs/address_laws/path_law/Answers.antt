use Rattle.table_model.proofs.Ordered.{path_order}
use Rattle.table_model.proofs.address_laws.path_law.Goals as goal

pub returns : goal.returns
returns c = path_order
