use Rattle.table_model.proofs.Families.{family_order}
use Rattle.table_model.proofs.address_laws.family_order_law.Goals as goal

pub returns : goal.returns
returns c = family_order
