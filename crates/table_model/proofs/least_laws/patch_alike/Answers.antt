use Rattle.table_model.proofs.Patch.{patch_table, patch_alike}
use Rattle.table_model.proofs.least_laws.patch_alike.Goals as goal

pub returns : goal.returns
returns c = λ w T R p s h e. (patch_table w T R p s h, patch_alike w T R p e)
