use Rattle.table_model.proofs.Patch.{patch_least}
use Rattle.table_model.proofs.least_laws.patch_least.Goals as goal

pub returns : goal.returns
returns c = patch_least
