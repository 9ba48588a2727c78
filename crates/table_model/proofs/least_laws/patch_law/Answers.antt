use Rattle.table_model.proofs.Same.{patch_keeps, patch_repairs}
use Rattle.table_model.proofs.least_laws.patch_law.Goals as goal

pub returns : goal.returns
returns c = record { keeps = patch_keeps; repairs = patch_repairs }
