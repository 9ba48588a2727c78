use Rattle.table_model.proofs.Cut.{lpm_cut}
use Rattle.table_model.proofs.table_laws.cutting_law.Goals as goal

pub returns : goal.returns
returns c = lpm_cut
