use Rattle.table_model.proofs.Cut.{length_cut}
use Rattle.table_model.proofs.table_laws.parts_law.Goals as goal

pub returns : goal.returns
returns c = length_cut
