use Rattle.table_model.proofs.Sums.{sum_of-additions}
use Rattle.table_model.proofs.table_laws.sum_law.Goals as goal

pub returns : goal.returns
returns c = sum_of-additions
