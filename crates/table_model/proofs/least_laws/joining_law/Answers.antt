use Rattle.table_model.proofs.Join.{table_join, root_join, low_join, high_join}
use Rattle.std.proofs.Common.{add-one}
use Rattle.table_model.proofs.least_laws.joining_law.Goals as goal

pub returns : goal.returns
returns c = λ o w L M h k. (rw add-one (table_join o w L M h k), root_join o L M, low_join o L M, high_join o L M)
