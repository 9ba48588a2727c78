use Rattle.table_model.proofs.Patch.{aggregate_is, aggregate_fixed}
use Rattle.table_model.proofs.least_laws.aggregate_law.Goals as goal

pub returns : goal.returns
returns c = record { one = aggregate_fixed; is = aggregate_is }
