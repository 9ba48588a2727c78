use Rattle.table_model.proofs.Patch.{aggregate_entry}
use Rattle.table_model.proofs.least_laws.entry_law.Goals as goal

pub returns : goal.returns
returns c = aggregate_entry
