use Rattle.poptrie_set.proofs.Merging.{merged_table, merged_same}
use Rattle.poptrie_set.proofs.merged_laws.merged_law.Goals as goal

pub returns-clause-some : goal.returns-clause-some
returns-clause-some c = merged_table

pub returns-clause-same : goal.returns-clause-same
returns-clause-same c = merged_same
