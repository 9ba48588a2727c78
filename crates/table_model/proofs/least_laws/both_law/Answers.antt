use Rattle.table_model.proofs.Both.{aggregate_in_is, aggregates_are, aggregates_sorted, aggregates_one}
use Rattle.table_model.proofs.least_laws.both_law.Goals as goal

pub returns : goal.returns
returns c = record { family = aggregate_in_is; aggregate = aggregates_are; order = aggregates_sorted; one = aggregates_one }
