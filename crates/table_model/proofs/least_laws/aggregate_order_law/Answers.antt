use Rattle.table_model.proofs.Order.{aggregate_order, order_one}
use Rattle.table_model.proofs.Both.{sorted_table}
use Rattle.table_model.proofs.least_laws.aggregate_order_law.Goals as goal

pub returns : goal.returns
returns c = record { aggregate = aggregate_order; one = order_one; entries = λ f L t. sorted_table f L t.1 }
