use Rattle.table_model.proofs.Sums.{in_order_again, in_order_sorted}
use Rattle.table_model.proofs.Moves.{in_order_moves}
use Rattle.table_model.proofs.table_laws.entry_order_law.Goals as goal

pub returns : goal.returns
returns c = record { sorted = in_order_sorted; same = in_order_moves; again = in_order_again }
