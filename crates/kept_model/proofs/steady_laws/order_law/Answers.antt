use Rattle.kept_model.proofs.Goes.{same_changes, changes_in_turn}
use Rattle.kept_model.proofs.steady_laws.order_law.Goals as goal

pub returns : goal.returns
returns c = record { same = same_changes; turns = changes_in_turn }
