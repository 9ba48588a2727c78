use Rattle.route_model.proofs.Said.{none_yet, candidates_after}
use Rattle.route_model.proofs.order_law.Goals as goal

pub returns : goal.returns
returns c = record { start = none_yet; stay = candidates_after }
