use Rattle.route_model.proofs.Choices.{routes_sorted, routes_hold, chosen_for-chosen}
use Rattle.route_model.proofs.routes_law.Goals as goal

pub returns : goal.returns
returns c = record { sorted = routes_sorted; held = routes_hold; hop = chosen_for-chosen }
