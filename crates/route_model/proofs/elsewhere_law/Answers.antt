use Rattle.route_model.proofs.Elsewhere.{chosen_elsewhere}
use Rattle.route_model.proofs.elsewhere_law.Goals as goal

pub returns : goal.returns
returns c = chosen_elsewhere
