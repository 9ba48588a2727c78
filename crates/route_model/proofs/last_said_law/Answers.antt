use Rattle.route_model.proofs.Said.{last_is_said}
use Rattle.route_model.proofs.last_said_law.Goals as goal

pub returns : goal.returns
returns c = last_is_said
