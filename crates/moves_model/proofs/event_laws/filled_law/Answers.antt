use Rattle.moves_model.proofs.Within.{filled_event, filled_half, filled_here}
use Rattle.moves_model.proofs.event_laws.filled_law.Goals as goal

pub returns : goal.returns
returns c = record { event = filled_event; half = filled_half; here = filled_here }
