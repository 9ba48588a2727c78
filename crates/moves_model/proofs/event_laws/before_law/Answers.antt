use Rattle.moves_model.proofs.Event.{alike_beside}
use Rattle.moves_model.proofs.Within.{filled_gives}
use Rattle.moves_model.proofs.event_laws.before_law.Goals as goal

pub returns : goal.returns
returns c = record { beside = alike_beside; filled = filled_gives }
