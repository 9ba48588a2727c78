use Rattle.moves_model.proofs.Within.{covers_all, covers_not}
use Rattle.moves_model.proofs.event_laws.fills_law.Goals as goal

pub returns : goal.returns
returns c = record { all = covers_all; some = covers_not }
