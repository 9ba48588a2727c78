use Rattle.moves_model.proofs.Way.{clear_set, open_set}
use Rattle.moves_model.proofs.event_laws.way_law.Goals as goal

pub returns : goal.returns
returns c = record { clear = clear_set; held = open_set }
