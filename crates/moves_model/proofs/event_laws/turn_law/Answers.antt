use Rattle.moves_model.proofs.Loop.{turn_start, turn_step, turn_end}
use Rattle.moves_model.proofs.event_laws.turn_law.Goals as goal

pub returns : goal.returns
returns c = record { start = turn_start; step = turn_step; end = turn_end }
