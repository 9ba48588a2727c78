use Rattle.moves_model.proofs.Event.{event_off, event_turn, event_within, turn_on, event_mark, event_kept}
use Rattle.moves_model.proofs.event_laws.event_way_law.Goals as goal

pub returns : goal.returns
returns c = record { off = event_off; turn = event_turn; within = event_within; way = turn_on; mark = event_mark; kept = event_kept }
