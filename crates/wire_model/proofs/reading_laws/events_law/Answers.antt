use Rattle.wire_model.proofs.Told.{read_events, stopped_events, events_so_far}
use Rattle.wire_model.proofs.reading_laws.events_law.Goals as goal

pub returns : goal.returns
returns c = record { read = read_events; stopped = stopped_events; so_far = events_so_far }
