use Rattle.route_model.proofs.Elems.{candidates_stay, elems_of_event, elems_of_events, elems_more}
use Rattle.route_model.proofs.events_law.Goals as goal

pub returns : goal.returns
returns c = record { stay = candidates_stay; one = elems_of_event; all = elems_of_events; more = elems_more }
