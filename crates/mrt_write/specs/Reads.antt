-- What octets are read as.
use Rattle.std.specs.Prelude.{◌≡◌, ℕ, List, [], ◌++◌, Ok}
use Rattle.route_model.specs.Events.{Event}
use Rattle.route_model.specs.Choice.{Candidates, after_elems, elems_after}
use Rattle.wire_model.specs.Input.{Progress, input}

-- the candidates after events
abbrev pub after_events : Candidates → List Event → Candidates
after_events held events = after_elems held (elems_after held events)

-- Read as a dump, these octets break no rule, none of them is skipped or treated as a withdrawal, and after their events the candidates are exactly these.
-- So, whatever is said later, the candidates are the same after these octets as after anything that led to these candidates.
pub record ReadsAs (octets : List ℕ) (held : Candidates) : Type 0 where
  pub read : Progress
  pub accepted : input octets ≡ Ok read
  pub none_skipped : read.skipped ≡ 0
  pub none_treated : read.treated ≡ 0
  pub again : after_events [] read.events ≡ held
  pub replay : (said later : List Event) → after_events [] said ≡ held → after_events [] (read.events ++ later) ≡ after_events [] (said ++ later)
