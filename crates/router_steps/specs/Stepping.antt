-- What a run in steps is to make, and what comes of it.
use Rattle.std.specs.Prelude.{◌≡◌, ℕ, List, []}
use Rattle.route_model.specs.Events.{Elem, Event}
use Rattle.route_model.specs.Choice.{after_elems, elems_after}
use Rattle.route_tries.specs.Sizes.{Sizes}
use Rattle.step_script.specs.Script.{Step}
use Rattle.step_script.specs.Rows.{StepRow, rows_text}
use Rattle.step_script.specs.Machine.{World, State, Runs, at_first}
use Rattle.router_steps.specs.World.{steps_world}

-- the steps of a script, and the world in which they are made
pub record Stepping : Type 0 where
  pub script : List Step
  pub world : World

-- the world of the load's elementary events and the events that come after them
abbrev pub world_of : Sizes → List Elem → List Event → World
world_of z load events = steps_world z load (elems_after (after_elems [] load) events)

-- the text is that of the rows of a run over the whole script
abbrev pub IsTextOf : Stepping → List ℕ → Type 0
IsTextOf s text = (rows : List StepRow) × (t : State) × Runs s.world at_first s.script rows t × (text ≡ rows_text 1 rows)
