-- The engine in the world of a load and updates.
use Rattle.std.specs.Prelude.{◌≡◌, ℕ, List, [], ◌++◌, None, length}
use Rattle.std.specs.List.{AllByRecursion}
use Rattle.route_model.specs.Events.{Elem}
use Rattle.route_model.specs.Choice.{IsElem}
use Rattle.kept_model.specs.Feed.{full_at, hops_after}
use Rattle.fib_engine.specs.Held.{EngineState}
use Rattle.fib_engine.specs.Stands.{EngineStands}
use Rattle.step_script.specs.Machine.{World}
use Rattle.router_steps.specs.World.{steps_world}

-- Of the world's updates these elementary events are still to come, and n were taken, none of which brought one hop too many: the engine
-- stands after them.
pub record IsEngineAt (w : World) (n : ℕ) (held : EngineState) (rest : List Elem) : Type 0 where
  pub load : List Elem
  pub done : List Elem
  pub proper : AllByRecursion IsElem (done ++ rest)
  pub stands : EngineStands load done held
  pub room : full_at (hops_after [] load) done ≡ None
  pub many : length done ≡ n
  pub world : w ≡ steps_world held.sizes load (done ++ rest)
