-- What a run in steps gets of its dump, and what a refusal of its steps is among all outcomes.
use Rattle.std.specs.Prelude.{◌≡◌, [], Result, Ok, Err}
use Rattle.route_tries.specs.Sizes.{Sizes}
use Rattle.fib_engine.specs.Held.{EngineState}
use Rattle.fib_engine.specs.Stands.{EngineStands}
use Rattle.router_steps.specs.declared.error.StepError.{StepError}
use Rattle.router_steps.specs.declared.error.StepError.TheVariants as step
use Rattle.fib_due.specs.declared.outcome.Outcome.{Outcome}
use Rattle.fib_due.specs.declared.outcome.Outcome.TheVariants.{NoMemory, HopsFull, TrieFull}
use Rattle.fib_due.specs.Stops.{Stop, IsDueIfTold, FailsDue}
use Rattle.fib_due.specs.Due.{Feed}
use Rattle.fib_due.specs.Stepped.{arena_of}

-- the engine has what the dump brings, at the end of the load, and tries of these sizes; but for faults and running out of memory
abbrev pub GivesLoad : Sizes → Result EngineState Outcome → Result Feed Stop → Type 0
GivesLoad z (Ok engine) due = (load : Feed) × EngineStands load.elems [] engine × (engine.sizes ≡ z) × IsDueIfTold due (Ok load)
GivesLoad z (Err o) due = FailsDue o due

-- a refusal of a step as an outcome
abbrev pub of_step : StepError → Outcome
of_step (step.HopsFull event) = HopsFull event
of_step (step.TrieFull event f full) = TrieFull event full.need full.have (arena_of f full.arena)
of_step step.NoMemory = NoMemory
