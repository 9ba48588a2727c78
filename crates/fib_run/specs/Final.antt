-- What is left of a state once no more events come.
use Rattle.std.specs.Prelude.{◌≡◌, ℕ, ◌++◌, List, [], map, Option, Some, None, Result, Ok, Err}
use Rattle.table_model.specs.Changes.{Change, additions}
use Rattle.table_model.specs.Entries.{Entries}
use Rattle.kept_model.specs.Feed.{at_event}
use Rattle.route_model.specs.Events.{Elem}
use Rattle.fib_engine.specs.Held.{engine_routes}
use Rattle.fib_report.specs.Views.{moves_as}
use Rattle.fib_due.specs.declared.outcome.MrtInput.TheVariants.{Updates}
use Rattle.fib_due.specs.Refusals.{Limits}
use Rattle.fib_run.specs.declared.state.State.{State}
use Rattle.fib_run.specs.declared.report.InputCounts.{InputCounts}
use Rattle.fib_due.specs.Due.{feeds_at}
use Rattle.fib_due.specs.Stops.{FailsDue}
use Rattle.fib_due.specs.declared.outcome.Outcome.{Outcome}
use Rattle.fib_words.specs.Commands.{Named}
use Rattle.printed_text.specs.Rows.{Vrp}
use Rattle.fib_run.specs.declared.state.FinalState.{FinalState}
use Rattle.fib_run.specs.Told.{changes_as, told_changes, told_moves}
use Rattle.fib_run.specs.Standing.{FeedsBoth, StateStands}

-- what the load added: the entries that are kept, or else those of the table
abbrev pub load_added : Option Entries → Entries → Entries
load_added None table = table
load_added (Some added) table = added

-- all changes: those of the load, event 0, and those of updates
abbrev pub final_changes : FinalState → List (ℕ × Change)
final_changes f = at_event 0 (additions (load_added f.added f.final_fib.table)) ++ changes_as f.changes.items

-- it is what is left of the state
pub record Settles (state : State) (f : FinalState) : Type 0 where
  pub sizes : f.final_fib.sizes ≡ state.engine.sizes
  pub routes : f.final_fib.routes ≡ engine_routes state.engine
  pub table : f.final_fib.table ≡ state.engine.table
  pub hops : f.hops.list ≡ state.engine.hops
  pub changes : final_changes f ≡ told_changes state
  pub moves : map moves_as f.moves.items ≡ told_moves state

-- it is what is left of a state after the load of these elementary events
abbrev pub EndsAs : Limits → List Elem → FinalState → Type 0
EndsAs limits load f = (state : State) × StateStands Updates limits load [] state × Settles state f

-- what became of a state that was to take the dump that is named, and to end with it
abbrev pub FeedsLoad : (List ℕ → Option (List ℕ)) → List Vrp → Named → Result (InputCounts × FinalState) Outcome → Type 0
FeedsLoad content vrps named (Ok r) = (state : State) × FeedsBoth content vrps named (Ok r.0) state × Settles state r.1
FeedsLoad content vrps named (Err o) = FailsDue o (feeds_at content vrps named)
