-- What a clause sees of a state that inputs build.
use Rattle.std.specs.Prelude.{Bool, true, false, ℕ, ◌+◌, ◌++◌, List, [], ◌∷◌, map, Option, Some, None}
use Rattle.table_model.specs.Changes.{Change, additions}
use Rattle.kept_model.specs.Feed.{at_event}
use Rattle.fib_delta.specs.declared.change.Change as code_change
use Rattle.fib_report.specs.declared.run.Report.{Report}
use Rattle.fib_report.specs.Views.{moves_as}
use Rattle.fib_engine.specs.declared.engine.Limits as code_limits
use Rattle.route_tries.specs.Sizes.{sizes_as}
use Rattle.route_tries.specs.declared.needs.FamilyNeeds.{FamilyNeeds}
use Rattle.fib_delta.specs.Views.{change_as}
use Rattle.fib_run.specs.declared.feed.Counts.{Counts}
use Rattle.fib_due.specs.Refusals.{Limits}
use Rattle.fib_run.specs.declared.state.State.{State}
use Rattle.fib_due.specs.Due.{all_leaves, all_nodes}

-- changes with their events' numbers
abbrev pub changes_as : List (ℕ × code_change.Change) → List (ℕ × Change)
changes_as changes = map (λ c. (c.0, change_as c.1)) changes

-- all changes of a state: those of the load, event 0, and those of updates
abbrev pub told_changes : State → List (ℕ × Change)
told_changes state = at_event 0 (additions state.added) ++ changes_as state.changes.items

-- the row of an event that needed n changes, if it changed a chosen hop and that is asked for
abbrev pub moves_told : Bool → ℕ → Option ℕ → List (ℕ × ℕ)
moves_told fewest event None = []
moves_told false event (Some n) = []
moves_told true event (Some n) = (event, n) ∷ []

-- how many changes each event of a state needed, if that is asked for
abbrev pub told_moves : State → List (ℕ × ℕ)
told_moves state = map moves_as state.moves.items

-- how often a snapshot comes, whether each event makes the fewest changes and how large tries are, and whether changes come in steady order
abbrev pub limits_as : code_limits.Limits → Bool → Limits
limits_as limits steady = record { every = limits.every; fewest = limits.fewest; steady = steady; sizes = sizes_as limits.sizes }

-- the counts of two inputs, of the routes and of the table's entries, and what tries need
abbrev pub totals : Counts → Counts → ℕ → ℕ → FamilyNeeds → Report
totals load updates routes entries needs = record {
  records = load.records + updates.records;
  skipped = load.skipped + updates.skipped;
  events = load.events + updates.events;
  routes = routes;
  entries = entries;
  nodes = all_nodes needs;
  leaves = all_leaves needs;
  treated = load.treated + updates.treated;
}
