use Rattle.std.proofs.Common.{◌≡◌, ◌++◌, take, map}
use Rattle.kept_model.specs.Feed.{at_event}
use Rattle.fib_delta.specs.Views.{change_as}
use Rattle.fib_run.specs.Told.{changes_as}
use Rattle.fib_run.proofs.state.push_changes.Given as goal

abbrev pub invariant-loop-change : goal.invariant-loop-change
invariant-loop-change l = changes_as l.all.items ≡ changes_as l.fn.all.items ++ at_event l.event (map change_as (take l.change-index l.changes))
