use Rattle.std.proofs.Common.{◌≡◌, ◌++◌, map, drop}
use Rattle.fib_delta.specs.Views.{change_as}
use Rattle.moves_check.specs.Views.{AreChangesOf}
use Rattle.moves_model.specs.Claims.{own_changes}
use Rattle.router_moves.proofs.own.own_changes.Given as goal

abbrev pub invariant-loop-change : goal.invariant-loop-change
invariant-loop-change l =
    (own_changes l.family (map change_as l.changes) ≡ map change_as l.own.items ++ own_changes l.family (map change_as (drop l.change-index l.changes)))
    × AreChangesOf l.family (map change_as l.own.items)
