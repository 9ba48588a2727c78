use Rattle.std.proofs.Common.{◌≡◌, take, map}
use Rattle.fib_delta.specs.Views.{change_as}
use Rattle.smalta_keep.specs.Back.{taken_back}
use Rattle.smalta_keep.proofs.back.taken_back_if.Given as goal

abbrev pub invariant-loop-change : goal.invariant-loop-change
invariant-loop-change l = map change_as l.back.items ≡ map (taken_back l.tree.entries) (map change_as (take l.change-index l.changes))
