use Rattle.std.proofs.Common.{◌≡◌, take, map}
use Rattle.fib_addr.specs.Views.{prefix_as}
use Rattle.fib_delta.specs.Views.{change_as}
use Rattle.smalta_keep.specs.Reach.{AreWithin}
use Rattle.smalta_keep.proofs.reach.reach_of.Given as goal

abbrev pub invariant-loop-change : goal.invariant-loop-change
invariant-loop-change l = record {
  family : l.reach.family ≡ l.prefix.family;
  within : AreWithin (prefix_as l.reach) (map change_as (take l.change-index l.changes));
}
