use Rattle.std.proofs.Common.{◌≡◌, ◌+◌, map, drop}
use Rattle.fib_delta.specs.Views.{change_as}
use Rattle.moves_model.specs.Verdict.{first_refused, changed_by_all}
use Rattle.moves_check.proofs.check.find_refused.Given as goal

abbrev pub invariant-loop-i : goal.invariant-loop-i
invariant-loop-i l =
    (first_refused (map change_as l.changes) l.fn.table 1 ≡ first_refused (map change_as (drop l.i l.changes)) l.table (l.i + 1))
    × (changed_by_all (map change_as l.changes) l.fn.table ≡ changed_by_all (map change_as (drop l.i l.changes)) l.table)
