use Rattle.std.proofs.Common.{drop}
use Rattle.std.specs.List.Sorted.{IsStrictlySortedBy}
use Rattle.std.specs.Map.{keys_of}
use Rattle.fib_prefix.specs.Order.{code_via_cmp}
use Rattle.route_choice.proofs.ListWays.{Told}
use Rattle.route_choice.proofs.over.add_list.Given as goal

abbrev pub invariant-loop-way : goal.invariant-loop-way
invariant-loop-way l = record {
  sorted : IsStrictlySortedBy code_via_cmp (keys_of (drop l.way-index l.list));
  told : Told l.list (drop l.way-index l.list) l.ways.entries;
}
