use Rattle.std.proofs.Common.{◌≡◌, ◌≤◌, map, drop, length}
use Rattle.std.specs.Prelude.{option_map}
use Rattle.std.specs.List.{list_any}
use Rattle.std.specs.Map.{keys_of}
use Rattle.std.specs.BTreeSet as set
use Rattle.table_model.specs.Address.{same_prefix}
use Rattle.cert_model.specs.Verdict.{twice}
use Rattle.fib_addr.specs.Order.{code_cmp}
use Rattle.fib_addr.specs.Views.{entry_as, prefix_as}
use Rattle.fib_addr.specs.declared.prefix.Prefix.{Prefix}
use Rattle.cert_check.proofs.repeats.first_again.Given as goal

abbrev pub invariant-loop-i : goal.invariant-loop-i
invariant-loop-i l =
    (l.i ≤ length l.entries) × ((q : Prefix) → set.contains code_cmp l.later q ≡ list_any (same_prefix (prefix_as q)) (keys_of (map entry_as (drop l.i l.entries)))) × (option_map prefix_as l.first ≡ twice (map entry_as (drop l.i l.entries)))

abbrev pub decreases-loop-i : goal.decreases-loop-i
decreases-loop-i l = l.i
