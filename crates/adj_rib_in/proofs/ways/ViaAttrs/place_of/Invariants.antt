use Rattle.std.proofs.Common.{◌≡◌, ◌≤◌, length, Greater}
use Rattle.std.specs.List.{AllWithin}
use Rattle.fib_prefix.specs.Order.{code_via_cmp}
use Rattle.adj_rib_in.proofs.ways.ViaAttrs.place_of.Given as goal

abbrev pub invariant-loop-at : goal.invariant-loop-at
invariant-loop-at l = record {
  within : l.at ≤ length l.self-inside.list.items;
  after : AllWithin (λ e. code_via_cmp e.0 l.via ≡ Greater) l.self-inside.list.items l.at (length l.self-inside.list.items);
}

abbrev pub decreases-loop-at : goal.decreases-loop-at
decreases-loop-at l = l.at
