use Rattle.std.proofs.Common.{◌≡◌}
use Rattle.std.specs.Prelude.{◌||◌, drop}
use Rattle.std.specs.List.{list_any}
use Rattle.std.specs.Ordering.{is_eq}
use Rattle.adj_rib_in.specs.declared.keys.PathKey.{PathKey}
use Rattle.adj_rib_in.specs.Orders.{key_cmp}
use Rattle.adj_rib_in.specs.Flat.{is_among}
use Rattle.route_choice.specs.Paths.{key_in}
use Rattle.route_choice.proofs.down.add_cuts.Given as goal

abbrev pub invariant-loop-cut : goal.invariant-loop-cut
invariant-loop-cut l = (s : PathKey) → (is_among l.paths.keys s || list_any (λ e. is_eq (key_cmp (key_in e) s)) (drop l.cut-index l.cuts.items)) ≡ (is_among l.fn.paths.keys s || list_any (λ e. is_eq (key_cmp (key_in e) s)) l.cuts.items)
