use Rattle.std.proofs.Common.{ap, ◌∙◌}
use Rattle.std.specs.Prelude.{map}
use Rattle.fib_prefix.specs.Views.{elem_as}
use Rattle.adj_rib_in.specs.Flat.{paths_over, flat_paths}
use Rattle.route_choice.proofs.Downs.{lost_is, all_paths}
use Rattle.route_choice.proofs.down.cuts_of.Goals as goal

pub returns : goal.returns
returns c =
    let q = c.args.peer.now in
    let base = flat_paths c.args.flat.now in
    let over = c.args.paths.now.entries in
    ap (map elem_as) c.in_ok-cuts.ensures.cuts
    ∙ lost_is q (paths_over c.args.flat.now over) c.add_cuts.new.paths.keys c.cuts_at.ensures.ordered
    (all_paths q base over c.new-live.result.keys c.add_paths_of.new.paths.keys c.add_cuts.new.paths.keys c.in_ok-others.others.items c.requires.apart c.new-live.ensures.empty c.in_ok-add_paths_of.ensures c.in_ok-others.ensures.cuts c.over_cuts.ensures.ordered c.in_ok-add_cuts.ensures)
