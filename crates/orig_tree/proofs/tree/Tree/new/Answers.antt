use Rattle.std.proofs.Common.{ap}
use Rattle.orig_tree.specs.Walk.{Walks}
use Rattle.orig_tree.specs.Arena.{cells_of, whole}
use Rattle.orig_tree.proofs.Places.{in_place_nil}
use Rattle.orig_tree.proofs.Roots.{bare_labels}
use Rattle.orig_tree.specs.Bests.{best_in}
use Rattle.orig_tree.proofs.Laying.{root_keeps}
use Rattle.orig_tree.proofs.tree.Tree.new.Goals as goal

pub invariant_of-result : goal.invariant_of-result
invariant_of-result c =
    let w = whole c.args.family (cells_of c.empty.result) in
    (c.empty.ensures.arena, in_place_nil c.args.family w.routes (ap (λ (n : Walks). n.routes) c.empty.ensures.bare), in_place_nil c.args.family w.entries (ap (λ (n : Walks). n.entries) c.empty.ensures.bare), root_keeps c.args.family (cells_of c.empty.result) (best_in c.empty.result) c.empty.ensures.alone c.empty.ensures.bare c.empty.ensures.kept, tt)

pub returns : goal.returns
returns c = bare_labels c.args.family (whole c.args.family (cells_of c.empty.result)) c.empty.ensures.bare
