use Rattle.std.proofs.Common.{◌≡◌, ◌≢◌, List, Bool, length, subst}
use Rattle.std.specs.Prelude.{IfSome, IfNone}
use Rattle.table_model.specs.Sets.{k_of}
use Rattle.orig_tree.specs.Arena.{cells_of}
use Rattle.orig_tree.specs.Spots.{Spot, spot_answers}
use Rattle.orig_tree.proofs.Regions.{spot_one, spot_two, spot_nodes, where_none}
use Rattle.orig_tree.proofs.region.TreeRegion.leaf.Goals as goal

pub returns-in-Some-clause-one : goal.returns-in-Some-clause-one
returns-in-Some-clause-one c =
    let r = c.self.inside in
    subst (λ (s : Spot). IfSome c.only.result (λ h. (a : List Bool) → length a ≡ s.bits → spot_answers s a ≡ h)) c.self.view_is
    (spot_one (cells_of r.nodes.now) r.place c.in-Some.i r.bits r.hop c.read.result c.cover.result c.only.result c.in-Some.is c.read.ensures c.cover.ensures c.only.ensures c.self.invariant.2)

pub returns-in-Some-clause-more : goal.returns-in-Some-clause-more
returns-in-Some-clause-more c =
    let r = c.self.inside in
    subst (λ (s : Spot). IfNone c.only.result (k_of s.bits (spot_answers s) ≢ 0)) c.self.view_is
    (spot_two (cells_of r.nodes.now) r.place c.in-Some.i r.bits r.hop c.read.result c.cover.result c.only.result c.in-Some.is c.read.ensures c.cover.ensures c.only.ensures c.self.invariant.2)

pub returns-in-Some-clause-node : goal.returns-in-Some-clause-node
returns-in-Some-clause-node c =
    let r = c.self.inside in
    where_none c.only.result _ (spot_nodes (cells_of r.nodes.now) r.place c.in-Some.i r.bits r.hop c.in-Some.is c.args.self.now c.self.view_is)
