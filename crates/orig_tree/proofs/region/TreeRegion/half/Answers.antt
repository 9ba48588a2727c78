use Rattle.std.proofs.Common.{arith, ◌-◌, ap, ◌∙◌, refl}
use Rattle.table_model.specs.Table.{root, half, inherit}
use Rattle.orig_tree.specs.Arena.{cells_of}
use Rattle.orig_tree.specs.Bests.{best_in}
use Rattle.orig_tree.specs.Spots.{Spot}
use Rattle.orig_tree.proofs.Regions.{some_half, half_spot, half_rooted, half_nodes, no_nodes}
use Rattle.orig_tree.proofs.region.TreeRegion.half.Goals as goal

pub invariant_of-result : goal.invariant_of-result
invariant_of-result c =
    let r = c.self.inside in (
      half_spot (cells_of r.nodes.now) r.place r.bits (r.bits - 1) r.hop (omega (arith, c.requires, ap (λ (s : Spot). s.bits) c.self.view_is)) c.args.bit (best_in r.nodes.now) (r.bits - 1) c.in-Some.i c.unwrap_or.result c.read-node.result c.half.result
          c.in-Some.is refl c.read-node.ensures c.half.ensures c.unwrap_or.ensures c.self.invariant.0,
      omega (arith, c.self.invariant.1),
      half_rooted (cells_of r.nodes.now) r.place r.bits (r.bits - 1) (r.bits - 1) c.in-Some.i c.args.bit c.read-node.result c.half.result (omega (arith, c.requires, ap (λ (s : Spot). s.bits) c.self.view_is)) c.in-Some.is refl c.read-node.ensures c.half.ensures c.self.invariant.2,
    )

pub returns-in-Some-clause-routes : goal.returns-in-Some-clause-routes
returns-in-Some-clause-routes c =
    let r = c.self.inside in
    (some_half (cells_of r.nodes.now) r.place r.bits (r.bits - 1) r.hop (omega (arith, c.requires, ap (λ (s : Spot). s.bits) c.self.view_is)) c.args.bit (r.bits - 1) c.in-Some.i c.unwrap_or.result c.read-node.result c.half.result
    c.in-Some.is refl c.read-node.ensures c.half.ensures c.unwrap_or.ensures).0 ∙ ap (λ (s : Spot). half c.args.bit s.routes) c.self.view_is

pub returns-in-Some-clause-entries : goal.returns-in-Some-clause-entries
returns-in-Some-clause-entries c =
    let r = c.self.inside in
    (some_half (cells_of r.nodes.now) r.place r.bits (r.bits - 1) r.hop (omega (arith, c.requires, ap (λ (s : Spot). s.bits) c.self.view_is)) c.args.bit (r.bits - 1) c.in-Some.i c.unwrap_or.result c.read-node.result c.half.result
    c.in-Some.is refl c.read-node.ensures c.half.ensures c.unwrap_or.ensures).1 ∙ ap (λ (s : Spot). half c.args.bit s.entries) c.self.view_is

pub returns-in-Some-clause-hop : goal.returns-in-Some-clause-hop
returns-in-Some-clause-hop c =
    let r = c.self.inside in
    (some_half (cells_of r.nodes.now) r.place r.bits (r.bits - 1) r.hop (omega (arith, c.requires, ap (λ (s : Spot). s.bits) c.self.view_is)) c.args.bit (r.bits - 1) c.in-Some.i c.unwrap_or.result c.read-node.result c.half.result
    c.in-Some.is refl c.read-node.ensures c.half.ensures c.unwrap_or.ensures).2 ∙ ap (λ (s : Spot). inherit (root s.routes) s.hop) c.self.view_is

pub returns-in-Some-clause-nodes : goal.returns-in-Some-clause-nodes
returns-in-Some-clause-nodes c = λ p.
    let r = c.self.inside in
    half_nodes (cells_of r.nodes.now) r.place c.half.result c.in-Some.i r.bits (r.bits - 1) (r.bits - 1) r.hop c.unwrap_or.result c.args.bit c.read-node.result c.in-Some.is (omega (arith, c.requires, ap (λ (s : Spot). s.bits) c.self.view_is)) refl c.read-node.ensures c.half.ensures c.args.self.now c.self.view_is p

pub returns-in-None-clause-nodes : goal.returns-in-None-clause-nodes
returns-in-None-clause-nodes c = λ p.
    let r = c.self.inside in
    no_nodes (cells_of r.nodes.now) r.place r.bits (r.bits - 1) r.hop r.hop c.args.bit c.in-None.is c.args.self.now c.self.view_is p
