use Rattle.table_model.specs.Bits.{bits_of}
use Rattle.route_tries.proofs.Lasting.{none_nodes, none_leaves}
use Rattle.route_tries.proofs.deep.count_slot.Goals as goal

pub returns-in-Some-clause-nodes : goal.returns-in-Some-clause-nodes
returns-in-Some-clause-nodes g c =
    λ k h. none_nodes k (g.R.Region.bits c.args.region.now) c.in-Some._hop.0 (g.R.Region.answers c.args.region.now) (bits_of c.args.left c.args.q) c.in-Some.ensures.one

pub returns-in-Some-clause-leaves : goal.returns-in-Some-clause-leaves
returns-in-Some-clause-leaves g c =
    λ k h. none_leaves k (g.R.Region.bits c.args.region.now) c.in-Some._hop.0 (g.R.Region.answers c.args.region.now) (bits_of c.args.left c.args.q) c.in-Some.ensures.one
