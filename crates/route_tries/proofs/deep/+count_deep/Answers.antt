use Rattle.std.proofs.Common.{rules, ◌-◌, sym, ◌∙◌}
use Rattle.table_model.specs.Bits.{bits_of}
use Rattle.route_tries.proofs.Meeting.{bits_drop}
use Rattle.route_tries.proofs.Lasting.{lasts_mixed}
use Rattle.route_tries.proofs.Beside.{short_path, lasts_not, nodes_here, nodes_on, leaves_here, leaves_on}
use Rattle.route_tries.proofs.deep.+count_deep.Goals as goal

pub count_deep-requires : goal.count_deep-requires
count_deep-requires g t c κs within =
    let two = lasts_mixed (g.R.Region.bits c.along-next.result) (g.R.Region.answers c.along-next.result) (bits_of (c.args.left - 6) c.args.q) (sym c.is_lasting.ensures ∙ c.if-is_lasting.true) in
    search (rules, two)

pub returns-then-left-le6-clause-nodes : goal.returns-then-left-le6-clause-nodes
returns-then-left-le6-clause-nodes g t c =
    nodes_here (g.R.Region.bits c.args.region.now) c.count_way.result.nodes (g.R.Region.answers c.args.region.now) (bits_of c.args.left c.args.q) c.requires.mixed (short_path (g.R.Region.bits c.args.region.now) c.args.left c.args.q (g.R.Region.answers c.args.region.now) c.if-left-le6.true) c.count_way.ensures.nodes

pub returns-then-is_lasting-clause-nodes : goal.returns-then-is_lasting-clause-nodes
returns-then-is_lasting-clause-nodes g t c =
    nodes_on (g.R.Region.bits c.args.region.now) (g.R.Region.bits c.along-next.result) (g.R.Region.answers c.args.region.now) (g.R.Region.answers c.along-next.result) (bits_of c.args.left c.args.q) (bits_of (c.args.left - 6) c.args.q) c.requires.mixed c.along-next.ensures.bits c.along-next.ensures.answers (sym (bits_drop 6 c.args.left c.args.q)) c.count_deep.result.nodes (sym c.is_lasting.ensures ∙ c.if-is_lasting.true) c.count_deep.ensures.nodes

pub returns-clause-nodes : goal.returns-clause-nodes
returns-clause-nodes g t c =
    nodes_here (g.R.Region.bits c.args.region.now) c.count_way-2.result.nodes (g.R.Region.answers c.args.region.now) (bits_of c.args.left c.args.q) c.requires.mixed (lasts_not (g.R.Region.bits c.args.region.now) (g.R.Region.bits c.along-next.result) (g.R.Region.answers c.args.region.now) (g.R.Region.answers c.along-next.result) (bits_of c.args.left c.args.q) (bits_of (c.args.left - 6) c.args.q) c.requires.mixed c.along-next.ensures.bits c.along-next.ensures.answers (sym (bits_drop 6 c.args.left c.args.q)) (sym c.is_lasting.ensures ∙ c.if-is_lasting.false)) c.count_way-2.ensures.nodes

pub returns-then-left-le6-clause-leaves : goal.returns-then-left-le6-clause-leaves
returns-then-left-le6-clause-leaves g t c =
    leaves_here (g.R.Region.bits c.args.region.now) c.count_way.result.leaves (g.R.Region.answers c.args.region.now) (bits_of c.args.left c.args.q) c.requires.mixed (short_path (g.R.Region.bits c.args.region.now) c.args.left c.args.q (g.R.Region.answers c.args.region.now) c.if-left-le6.true) c.count_way.ensures.leaves

pub returns-then-is_lasting-clause-leaves : goal.returns-then-is_lasting-clause-leaves
returns-then-is_lasting-clause-leaves g t c =
    leaves_on (g.R.Region.bits c.args.region.now) (g.R.Region.bits c.along-next.result) (g.R.Region.answers c.args.region.now) (g.R.Region.answers c.along-next.result) (bits_of c.args.left c.args.q) (bits_of (c.args.left - 6) c.args.q) c.requires.mixed c.along-next.ensures.bits c.along-next.ensures.answers (sym (bits_drop 6 c.args.left c.args.q)) c.count_deep.result.leaves (sym c.is_lasting.ensures ∙ c.if-is_lasting.true) c.count_deep.ensures.leaves

pub returns-clause-leaves : goal.returns-clause-leaves
returns-clause-leaves g t c =
    leaves_here (g.R.Region.bits c.args.region.now) c.count_way-2.result.leaves (g.R.Region.answers c.args.region.now) (bits_of c.args.left c.args.q) c.requires.mixed (lasts_not (g.R.Region.bits c.args.region.now) (g.R.Region.bits c.along-next.result) (g.R.Region.answers c.args.region.now) (g.R.Region.answers c.along-next.result) (bits_of c.args.left c.args.q) (bits_of (c.args.left - 6) c.args.q) c.requires.mixed c.along-next.ensures.bits c.along-next.ensures.answers (sym (bits_drop 6 c.args.left c.args.q)) (sym c.is_lasting.ensures ∙ c.if-is_lasting.false)) c.count_way-2.ensures.leaves
