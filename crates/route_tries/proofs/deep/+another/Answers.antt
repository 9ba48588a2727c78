use Rattle.std.proofs.Common.{ap, sym}
use Rattle.route_tries.specs.Parts.{other_than}
use Rattle.route_tries.proofs.Beside.{nothing_beside, other_none, other_here, other_on}
use Rattle.route_tries.proofs.deep.+another.Goals as goal

pub returns-then-left-eq0 : goal.returns-then-left-eq0
returns-then-left-eq0 g t c =
    sym (ap (other_than c.args.hop.0) (nothing_beside (g.R.Region.bits c.args.region.now) c.args.left c.args.q (g.R.Region.answers c.args.region.now) c.if-left-eq0.true))

pub returns-in-None : goal.returns-in-None
returns-in-None g t c =
    other_none (g.R.Region.bits c.args.region.now) c.args.left c.args.q (g.R.Region.bits c.half-beside.result) (g.R.Region.answers c.args.region.now) (g.R.Region.answers c.half-beside.result) c.bit_at-bit.result c.if-left-eq0.false c.bit_at-bit.ensures c.half-beside.ensures.bits c.half-beside.ensures.answers c.args.hop.0 c.in-None.ensures.differ

pub returns-then-other-hop : goal.returns-then-other-hop
returns-then-other-hop g t c =
    other_here (g.R.Region.bits c.args.region.now) c.args.left c.args.q (g.R.Region.bits c.half-beside.result) (g.R.Region.answers c.args.region.now) (g.R.Region.answers c.half-beside.result) c.bit_at-bit.result c.if-left-eq0.false c.bit_at-bit.ensures c.half-beside.ensures.bits c.half-beside.ensures.answers c.args.hop.0 c.in-Some.other.0 c.in-Some.ensures.one c.if-other-hop.true

pub returns : goal.returns
returns g t c =
    other_on (g.R.Region.bits c.args.region.now) c.args.left c.args.q (g.R.Region.bits c.half-beside.result) (g.R.Region.answers c.args.region.now) (g.R.Region.answers c.half-beside.result) c.bit_at-bit.result c.if-left-eq0.false c.bit_at-bit.ensures c.half-beside.ensures.bits c.half-beside.ensures.answers c.args.hop.0 c.in-Some.other.0 (g.R.Region.bits c.half.result) (g.R.Region.answers c.half.result) c.another.result c.in-Some.ensures.one c.if-other-hop.false c.half.ensures.bits c.half.ensures.answers c.another.ensures
