use Rattle.std.proofs.Common.{ap, sym}
use Rattle.route_tries.specs.Parts.{are_two}
use Rattle.route_tries.proofs.Beside.{nothing_beside, two_none, two_on}
use Rattle.route_tries.proofs.deep.is_lasting.Goals as goal

pub returns-then-left-eq0 : goal.returns-then-left-eq0
returns-then-left-eq0 g c =
    sym (ap are_two (nothing_beside (g.R.Region.bits c.args.region.now) c.args.left c.args.q (g.R.Region.answers c.args.region.now) c.if-left-eq0.true))

pub returns-in-None : goal.returns-in-None
returns-in-None g c =
    two_none (g.R.Region.bits c.args.region.now) c.args.left c.args.q (g.R.Region.bits c.half-beside.result) (g.R.Region.answers c.args.region.now) (g.R.Region.answers c.half-beside.result) c.bit_at-bit.result c.if-left-eq0.false c.bit_at-bit.ensures c.half-beside.ensures.bits c.half-beside.ensures.answers c.in-None.ensures.differ

pub returns : goal.returns
returns g c =
    two_on (g.R.Region.bits c.args.region.now) c.args.left c.args.q (g.R.Region.bits c.half-beside.result) (g.R.Region.answers c.args.region.now) (g.R.Region.answers c.half-beside.result) c.bit_at-bit.result c.if-left-eq0.false c.bit_at-bit.ensures c.half-beside.ensures.bits c.half-beside.ensures.answers c.in-Some.hop.0 (g.R.Region.bits c.half.result) (g.R.Region.answers c.half.result) c.another.result c.in-Some.ensures.one c.half.ensures.bits c.half.ensures.answers c.another.ensures
