use Rattle.std.proofs.Common.{◌∙◌, arith}
use Rattle.bgp_attrs.proofs.Origins.{wide_origin, narrow_origin}
use Rattle.bgp_attrs.proofs.path.origin_of.Goals as goal

pub returns-then-wide : goal.returns-then-wide
returns-then-wide c =
    wide_origin c.args.kind c.args.count c.args.wide c.args.numbers.now c.read_u32.result c.if-kind-ne-AS_SEQUENCE.false (omega (arith, c.if-count-eq0.false)) c.if-wide.true c.requires c.read_u32.ensures

pub returns-else-wide : goal.returns-else-wide
returns-else-wide c =
    narrow_origin c.args.kind c.args.count c.args.wide c.args.numbers.now c.from.result c.if-kind-ne-AS_SEQUENCE.false (omega (arith, c.if-count-eq0.false)) c.if-wide.false c.requires (c.from.ensures ∙ c.read_u16-last.ensures)
