use Rattle.std.proofs.Common.{arith, refl}
use Rattle.table_model.specs.Width.{width}
use Rattle.fib_addr.proofs.RegionLemmas.{half_fits, half_cleared, half_is}
use Rattle.fib_addr.proofs.prefix.Prefix.half.Goals as goal

pub invariant_of-result : goal.invariant_of-result
invariant_of-result c =
    let p = c.args.self.now in
    record {
      fits = omega (arith, c.requires);
      below = half_fits (width p.family) p.len _ p.bits c.with_bit.result c.args.bit c.requires (omega (arith, c.width.ensures)) p.below p.cleared c.with_bit.ensures;
      cleared = half_cleared (width p.family) p.len _ p.bits c.with_bit.result c.args.bit c.requires (omega (arith, c.width.ensures)) p.cleared c.with_bit.ensures;
    }

pub returns : goal.returns
returns c =
    let p = c.args.self.now in
    half_is p.family p.len c.width.result p.bits c.with_bit.result c.args.bit _ c.requires c.width.ensures p.cleared c.with_bit.ensures refl
