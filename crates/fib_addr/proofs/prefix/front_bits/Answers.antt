use Rattle.std.proofs.Common.{arith, refl}
use Rattle.fib_addr.proofs.Fronts.{front_is}
use Rattle.fib_addr.proofs.prefix.front_bits.Goals as goal

pub returns-clause-bits : goal.returns-clause-bits
returns-clause-bits c = (front_is c.args.octets.now c.args.len c.args.width _ _ _ (λ i. omega (arith, c.type_inv.octets i)) c.requires.fits c.requires.wide c.requires.hold c.read_uint128-number.ensures c.from.ensures refl).bits

pub returns-clause-below : goal.returns-clause-below
returns-clause-below c = (front_is c.args.octets.now c.args.len c.args.width _ _ _ (λ i. omega (arith, c.type_inv.octets i)) c.requires.fits c.requires.wide c.requires.hold c.read_uint128-number.ensures c.from.ensures refl).below

pub returns-clause-cleared : goal.returns-clause-cleared
returns-clause-cleared c = (front_is c.args.octets.now c.args.len c.args.width _ _ _ (λ i. omega (arith, c.type_inv.octets i)) c.requires.fits c.requires.wide c.requires.hold c.read_uint128-number.ensures c.from.ensures refl).cleared
