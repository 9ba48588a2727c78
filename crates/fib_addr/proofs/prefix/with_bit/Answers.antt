use Rattle.std.proofs.Common.{arith}
use Rattle.std.proofs.lemmas.Nat.{one_shl}
use Rattle.fib_addr.proofs.RegionLemmas.{room_for_bit}
use Rattle.fib_addr.proofs.prefix.with_bit.Goals as goal

pub overflow_add-result : goal.overflow_add-result
overflow_add-result c = omega (arith, room_for_bit 128 c.args.place c.args.bits c.requires.within c.ranges.bits.fits c.requires.cleared, one_shl c.args.place 128 c.requires.within)
