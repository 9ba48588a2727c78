use Rattle.std.proofs.Common.{◌^◌, arith}
use Rattle.buddy_arena.specs.Masks.{ord, free_of}
use Rattle.buddy_arena.proofs.Masks.{ord_is, free_len}
use Rattle.buddy_arena.proofs.Others.{given_out}
use Rattle.buddy_arena.proofs.Totals.{given_total, total_le, small_pow}
use Rattle.buddy_arena.proofs.merges.give_to.Goals as goal

pub returns-clause-total : goal.returns-clause-total
returns-clause-total c = given_total c.args.block.place (2 ^ c.args.block.order) (free_of c.args.base c.args.height c.args.masks.now) (free_of c.args.base c.args.height c.restore.new.s) (omega (arith, free_len c.args.base c.args.height c.args.masks.now, c.requires.out.within)) c.requires.out.out c.restore.ensures.free

pub returns-clause-small : goal.returns-clause-small
returns-clause-small c = omega (arith, total_le (free_of c.args.base c.args.height c.restore.new.s), free_len c.args.base c.args.height c.restore.new.s, small_pow (ord c.args.base c.args.height) (omega (arith, ord_is c.args.base c.args.height)))

pub restore-requires-clause-orders : goal.restore-requires-clause-orders
restore-requires-clause-orders c = (omega (arith, c.requires.out.small, ord_is c.args.base c.args.height), c.requires.few.0, c.requires.few.1)

pub returns-clause-few : goal.returns-clause-few
returns-clause-few c = omega (arith, c.requires.out.small, ord_is c.args.base c.args.height)

pub returns-clause-still : goal.returns-clause-still
returns-clause-still c = λ p k o a. given_out (ord c.args.base c.args.height) (free_of c.args.base c.args.height c.args.masks.now) (free_of c.args.base c.args.height c.restore.new.s) c.args.block.place c.args.block.order p k c.restore.ensures.free a o
