use Rattle.std.proofs.Common.{◌^◌, false, replicate, subst, sym, ◌∙◌, ap, Bool, List}
use Rattle.buddy_arena.specs.Space.{IsOut}
use Rattle.buddy_arena.specs.Masks.{ord, free_of}
use Rattle.buddy_arena.specs.Fresh.{kept_at}
use Rattle.buddy_arena.proofs.Kept.{bare_start, given_at, block_out}
use Rattle.buddy_arena.proofs.fresh.give_kept.Goals as goal

pub loop-order-init : goal.loop-order-init
loop-order-init c = (c.requires.right, bare_start c.args.base c.args.height c.args.masks.now c.args.places.now c.requires.right c.requires.bare)

pub give_at-requires-clause-out : goal.give_at-requires-clause-out
give_at-requires-clause-out c = λ p e. subst (λ (f : List Bool). IsOut (ord c.args.base c.args.height) f p c.loop-order.order) (sym c.loop-order.invariant.1) (block_out (ord c.args.base c.args.height) c.loop-order.order p c.args.places.now c.requires.kept (ap (kept_at c.args.places.now) (sym c.from.ensures) ∙ e))

pub loop-order-preserved : goal.loop-order-preserved
loop-order-preserved c = (c.give_at.ensures.right, given_at c.loop-order.order c.args.places.now (free_of c.args.base c.args.height c.loop-order.masks) (free_of c.args.base c.args.height c.give_at.new.masks) (replicate (2 ^ ord c.args.base c.args.height) false) (kept_at c.args.places.now c.from.result) (ap (kept_at c.args.places.now) c.from.ensures) c.loop-order.invariant.1 c.give_at.ensures.free)
