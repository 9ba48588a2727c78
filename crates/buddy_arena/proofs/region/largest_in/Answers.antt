use Rattle.std.proofs.Common.{ℕ, subst, arith}
use Rattle.buddy_arena.specs.Tops.{IsTopBelow}
use Rattle.buddy_arena.proofs.Masks.{ord_is}
use Rattle.buddy_arena.proofs.Calls.{greatest_is}
use Rattle.buddy_arena.proofs.region.largest_in.Goals as goal

pub returns : goal.returns
returns c = greatest_is c.args.base c.args.height c.args.masks.now c.requires.right c.top_below.result (omega (arith, ord_is c.args.base c.args.height)) (subst (λ (x : ℕ). IsTopBelow x 64 c.top_below.result) c.mask_of.ensures c.top_below.ensures)
