use Rattle.std.proofs.Common.{inl, inr, refl}
use Rattle.std.specs.Prelude.{option_map}
use Rattle.fib_addr.specs.Views.{prefix_as}
use Rattle.smalta_keep.proofs.Holding.{touched_family}
use Rattle.smalta_keep.proofs.held.leave.Goals as goal

pub leave-requires : goal.leave-requires
leave-requires c = touched_family (option_map prefix_as c.args.held) c.args.at c.args.dirty.now.tree c.keep.new.self.tree c.keep.ensures c.requires.at

pub returns-then-is_made : goal.returns-then-is_made
returns-then-is_made c = inr (c.is_made.ensures.snapshot c.if-is_made.true, c.is_made.ensures.fewest c.if-is_made.true, c.is_made.ensures.held c.if-is_made.true, refl)

pub returns : goal.returns
returns c = inl (c.keep.new.self.tree, c.keep.ensures, c.leave.ensures)
