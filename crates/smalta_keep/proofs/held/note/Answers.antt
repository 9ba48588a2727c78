use Rattle.std.proofs.Common.{false, Bool, sym, subst}
use Rattle.std.specs.Prelude.{option_map}
use Rattle.fib_addr.specs.Views.{prefix_as}
use Rattle.smalta_keep.specs.Known.{AreNoted}
use Rattle.smalta_keep.proofs.Holding.{touched_family, wide_twice}
use Rattle.smalta_keep.proofs.held.note.Goals as goal

pub keep-requires-then-fewest : goal.keep-requires-then-fewest
keep-requires-then-fewest c = touched_family (option_map prefix_as c.args.at) c.args.reach c.args.dirty.now.tree c.keep.new.self.tree c.keep.ensures c.requires.reach

pub returns-then-fewest : goal.returns-then-fewest
returns-then-fewest c =
    let at = option_map prefix_as c.args.at in
    subst (λ (b : Bool). AreNoted false b at c.args.dirty.now.tree c.keep-then-fewest.new.self.tree) (sym c.if-fewest.true)
    (wide_twice at (option_map prefix_as c.args.reach) c.args.dirty.now.tree c.keep.new.self.tree c.keep-then-fewest.new.self.tree c.keep.ensures c.keep-then-fewest.ensures)

pub returns : goal.returns
returns c = subst (λ (b : Bool). AreNoted false b (option_map prefix_as c.args.at) c.args.dirty.now.tree c.ease.new.self.tree) (sym c.if-fewest.false) c.ease.ensures
