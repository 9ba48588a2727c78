use Rattle.std.proofs.Common.{sym, ◌∙◌, arith}
use Rattle.orig_tree.specs.Walk.{behind}
use Rattle.smalta_keep.proofs.Passing.{end_last, end_leaf}
use Rattle.smalta_keep.proofs.place.Place.is_end.Goals as goal

pub returns-then-prefix-width-clause-end : goal.returns-then-prefix-width-clause-end
returns-then-prefix-width-clause-end c = λ z. end_last c.args.self.now.region c.args.prefix c.requires.bits (omega (arith, c.if-prefix-width.true, c.width.ensures)) c.requires.table

pub returns-then-is_last-clause-end : goal.returns-then-is_last-clause-end
returns-then-is_last-clause-end c = λ z. end_leaf c.args.self.now.region (behind c.args.self.now.node).entries c.leaf.result c.requires.node (c.is_last.ensures c.if-is_last.true) c.leaf.ensures.one (sym c.is_some.ensures ∙ z)
