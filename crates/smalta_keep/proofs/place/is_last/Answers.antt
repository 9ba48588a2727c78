use Rattle.orig_tree.specs.Walk.{behind}
use Rattle.smalta_keep.proofs.Seeking.{bare}
use Rattle.smalta_keep.proofs.place.is_last.Goals as goal

pub returns-then-lacks : goal.returns-then-lacks
returns-then-lacks c = λ e. bare (behind c.args.node.now).entries (c.lacks.ensures c.if-lacks.true) (c.lacks-then-lacks.ensures e)
