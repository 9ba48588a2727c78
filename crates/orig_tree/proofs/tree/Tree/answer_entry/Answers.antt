use Rattle.orig_tree.specs.Arena.{cells_of}
use Rattle.std.proofs.Common.{sym, ap, ◌∙◌}
use Rattle.orig_tree.specs.Views.{Labels}
use Rattle.orig_tree.specs.declared.node.Label.TheVariants.{Entry}
use Rattle.orig_tree.proofs.Roots.{answer_whole}
use Rattle.orig_tree.proofs.tree.Tree.answer_entry.Goals as goal

pub returns : goal.returns
returns c = answer_whole c.self.inside.family c.args.addr.now.family Entry c.width.result c.args.addr.now.bits c.answer.result (cells_of c.self.inside.nodes) c.args.self.now.entries
    (c.requires ∙ sym (ap (λ (s : Labels). s.family) c.self.view_is)) c.width.ensures (ap (λ (s : Labels). s.entries) c.self.view_is) c.answer.ensures
