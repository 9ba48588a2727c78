use Rattle.std.proofs.Common.{ℕ, ap, sym, subst}
use Rattle.orig_tree.specs.Walk.{Walks}
use Rattle.orig_tree.specs.Arena.{cells_of}
use Rattle.orig_tree.specs.Bests.{best_in, KeepsBest}
use Rattle.orig_tree.specs.Undos.{CanUndo}
use Rattle.orig_tree.specs.declared.best.Best.{Best}
use Rattle.orig_tree.proofs.Stores.{kept_is}
use Rattle.orig_tree.proofs.Laying.{stays_by}
use Rattle.orig_tree.proofs.Undoing.{can_same, can_stay}
use Rattle.orig_tree.proofs.Placing.{is_entered}
use Rattle.orig_tree.proofs.whole.insert_entry.Goals as goal

pub returns-then-is_node-clause-best : goal.returns-then-is_node-clause-best
returns-then-is_node-clause-best c =
    subst (λ (K : ℕ → Best). KeepsBest c.args.family (cells_of c.change.new.nodes) K) (sym (kept_is c.args.nodes.now c.change.new.nodes c.change.ensures.kept))
    (stays_by c.args.family (cells_of c.args.nodes.now) (cells_of c.change.new.nodes) (best_in c.args.nodes.now) c.change.ensures.halves (ap (λ (n : Walks). n.routes) c.change.ensures.walks) c.requires.best)

pub returns-then-is_node-clause-undo : goal.returns-then-is_node-clause-undo
returns-then-is_node-clause-undo c =
    subst (λ (K : ℕ → Best). CanUndo c.args.family (cells_of c.change.new.nodes) K c.args.undo.now) (sym (kept_is c.args.nodes.now c.change.new.nodes c.change.ensures.kept))
    (can_stay c.args.family (cells_of c.args.nodes.now) (cells_of c.change.new.nodes) (best_in c.args.nodes.now) c.args.undo.now c.change.ensures.halves
    (ap (λ (n : Walks). n.routes) c.change.ensures.walks) (ap (λ (n : Walks). n.nodes) c.change.ensures.walks) c.requires.undo)

pub returns-in_err-set_label-clause-undo : goal.returns-in_err-set_label-clause-undo
returns-in_err-set_label-clause-undo c =
    can_same c.args.family (cells_of c.args.nodes.now) (cells_of c.set_label.new.nodes) (best_in c.args.nodes.now) (best_in c.set_label.new.nodes) c.args.undo.now c.in_err-set_label.ensures.err.0 c.in_err-set_label.ensures.err.2 c.requires.undo

pub returns-clause-arena : goal.returns-clause-arena
returns-clause-arena c =
    (is_entered c.args.family c.args.path.bits c.args.path.left c.args.hop c.args.nodes.now.free c.set_label.new.nodes.free (cells_of c.args.nodes.now) (cells_of c.set_label.new.nodes) (best_in c.args.nodes.now) (best_in c.set_label.new.nodes) c.in_ok-set_label.field-0
    c.requires.few c.requires.arena c.requires.best c.in_ok-set_label.ensures.made).0

pub returns-clause-best : goal.returns-clause-best
returns-clause-best c =
    (is_entered c.args.family c.args.path.bits c.args.path.left c.args.hop c.args.nodes.now.free c.set_label.new.nodes.free (cells_of c.args.nodes.now) (cells_of c.set_label.new.nodes) (best_in c.args.nodes.now) (best_in c.set_label.new.nodes) c.in_ok-set_label.field-0
    c.requires.few c.requires.arena c.requires.best c.in_ok-set_label.ensures.made).1

pub returns-clause-laid : goal.returns-clause-laid
returns-clause-laid c =
    (is_entered c.args.family c.args.path.bits c.args.path.left c.args.hop c.args.nodes.now.free c.set_label.new.nodes.free (cells_of c.args.nodes.now) (cells_of c.set_label.new.nodes) (best_in c.args.nodes.now) (best_in c.set_label.new.nodes) c.in_ok-set_label.field-0
    c.requires.few c.requires.arena c.requires.best c.in_ok-set_label.ensures.made).2
