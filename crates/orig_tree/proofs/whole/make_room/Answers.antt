use Rattle.orig_tree.specs.Arena.{cells_of}
use Rattle.orig_tree.specs.Bests.{best_in}
use Rattle.orig_tree.proofs.Laying.{made_room}
use Rattle.orig_tree.proofs.Undoing.{can_same}
use Rattle.orig_tree.proofs.whole.make_room.Goals as goal

pub returns-clause-arena : goal.returns-clause-arena
returns-clause-arena c =
    let v = c.in_ok-reserve.ensures in
    (made_room c.args.family c.args.path.bits c.args.path.left c.requires.few (cells_of c.args.nodes.now) (cells_of c.reserve.new.nodes) c.args.nodes.now.free c.reserve.new.nodes.free (best_in c.args.nodes.now) (best_in c.reserve.new.nodes) c.requires.arena v.cells.0 v.cells.1 v.kept c.requires.best
    (cells_of c.grow.new.nodes) c.grow.new.nodes.free (best_in c.grow.new.nodes) c.grow.ensures.nodes c.grow.ensures.best).2

pub returns-clause-best : goal.returns-clause-best
returns-clause-best c =
    let v = c.in_ok-reserve.ensures in
    (made_room c.args.family c.args.path.bits c.args.path.left c.requires.few (cells_of c.args.nodes.now) (cells_of c.reserve.new.nodes) c.args.nodes.now.free c.reserve.new.nodes.free (best_in c.args.nodes.now) (best_in c.reserve.new.nodes) c.requires.arena v.cells.0 v.cells.1 v.kept c.requires.best
    (cells_of c.grow.new.nodes) c.grow.new.nodes.free (best_in c.grow.new.nodes) c.grow.ensures.nodes c.grow.ensures.best).3

pub returns-clause-walks : goal.returns-clause-walks
returns-clause-walks c =
    let v = c.in_ok-reserve.ensures in
    (made_room c.args.family c.args.path.bits c.args.path.left c.requires.few (cells_of c.args.nodes.now) (cells_of c.reserve.new.nodes) c.args.nodes.now.free c.reserve.new.nodes.free (best_in c.args.nodes.now) (best_in c.reserve.new.nodes) c.requires.arena v.cells.0 v.cells.1 v.kept c.requires.best
    (cells_of c.grow.new.nodes) c.grow.new.nodes.free (best_in c.grow.new.nodes) c.grow.ensures.nodes c.grow.ensures.best).0

pub returns-clause-ok : goal.returns-clause-ok
returns-clause-ok c =
    let v = c.in_ok-reserve.ensures in
    (made_room c.args.family c.args.path.bits c.args.path.left c.requires.few (cells_of c.args.nodes.now) (cells_of c.reserve.new.nodes) c.args.nodes.now.free c.reserve.new.nodes.free (best_in c.args.nodes.now) (best_in c.reserve.new.nodes) c.requires.arena v.cells.0 v.cells.1 v.kept c.requires.best
    (cells_of c.grow.new.nodes) c.grow.new.nodes.free (best_in c.grow.new.nodes) c.grow.ensures.nodes c.grow.ensures.best).1

pub returns-in_err-reserve-clause-undo : goal.returns-in_err-reserve-clause-undo
returns-in_err-reserve-clause-undo c =
    can_same c.args.family (cells_of c.args.nodes.now) (cells_of c.reserve.new.nodes) (best_in c.args.nodes.now) (best_in c.reserve.new.nodes) c.args.undo.now c.reserve.ensures.cells.0 c.reserve.ensures.kept c.requires.undo
