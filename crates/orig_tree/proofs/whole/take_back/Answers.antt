use Rattle.std.proofs.Common.{arith, vec_len}
use Rattle.orig_tree.specs.Arena.{cells_of, whole}
use Rattle.orig_tree.specs.Bests.{best_in}
use Rattle.orig_tree.specs.Undos.{undone}
use Rattle.orig_tree.proofs.Roots.{width_most}
use Rattle.orig_tree.proofs.Undoing.{taken_back}
use Rattle.orig_tree.proofs.Stores.{cells_long, kept_is}
use Rattle.orig_tree.proofs.whole.take_back.Goals as goal

pub returns-clause-arena : goal.returns-clause-arena
returns-clause-arena c =
    (taken_back c.args.family (undone c.args.undo (whole c.args.family (cells_of c.args.nodes.now)).routes) c.args.undo (vec_len c.args.nodes.now.halves) c.args.nodes.now.free c.revert-room.new.nodes.free c.assign.new.nodes.free (cells_of c.args.nodes.now) (cells_of c.revert-room.new.nodes) (cells_of c.assign.new.nodes) (best_in c.args.nodes.now) (best_in c.revert-room.new.nodes) (best_in c.assign.new.nodes)
    c.requires.undo.0 c.revert-room.ensures.cells c.revert-room.ensures.free c.assign.ensures.free (kept_is c.revert-room.new.nodes c.assign.new.nodes c.assign.ensures.kept) c.requires.arena (omega (arith, cells_long c.args.nodes.now)) c.revert-room.ensures.kept c.assign.ensures.set c.assign.ensures.halves).0

pub returns-clause-best : goal.returns-clause-best
returns-clause-best c =
    (taken_back c.args.family (undone c.args.undo (whole c.args.family (cells_of c.args.nodes.now)).routes) c.args.undo (vec_len c.args.nodes.now.halves) c.args.nodes.now.free c.revert-room.new.nodes.free c.assign.new.nodes.free (cells_of c.args.nodes.now) (cells_of c.revert-room.new.nodes) (cells_of c.assign.new.nodes) (best_in c.args.nodes.now) (best_in c.revert-room.new.nodes) (best_in c.assign.new.nodes)
    c.requires.undo.0 c.revert-room.ensures.cells c.revert-room.ensures.free c.assign.ensures.free (kept_is c.revert-room.new.nodes c.assign.new.nodes c.assign.ensures.kept) c.requires.arena (omega (arith, cells_long c.args.nodes.now)) c.revert-room.ensures.kept c.assign.ensures.set c.assign.ensures.halves).1

pub returns-clause-walks : goal.returns-clause-walks
returns-clause-walks c =
    (taken_back c.args.family (undone c.args.undo (whole c.args.family (cells_of c.args.nodes.now)).routes) c.args.undo (vec_len c.args.nodes.now.halves) c.args.nodes.now.free c.revert-room.new.nodes.free c.assign.new.nodes.free (cells_of c.args.nodes.now) (cells_of c.revert-room.new.nodes) (cells_of c.assign.new.nodes) (best_in c.args.nodes.now) (best_in c.revert-room.new.nodes) (best_in c.assign.new.nodes)
    c.requires.undo.0 c.revert-room.ensures.cells c.revert-room.ensures.free c.assign.ensures.free (kept_is c.revert-room.new.nodes c.assign.new.nodes c.assign.ensures.kept) c.requires.arena (omega (arith, cells_long c.args.nodes.now)) c.revert-room.ensures.kept c.assign.ensures.set c.assign.ensures.halves).2

pub assign-requires : goal.assign-requires
assign-requires c = omega (arith, c.requires.undo.0.few, width_most c.args.family)
