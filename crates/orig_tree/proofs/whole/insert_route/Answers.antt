use Rattle.std.proofs.Common.{cond, ◌≤◌, ◌+◌, List, arith, subst, vec_len}
use Rattle.table_model.specs.Bits.{bits_of}
use Rattle.orig_tree.specs.Arena.{cells_of}
use Rattle.orig_tree.specs.Bests.{best_in}
use Rattle.orig_tree.specs.Steps.{new_nodes}
use Rattle.orig_tree.specs.declared.node.Node.{Node}
use Rattle.orig_tree.proofs.Laying.{is_laid}
use Rattle.orig_tree.proofs.Costing.{cost_laid}
use Rattle.orig_tree.proofs.Stores.{cells_long}
use Rattle.orig_tree.proofs.whole.insert_route.Goals as goal

pub returns-clause-arena : goal.returns-clause-arena
returns-clause-arena g c =
    let v = c.in_ok-reserve.ensures in
    (is_laid c.args.family c.args.path.bits c.args.path.left c.requires.few (cells_of c.args.nodes.now) (cells_of c.reserve.new.nodes) c.args.nodes.now.free c.reserve.new.nodes.free (best_in c.args.nodes.now) (best_in c.reserve.new.nodes) c.requires.arena v.cells.0 v.cells.1 v.kept c.requires.best
    c.args.hop c.width-depth.result (vec_len c.reserve.new.nodes.halves) c.in_ok-planned.planned.changes.items c.plan.new.out.changes.items (cond c.in_ok-plan.field-0 c.plan.new.out.near (best_in c.reserve.new.nodes 0)) (best_in c.commit.new.nodes) (best_in c.grow_label.new.nodes) (cells_of c.commit.new.nodes) (cells_of c.grow_label.new.nodes) c.commit.new.nodes.free c.grow_label.new.nodes.free c.grow_label.result
    c.commit.ensures.cells c.commit.ensures.free c.width-depth.ensures c.in_ok-planned.ensures (omega (arith, cells_long c.reserve.new.nodes)) c.in_ok-plan.ensures.best c.commit.ensures.kept c.grow_label.ensures.made).0

pub returns-clause-best : goal.returns-clause-best
returns-clause-best g c =
    let v = c.in_ok-reserve.ensures in
    (is_laid c.args.family c.args.path.bits c.args.path.left c.requires.few (cells_of c.args.nodes.now) (cells_of c.reserve.new.nodes) c.args.nodes.now.free c.reserve.new.nodes.free (best_in c.args.nodes.now) (best_in c.reserve.new.nodes) c.requires.arena v.cells.0 v.cells.1 v.kept c.requires.best
    c.args.hop c.width-depth.result (vec_len c.reserve.new.nodes.halves) c.in_ok-planned.planned.changes.items c.plan.new.out.changes.items (cond c.in_ok-plan.field-0 c.plan.new.out.near (best_in c.reserve.new.nodes 0)) (best_in c.commit.new.nodes) (best_in c.grow_label.new.nodes) (cells_of c.commit.new.nodes) (cells_of c.grow_label.new.nodes) c.commit.new.nodes.free c.grow_label.new.nodes.free c.grow_label.result
    c.commit.ensures.cells c.commit.ensures.free c.width-depth.ensures c.in_ok-planned.ensures (omega (arith, cells_long c.reserve.new.nodes)) c.in_ok-plan.ensures.best c.commit.ensures.kept c.grow_label.ensures.made).1

pub returns-clause-laid : goal.returns-clause-laid
returns-clause-laid g c =
    let v = c.in_ok-reserve.ensures in
    (is_laid c.args.family c.args.path.bits c.args.path.left c.requires.few (cells_of c.args.nodes.now) (cells_of c.reserve.new.nodes) c.args.nodes.now.free c.reserve.new.nodes.free (best_in c.args.nodes.now) (best_in c.reserve.new.nodes) c.requires.arena v.cells.0 v.cells.1 v.kept c.requires.best
    c.args.hop c.width-depth.result (vec_len c.reserve.new.nodes.halves) c.in_ok-planned.planned.changes.items c.plan.new.out.changes.items (cond c.in_ok-plan.field-0 c.plan.new.out.near (best_in c.reserve.new.nodes 0)) (best_in c.commit.new.nodes) (best_in c.grow_label.new.nodes) (cells_of c.commit.new.nodes) (cells_of c.grow_label.new.nodes) c.commit.new.nodes.free c.grow_label.new.nodes.free c.grow_label.result
    c.commit.ensures.cells c.commit.ensures.free c.width-depth.ensures c.in_ok-planned.ensures (omega (arith, cells_long c.reserve.new.nodes)) c.in_ok-plan.ensures.best c.commit.ensures.kept c.grow_label.ensures.made).2

pub returns-in_err-plan-clause-steps : goal.returns-in_err-plan-clause-steps
returns-in_err-plan-clause-steps g c =
    cost_laid c.args.family (bits_of c.args.path.left c.args.path.bits) c.width-depth.result c.args.path.left (g.C.Counter.count c.args.steps.now) (g.C.Counter.count c.plan.new.steps) (g.C.Counter.count c.plan.new.steps) (cells_of c.args.nodes.now) (cells_of c.reserve.new.nodes)
    c.width-depth.ensures c.in_ok-reserve.ensures.cells.0 c.plan.ensures.steps (omega arith)

pub returns-clause-steps : goal.returns-clause-steps
returns-clause-steps g c =
    cost_laid c.args.family (bits_of c.args.path.left c.args.path.bits) c.width-depth.result c.args.path.left (g.C.Counter.count c.args.steps.now) (g.C.Counter.count c.plan.new.steps) (g.C.Counter.count c.grow_label.new.steps) (cells_of c.args.nodes.now) (cells_of c.reserve.new.nodes)
    c.width-depth.ensures c.in_ok-reserve.ensures.cells.0 c.plan.ensures.steps
    (subst (λ (cs : List Node). g.C.Counter.count c.grow_label.new.steps ≤ g.C.Counter.count c.plan.new.steps + new_nodes cs (bits_of c.args.path.left c.args.path.bits) 0) c.commit.ensures.cells c.grow_label.ensures.steps)
