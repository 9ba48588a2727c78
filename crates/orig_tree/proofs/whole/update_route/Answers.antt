use Rattle.std.proofs.Common.{cond, ◌≡◌, ◌≤◌, ℕ, List, arith, refl, sym, subst, vec_len}
use Rattle.orig_tree.specs.Arena.{cells_of, HalvesStay}
use Rattle.orig_tree.specs.Bests.{best_in, back}
use Rattle.orig_tree.proofs.Laying.{is_altered}
use Rattle.orig_tree.proofs.Undoing.{takes_back}
use Rattle.table_model.specs.Bits.{bits_of}
use Rattle.orig_tree.proofs.Costing.{cost_laid}
use Rattle.orig_tree.specs.declared.node.Node.{Node}
use Rattle.orig_tree.specs.declared.best.Best.{Best}
use Rattle.orig_tree.proofs.Stores.{cells_long, kept_is}
use Rattle.orig_tree.proofs.whole.update_route.Goals as goal

pub returns-clause-arena : goal.returns-clause-arena
returns-clause-arena g c =
    (is_altered c.args.family c.args.path.bits c.args.path.left c.requires.few (cells_of c.args.nodes.now) (cells_of c.args.nodes.now) c.args.nodes.now.free c.args.nodes.now.free (best_in c.args.nodes.now) (best_in c.args.nodes.now) c.requires.arena refl refl (λ j. refl) c.requires.best
    c.args.set c.width-depth.result (vec_len c.args.nodes.now.halves) c.in_ok-planned.planned.changes.items c.plan.new.out.changes.items (cond c.in_ok-plan.field-0 c.plan.new.out.near (best_in c.args.nodes.now 0)) (best_in c.commit.new.nodes) (best_in c.assign.new.nodes) (cells_of c.commit.new.nodes) (cells_of c.assign.new.nodes) c.commit.new.nodes.free c.assign.new.nodes.free
    c.commit.ensures.cells c.commit.ensures.free (kept_is c.commit.new.nodes c.assign.new.nodes c.assign.ensures.kept) c.requires.allowed c.width-depth.ensures c.in_ok-planned.ensures (omega (arith, cells_long c.args.nodes.now)) c.in_ok-plan.ensures.best c.commit.ensures.kept c.assign.ensures.free c.assign.ensures.set c.assign.ensures.halves).0

pub returns-clause-best : goal.returns-clause-best
returns-clause-best g c =
    (is_altered c.args.family c.args.path.bits c.args.path.left c.requires.few (cells_of c.args.nodes.now) (cells_of c.args.nodes.now) c.args.nodes.now.free c.args.nodes.now.free (best_in c.args.nodes.now) (best_in c.args.nodes.now) c.requires.arena refl refl (λ j. refl) c.requires.best
    c.args.set c.width-depth.result (vec_len c.args.nodes.now.halves) c.in_ok-planned.planned.changes.items c.plan.new.out.changes.items (cond c.in_ok-plan.field-0 c.plan.new.out.near (best_in c.args.nodes.now 0)) (best_in c.commit.new.nodes) (best_in c.assign.new.nodes) (cells_of c.commit.new.nodes) (cells_of c.assign.new.nodes) c.commit.new.nodes.free c.assign.new.nodes.free
    c.commit.ensures.cells c.commit.ensures.free (kept_is c.commit.new.nodes c.assign.new.nodes c.assign.ensures.kept) c.requires.allowed c.width-depth.ensures c.in_ok-planned.ensures (omega (arith, cells_long c.args.nodes.now)) c.in_ok-plan.ensures.best c.commit.ensures.kept c.assign.ensures.free c.assign.ensures.set c.assign.ensures.halves).1

pub returns-clause-walks : goal.returns-clause-walks
returns-clause-walks g c =
    (is_altered c.args.family c.args.path.bits c.args.path.left c.requires.few (cells_of c.args.nodes.now) (cells_of c.args.nodes.now) c.args.nodes.now.free c.args.nodes.now.free (best_in c.args.nodes.now) (best_in c.args.nodes.now) c.requires.arena refl refl (λ j. refl) c.requires.best
    c.args.set c.width-depth.result (vec_len c.args.nodes.now.halves) c.in_ok-planned.planned.changes.items c.plan.new.out.changes.items (cond c.in_ok-plan.field-0 c.plan.new.out.near (best_in c.args.nodes.now 0)) (best_in c.commit.new.nodes) (best_in c.assign.new.nodes) (cells_of c.commit.new.nodes) (cells_of c.assign.new.nodes) c.commit.new.nodes.free c.assign.new.nodes.free
    c.commit.ensures.cells c.commit.ensures.free (kept_is c.commit.new.nodes c.assign.new.nodes c.assign.ensures.kept) c.requires.allowed c.width-depth.ensures c.in_ok-planned.ensures (omega (arith, cells_long c.args.nodes.now)) c.in_ok-plan.ensures.best c.commit.ensures.kept c.assign.ensures.free c.assign.ensures.set c.assign.ensures.halves).2

pub returns-clause-back : goal.returns-clause-back
returns-clause-back g c = λ hop own there.
    takes_back c.args.family (record { path = c.args.path; changes = c.commit.new.changes; hop = hop }) c.args.set (vec_len c.args.nodes.now.halves) c.args.nodes.now.free (cells_of c.args.nodes.now) (cells_of c.assign.new.nodes) (best_in c.args.nodes.now) (best_in c.assign.new.nodes) c.requires.few
    own c.requires.arena c.requires.best (omega (arith, cells_long c.args.nodes.now))
    (subst (λ (K : ℕ → Best). (j : ℕ) → j ≤ vec_len c.args.nodes.now.halves → back c.commit.new.changes.items K j ≡ best_in c.args.nodes.now j) (sym (kept_is c.commit.new.nodes c.assign.new.nodes c.assign.ensures.kept)) c.commit.ensures.back)
    (subst (λ (cs : List Node). HalvesStay cs (cells_of c.assign.new.nodes)) c.commit.ensures.cells c.assign.ensures.halves)
    (is_altered c.args.family c.args.path.bits c.args.path.left c.requires.few (cells_of c.args.nodes.now) (cells_of c.args.nodes.now) c.args.nodes.now.free c.args.nodes.now.free (best_in c.args.nodes.now) (best_in c.args.nodes.now) c.requires.arena refl refl (λ j. refl) c.requires.best
    c.args.set c.width-depth.result (vec_len c.args.nodes.now.halves) c.in_ok-planned.planned.changes.items c.plan.new.out.changes.items (cond c.in_ok-plan.field-0 c.plan.new.out.near (best_in c.args.nodes.now 0)) (best_in c.commit.new.nodes) (best_in c.assign.new.nodes) (cells_of c.commit.new.nodes) (cells_of c.assign.new.nodes) c.commit.new.nodes.free c.assign.new.nodes.free
    c.commit.ensures.cells c.commit.ensures.free (kept_is c.commit.new.nodes c.assign.new.nodes c.assign.ensures.kept) c.requires.allowed c.width-depth.ensures c.in_ok-planned.ensures (omega (arith, cells_long c.args.nodes.now)) c.in_ok-plan.ensures.best c.commit.ensures.kept c.assign.ensures.free c.assign.ensures.set c.assign.ensures.halves).2 there

pub returns-in_err-plan-clause-steps : goal.returns-in_err-plan-clause-steps
returns-in_err-plan-clause-steps g c =
    cost_laid c.args.family (bits_of c.args.path.left c.args.path.bits) c.width-depth.result c.args.path.left (g.C.Counter.count c.args.steps.now) (g.C.Counter.count c.plan.new.steps) (g.C.Counter.count c.plan.new.steps) (cells_of c.args.nodes.now) (cells_of c.args.nodes.now)
    c.width-depth.ensures refl c.plan.ensures.steps (omega arith)

pub returns-clause-steps : goal.returns-clause-steps
returns-clause-steps g c =
    cost_laid c.args.family (bits_of c.args.path.left c.args.path.bits) c.width-depth.result c.args.path.left (g.C.Counter.count c.args.steps.now) (g.C.Counter.count c.plan.new.steps) (g.C.Counter.count c.plan.new.steps) (cells_of c.args.nodes.now) (cells_of c.args.nodes.now)
    c.width-depth.ensures refl c.plan.ensures.steps (omega arith)
