use Rattle.std.proofs.Common.{◌-◌, ℕ, suc, List, Bool, cond, not, refl, arith, ap, ◌∙◌, subst}
use Rattle.std.proofs.lemmas.Result.{IfOk-weaker}
use Rattle.table_model.specs.Bits.{bits_of}
use Rattle.table_model.specs.Table.{lpm}
use Rattle.orig_tree.specs.Edits.{edit}
use Rattle.table_model.specs.Sets.{side}
use Rattle.orig_tree.specs.Arena.{cells_of, half_place, Owner, IfHalf, IsTree, walks_at, from_half}
use Rattle.orig_tree.specs.Bests.{IsRegionBest, best_one, best_in, best_behind, changed, AreBest, Untouched, IsMended, HalfMended}
use Rattle.orig_tree.specs.declared.best.Best.{Best}
use Rattle.orig_tree.proofs.Mending.{plan_end, plan_node, way_none, way_more}
use Rattle.orig_tree.proofs.Stopping.{plan_same, plan_stays}
use Rattle.orig_tree.proofs.Costing.{way_end, way_step, way_new}
use Rattle.orig_tree.proofs.mend.+plan.Goals as goal

pub plan-returns-then-path-eq0-clause-best : goal.plan-returns-then-path-eq0-clause-best
plan-returns-then-path-eq0-clause-best g t c = λ name p s k u.
    let S = best_in c.args.nodes.now in
    plan_end (cells_of c.args.nodes.now) c.args.depth c.args.i c.args.path.left c.args.path.bits c.args.inherited c.unwrap_or.result c.args.out.now.set name p (changed c.args.out.now.changes.items S) (changed c.mend.new.out.changes.items S) c.in_ok-out.field-0 c.if-path-eq0.true c.unwrap_or.ensures
    (c.in_ok-out.ensures.best name p c.args.inherited s k u)

pub plan-returns-then-not-more-clause-best : goal.plan-returns-then-not-more-clause-best
plan-returns-then-not-more-clause-best g t c =
    let S = best_in c.args.nodes.now in
    plan_stays (cells_of c.args.nodes.now) c.args.i c.read-node.result c.read-node.ensures (c.args.depth - 1) c.args.depth (omega (arith, c.if-path-eq0.false, c.requires.few)) c.bit_at-bit.result c.half.result (half_place c.read-node.result (not c.bit_at-bit.result)) c.half.ensures refl
    c.args.path.left c.args.path.bits c.args.inherited c.unwrap_or-hop.result c.args.out.now.set c.if-path-eq0.false c.bit_at-bit.ensures c.unwrap_or-hop.ensures
    S c.args.out.now.changes.items c.plan_half.new.out.changes.items (cond c.in_ok-more.more c.plan_half.new.out.near (best_behind S c.half.result (best_one c.unwrap_or-hop.result))) c.in_ok-more.ensures.best
    (ap (λ (o : Bool). cond o c.plan_half.new.out.near (best_behind S c.half.result (best_one c.unwrap_or-hop.result))) c.if-not-more.true)

pub plan-returns-then-is_same-clause-best : goal.plan-returns-then-is_same-clause-best
plan-returns-then-is_same-clause-best g t c =
    let S = best_in c.args.nodes.now in
    let old = best_behind S c.half.result (best_one c.unwrap_or-hop.result) in
    plan_same (cells_of c.args.nodes.now) c.args.i c.read-node.result c.read-node.ensures (c.args.depth - 1) c.args.depth (omega (arith, c.if-path-eq0.false, c.requires.few)) c.bit_at-bit.result c.half.result c.half-2.result c.half.ensures c.half-2.ensures
    c.args.path.left c.args.path.bits c.args.inherited c.unwrap_or-hop.result c.args.out.now.set c.if-path-eq0.false c.bit_at-bit.ensures c.unwrap_or-hop.ensures
    S c.args.out.now.changes.items c.plan_half.new.out.changes.items (cond c.in_ok-more.more c.plan_half.new.out.near old) c.half_keeps-far.result.now c.in_ok-best.best c.in_ok-more.ensures.best
    (c.half_keeps-far.ensures ∙ ap (best_behind S c.half-2.result) c.one-bare.ensures)
    (λ d f v w. c.in_ok-best.ensures d f (subst (λ (y : Best). IsRegionBest d (side c.bit_at-bit.result f) y) (ap (λ (o : Bool). cond o c.plan_half.new.out.near old) c.if-not-more.false) v) w)
    (c.is_same.ensures c.if-is_same.true ∙ c.best_at.ensures)

pub plan-returns-clause-best : goal.plan-returns-clause-best
plan-returns-clause-best g t c =
    let S = best_in c.args.nodes.now in
    let old = best_behind S c.half.result (best_one c.unwrap_or-hop.result) in
    plan_node (cells_of c.args.nodes.now) c.args.i c.read-node.result c.read-node.ensures (c.args.depth - 1) c.args.depth (omega (arith, c.if-path-eq0.false, c.requires.few)) c.bit_at-bit.result c.half.result c.half-2.result c.half.ensures c.half-2.ensures
    c.args.path.left c.args.path.bits c.args.inherited c.unwrap_or-hop.result c.args.out.now.set c.if-path-eq0.false c.bit_at-bit.ensures c.unwrap_or-hop.ensures
    S c.args.out.now.changes.items c.plan_half.new.out.changes.items c.note.new.out.changes.items (cond c.in_ok-more.more c.plan_half.new.out.near old) c.half_keeps-far.result.now c.in_ok-best.best
    c.in_ok-more.ensures.best (c.half_keeps-far.ensures ∙ ap (best_behind S c.half-2.result) c.one-bare.ensures)
    (λ d f v w. c.in_ok-best.ensures d f (subst (λ (y : Best). IsRegionBest d (side c.bit_at-bit.result f) y) (ap (λ (o : Bool). cond o c.plan_half.new.out.near old) c.if-not-more.false) v) w)
    c.in_ok-note.ensures

pub plan_half-returns-in-None-clause-best : goal.plan_half-returns-in-None-clause-best
plan_half-returns-in-None-clause-best g t c = λ name p s k u. way_none (cells_of c.args.nodes.now) c.args.depth c.args.path.left c.args.path.bits c.args.inherited c.args.out.now.set c.args.half (changed c.args.out.now.changes.items (best_in c.args.nodes.now)) c.fresh.result c.in-None.is c.requires.few c.fresh.ensures name p

pub plan-returns-in_err-out-clause-steps : goal.plan-returns-in_err-out-clause-steps
plan-returns-in_err-out-clause-steps g t c = way_end (cells_of c.args.nodes.now) c.args.i c.args.path.left c.args.path.bits _ _ _ c.if-path-eq0.true c.mend.ensures.steps

pub plan-returns-then-path-eq0-clause-steps : goal.plan-returns-then-path-eq0-clause-steps
plan-returns-then-path-eq0-clause-steps g t c = way_end (cells_of c.args.nodes.now) c.args.i c.args.path.left c.args.path.bits _ _ _ c.if-path-eq0.true c.mend.ensures.steps

pub plan-returns-in_err-more-clause-steps : goal.plan-returns-in_err-more-clause-steps
plan-returns-in_err-more-clause-steps g t c = way_step (cells_of c.args.nodes.now) c.args.i (c.args.depth - 1) c.args.depth c.args.path.left c.args.path.bits c.bit_at-bit.result c.read-node.result c.half.result (g.C.Counter.count c.args.steps.now) (g.C.Counter.count c.plan_half.new.steps) (g.C.Counter.count c.plan_half.new.steps) c.read-node.ensures (omega (arith, c.if-path-eq0.false, c.requires.few)) c.if-path-eq0.false c.bit_at-bit.ensures c.half.ensures
    c.plan_half.ensures.steps (omega arith)

pub plan-returns-then-not-more-clause-steps : goal.plan-returns-then-not-more-clause-steps
plan-returns-then-not-more-clause-steps g t c = way_step (cells_of c.args.nodes.now) c.args.i (c.args.depth - 1) c.args.depth c.args.path.left c.args.path.bits c.bit_at-bit.result c.read-node.result c.half.result (g.C.Counter.count c.args.steps.now) (g.C.Counter.count c.plan_half.new.steps) (g.C.Counter.count c.plan_half.new.steps) c.read-node.ensures (omega (arith, c.if-path-eq0.false, c.requires.few)) c.if-path-eq0.false c.bit_at-bit.ensures c.half.ensures
    c.plan_half.ensures.steps (omega arith)

pub plan-returns-in_err-best-clause-steps : goal.plan-returns-in_err-best-clause-steps
plan-returns-in_err-best-clause-steps g t c = way_step (cells_of c.args.nodes.now) c.args.i (c.args.depth - 1) c.args.depth c.args.path.left c.args.path.bits c.bit_at-bit.result c.read-node.result c.half.result (g.C.Counter.count c.args.steps.now) (g.C.Counter.count c.plan_half.new.steps) (g.C.Counter.count c.tick.new.self) c.read-node.ensures (omega (arith, c.if-path-eq0.false, c.requires.few)) c.if-path-eq0.false c.bit_at-bit.ensures c.half.ensures
    c.plan_half.ensures.steps c.tick.ensures

pub plan-returns-then-is_same-clause-steps : goal.plan-returns-then-is_same-clause-steps
plan-returns-then-is_same-clause-steps g t c = way_step (cells_of c.args.nodes.now) c.args.i (c.args.depth - 1) c.args.depth c.args.path.left c.args.path.bits c.bit_at-bit.result c.read-node.result c.half.result (g.C.Counter.count c.args.steps.now) (g.C.Counter.count c.plan_half.new.steps) (g.C.Counter.count c.tick.new.self) c.read-node.ensures (omega (arith, c.if-path-eq0.false, c.requires.few)) c.if-path-eq0.false c.bit_at-bit.ensures c.half.ensures
    c.plan_half.ensures.steps c.tick.ensures

pub plan-returns-in_err-note-clause-steps : goal.plan-returns-in_err-note-clause-steps
plan-returns-in_err-note-clause-steps g t c = way_step (cells_of c.args.nodes.now) c.args.i (c.args.depth - 1) c.args.depth c.args.path.left c.args.path.bits c.bit_at-bit.result c.read-node.result c.half.result (g.C.Counter.count c.args.steps.now) (g.C.Counter.count c.plan_half.new.steps) (g.C.Counter.count c.tick.new.self) c.read-node.ensures (omega (arith, c.if-path-eq0.false, c.requires.few)) c.if-path-eq0.false c.bit_at-bit.ensures c.half.ensures
    c.plan_half.ensures.steps c.tick.ensures

pub plan-returns-clause-steps : goal.plan-returns-clause-steps
plan-returns-clause-steps g t c = way_step (cells_of c.args.nodes.now) c.args.i (c.args.depth - 1) c.args.depth c.args.path.left c.args.path.bits c.bit_at-bit.result c.read-node.result c.half.result (g.C.Counter.count c.args.steps.now) (g.C.Counter.count c.plan_half.new.steps) (g.C.Counter.count c.tick.new.self) c.read-node.ensures (omega (arith, c.if-path-eq0.false, c.requires.few)) c.if-path-eq0.false c.bit_at-bit.ensures c.half.ensures
    c.plan_half.ensures.steps c.tick.ensures

pub plan_half-returns-in-None-clause-steps : goal.plan_half-returns-in-None-clause-steps
plan_half-returns-in-None-clause-steps g t c = way_new (cells_of c.args.nodes.now) c.args.path.left c.args.path.bits _ c.args.half _ c.in-None.is

pub plan_half-returns-in-Some-clause-best : goal.plan_half-returns-in-Some-clause-best
plan_half-returns-in-Some-clause-best g t c =
    let S = best_in c.args.nodes.now in
    let S0 = changed c.args.out.now.changes.items S in
    let S1 = changed c.plan.new.out.changes.items S in
    let cells = cells_of c.args.nodes.now in
    IfOk-weaker c.plan.result
    (λ x. (name : ℕ → Owner) (p : List Bool) → IsTree (suc c.args.depth) cells name c.in-Some.j p → AreBest (suc c.args.depth) cells S (λ a. lpm (walks_at (suc c.args.depth) cells c.in-Some.j).routes a c.args.inherited) c.in-Some.j → Untouched p name S S0 →
    IsMended c.args.depth cells name c.in-Some.j p (λ a. lpm (edit (bits_of c.args.path.left c.args.path.bits) c.args.out.now.set (walks_at (suc c.args.depth) cells c.in-Some.j).routes) a c.args.inherited) S0 S1 (cond x c.plan.new.out.near (S c.in-Some.j)))
    (λ x. (name : ℕ → Owner) (p : List Bool) → IfHalf (λ j. IsTree (suc c.args.depth) cells name j p) c.args.half → IfHalf (λ j. AreBest (suc c.args.depth) cells S (λ a. lpm (walks_at (suc c.args.depth) cells j).routes a c.args.inherited) j) c.args.half → Untouched p name S S0 →
    HalfMended c.args.depth cells name c.args.half p (λ a. lpm (edit (bits_of c.args.path.left c.args.path.bits) c.args.out.now.set (from_half (walks_at (suc c.args.depth) cells) c.args.half).routes) a c.args.inherited) S0 S1 (cond x c.plan.new.out.near (best_behind S c.args.half (best_one c.args.inherited))))
    (λ x m. way_more cells c.args.depth c.args.path.left c.args.path.bits c.args.inherited c.args.out.now.set c.args.half c.in-Some.j S S0 S1 x c.plan.new.out.near c.in-Some.is m) c.plan.ensures.best
