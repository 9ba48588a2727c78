use Rattle.std.proofs.Common.{◌≡◌, ℕ, suc, ◌-◌, List, Bool, true, arith, refl, sym, ◌∙◌}
use Rattle.std.proofs.lemmas.Result.{IfOk-weaker}
use Rattle.table_model.specs.Table.{lpm}
use Rattle.orig_tree.specs.Arena.{cells_of, half_place, Owner, IfHalf, IsTree, walks_at, from_half}
use Rattle.orig_tree.specs.Bests.{best_in, changed, under, AreBest, Untouched, IsMended, HalfMended}
use Rattle.orig_tree.specs.Packed.{cover_in}
use Rattle.orig_tree.proofs.Mending.{mend_end, mend_node, half_none, half_stays, half_mended, open_own}
use Rattle.orig_tree.proofs.Costing.{one_kept, both_kept}
use Rattle.orig_tree.proofs.mend.+mend.Goals as goal

pub mend-returns-then-depth-eq0-clause-best : goal.mend-returns-then-depth-eq0-clause-best
mend-returns-then-depth-eq0-clause-best g t c = λ name p h s k u. mend_end (cells_of c.args.nodes.now) c.args.i c.args.hop c.args.depth (best_in c.args.nodes.now) c.args.out.now.changes.items c.note.new.out.changes.items c.one-best.result c.if-depth-eq0.true c.one-best.ensures c.in_ok-note.ensures name p s

pub mend-returns-clause-best : goal.mend-returns-clause-best
mend-returns-clause-best g t c = mend_node (cells_of c.args.nodes.now) c.args.i c.read-node.result c.read-node.ensures (c.args.depth - 1) c.args.depth (omega (arith, c.if-depth-eq0.false)) c.half.result c.half-2.result c.half.ensures c.half-2.ensures
    c.args.hop (best_in c.args.nodes.now) c.args.out.now.changes.items c.mend_half.new.out.changes.items c.mend_half-2.new.out.changes.items c.note-2.new.out.changes.items c.in_ok-low.low c.in_ok-high.high c.in_ok-best.best
    c.in_ok-low.ensures.best c.in_ok-high.ensures.best c.in_ok-best.ensures c.in_ok-note-2.ensures

pub mend_half-returns-in-None-clause-best : goal.mend_half-returns-in-None-clause-best
mend_half-returns-in-None-clause-best g t c = λ name p h s k u. half_none (cells_of c.args.nodes.now) c.args.depth c.args.hop c.args.half (changed c.args.out.now.changes.items (best_in c.args.nodes.now)) c.one.result c.in-None.is c.one.ensures name p

pub mend_half-returns-else-is_open-clause-best : goal.mend_half-returns-else-is_open-clause-best
mend_half-returns-else-is_open-clause-best g t c =
    let S = best_in c.args.nodes.now in
    let S0 = changed c.args.out.now.changes.items S in
    let cells = cells_of c.args.nodes.now in
    IfOk-weaker c.copied.result (λ x. x ≡ c.best_at.result.now)
    (λ x. (name : ℕ → Owner) (p : List Bool) (h : ℕ) → IfHalf (λ j. IsTree (suc c.args.depth) cells name j p) c.args.half → IfHalf (λ j. AreBest (suc c.args.depth) cells S (λ a. lpm (walks_at (suc c.args.depth) cells j).routes a h) j) c.args.half → Untouched p name S S0 →
    HalfMended c.args.depth cells name c.args.half p (λ a. lpm (from_half (walks_at (suc c.args.depth) cells) c.args.half).routes a c.args.hop) S0 S0 x)
    (λ x e name p h s k u. half_stays cells c.args.depth c.args.hop c.args.half c.in-Some.j c.read.result c.read.ensures c.in-Some.is name p h S S0 x (sym c.is_open.ensures ∙ c.if-is_open.false) (e ∙ c.best_at.ensures) s k u)
    c.copied.ensures

pub mend_half-returns-then-is_open-clause-best : goal.mend_half-returns-then-is_open-clause-best
mend_half-returns-then-is_open-clause-best g t c =
    let own = open_own c.read.result.route.hop (cover_in c.read.result.route).passes c.is_open.result c.is_open.ensures c.if-is_open.true in
    let S = best_in c.args.nodes.now in
    let S0 = changed c.args.out.now.changes.items S in
    let S1 = changed c.mend.new.out.changes.items S in
    let cells = cells_of c.args.nodes.now in
    IfOk-weaker c.mend.result
    (λ x. (name : ℕ → Owner) (p : List Bool) (h : ℕ) → IsTree (suc c.args.depth) cells name c.in-Some.j p → AreBest (suc c.args.depth) cells S (λ a. lpm (walks_at (suc c.args.depth) cells c.in-Some.j).routes a h) c.in-Some.j → Untouched p name S S0 →
    IsMended c.args.depth cells name c.in-Some.j p (under c.args.hop (walks_at (suc c.args.depth) cells c.in-Some.j).routes) S0 S1 x)
    (λ x. (name : ℕ → Owner) (p : List Bool) (h : ℕ) → IfHalf (λ j. IsTree (suc c.args.depth) cells name j p) c.args.half → IfHalf (λ j. AreBest (suc c.args.depth) cells S (λ a. lpm (walks_at (suc c.args.depth) cells j).routes a h) j) c.args.half → Untouched p name S S0 →
    HalfMended c.args.depth cells name c.args.half p (λ a. lpm (from_half (walks_at (suc c.args.depth) cells) c.args.half).routes a c.args.hop) S0 S1 x)
    (λ x m name p h s k u. half_mended cells c.args.depth c.args.hop c.args.half c.in-Some.j c.read.result c.read.ensures c.in-Some.is name p h S S0 S1 x own (λ s' k'. m name p h s' k' u) s k)
    c.mend.ensures.best

pub mend-returns-in_err-note-clause-steps : goal.mend-returns-in_err-note-clause-steps
mend-returns-in_err-note-clause-steps g t c = one_kept (cells_of c.args.nodes.now) c.args.i c.args.depth _ _ c.tick.ensures

pub mend-returns-then-depth-eq0-clause-steps : goal.mend-returns-then-depth-eq0-clause-steps
mend-returns-then-depth-eq0-clause-steps g t c = one_kept (cells_of c.args.nodes.now) c.args.i c.args.depth _ _ c.tick.ensures

pub mend-returns-in_err-low-clause-steps : goal.mend-returns-in_err-low-clause-steps
mend-returns-in_err-low-clause-steps g t c = both_kept (cells_of c.args.nodes.now) c.args.i (c.args.depth - 1) c.args.depth c.read-node.result c.half.result (half_place c.read-node.result true) (g.C.Counter.count c.args.steps.now) (g.C.Counter.count c.mend_half.new.steps) (g.C.Counter.count c.mend_half.new.steps) (g.C.Counter.count c.mend_half.new.steps) c.read-node.ensures (omega (arith, c.if-depth-eq0.false)) c.half.ensures refl
    c.mend_half.ensures.steps (omega arith) (omega arith)

pub mend-returns-in_err-high-clause-steps : goal.mend-returns-in_err-high-clause-steps
mend-returns-in_err-high-clause-steps g t c = both_kept (cells_of c.args.nodes.now) c.args.i (c.args.depth - 1) c.args.depth c.read-node.result c.half.result c.half-2.result (g.C.Counter.count c.args.steps.now) (g.C.Counter.count c.mend_half.new.steps) (g.C.Counter.count c.mend_half-2.new.steps) (g.C.Counter.count c.mend_half-2.new.steps) c.read-node.ensures (omega (arith, c.if-depth-eq0.false)) c.half.ensures c.half-2.ensures
    c.mend_half.ensures.steps c.mend_half-2.ensures.steps (omega arith)

pub mend-returns-in_err-best-clause-steps : goal.mend-returns-in_err-best-clause-steps
mend-returns-in_err-best-clause-steps g t c = both_kept (cells_of c.args.nodes.now) c.args.i (c.args.depth - 1) c.args.depth c.read-node.result c.half.result c.half-2.result (g.C.Counter.count c.args.steps.now) (g.C.Counter.count c.mend_half.new.steps) (g.C.Counter.count c.mend_half-2.new.steps) (g.C.Counter.count c.tick-2.new.self) c.read-node.ensures (omega (arith, c.if-depth-eq0.false)) c.half.ensures c.half-2.ensures
    c.mend_half.ensures.steps c.mend_half-2.ensures.steps c.tick-2.ensures

pub mend-returns-in_err-note-2-clause-steps : goal.mend-returns-in_err-note-2-clause-steps
mend-returns-in_err-note-2-clause-steps g t c = both_kept (cells_of c.args.nodes.now) c.args.i (c.args.depth - 1) c.args.depth c.read-node.result c.half.result c.half-2.result (g.C.Counter.count c.args.steps.now) (g.C.Counter.count c.mend_half.new.steps) (g.C.Counter.count c.mend_half-2.new.steps) (g.C.Counter.count c.tick-2.new.self) c.read-node.ensures (omega (arith, c.if-depth-eq0.false)) c.half.ensures c.half-2.ensures
    c.mend_half.ensures.steps c.mend_half-2.ensures.steps c.tick-2.ensures

pub mend-returns-clause-steps : goal.mend-returns-clause-steps
mend-returns-clause-steps g t c = both_kept (cells_of c.args.nodes.now) c.args.i (c.args.depth - 1) c.args.depth c.read-node.result c.half.result c.half-2.result (g.C.Counter.count c.args.steps.now) (g.C.Counter.count c.mend_half.new.steps) (g.C.Counter.count c.mend_half-2.new.steps) (g.C.Counter.count c.tick-2.new.self) c.read-node.ensures (omega (arith, c.if-depth-eq0.false)) c.half.ensures c.half-2.ensures
    c.mend_half.ensures.steps c.mend_half-2.ensures.steps c.tick-2.ensures
