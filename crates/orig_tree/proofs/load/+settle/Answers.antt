use Rattle.std.proofs.Common.{◌-◌, ℕ, suc, List, Bool, arith, subst, ◌∙◌}
use Rattle.std.proofs.lemmas.Result.{on_ok_weaker}
use Rattle.table_model.specs.Table.{lpm}
use Rattle.orig_tree.specs.Arena.{cells_of, Owner, IfHalf, IsTree, walks_at, from_half}
use Rattle.orig_tree.specs.Bests.{best_in, best_one, best_behind, HalfMended}
use Rattle.orig_tree.specs.declared.node.Node.{Node}
use Rattle.orig_tree.proofs.Stores.{cells_long}
use Rattle.orig_tree.proofs.Mending.{settle_node, settle_end}
use Rattle.orig_tree.proofs.Loading.{settled_none, settled_some}
use Rattle.orig_tree.proofs.load.+settle.Goals as goal

pub settle-returns-then-depth-eq0-clause-best : goal.settle-returns-then-depth-eq0-clause-best
settle-returns-then-depth-eq0-clause-best t c = λ name p s.
    settle_end (cells_of c.args.nodes.now) c.args.i c.args.inherited c.unwrap_or-hop.result c.args.depth c.read-node.result (best_in c.args.nodes.now) (best_in c.exchange.new.nodes) c.one-best.result c.if-depth-eq0.true c.read-node.ensures c.unwrap_or-hop.ensures c.one-best.ensures
    (λ l. c.exchange.ensures.put (omega (arith, l, cells_long c.args.nodes.now))) name p s

pub settle-returns-clause-best : goal.settle-returns-clause-best
settle-returns-clause-best t c = λ name p s.
    settle_node (cells_of c.args.nodes.now) c.args.i c.read-node.result c.read-node.ensures (c.args.depth - 1) c.args.depth (omega (arith, c.if-depth-eq0.false)) c.half-low.result c.half-high.result c.half-low.ensures c.half-high.ensures
    c.args.inherited c.unwrap_or-hop.result (best_in c.args.nodes.now) (best_in c.settle_half.new.nodes) (best_in c.settle_half-2.new.nodes) (best_in c.exchange-2.new.nodes) c.in_ok-best.best c.unwrap_or-hop.ensures
    c.in_ok-settle_half.ensures.best
    (subst (λ (cs : List Node). (name : ℕ → Owner) (p : List Bool) → IfHalf (λ j. IsTree (suc (c.args.depth - 1)) cs name j p) c.half-high.result → HalfMended (c.args.depth - 1) cs name c.half-high.result p (λ a. lpm (from_half (walks_at (suc (c.args.depth - 1)) cs) c.half-high.result).routes a c.unwrap_or-hop.result)
    (best_in c.settle_half.new.nodes) (best_in c.settle_half-2.new.nodes) (best_behind (best_in c.settle_half-2.new.nodes) c.half-high.result (best_one c.unwrap_or-hop.result)))
    c.settle_half.ensures.cells c.in_ok-settle_half-2.ensures.best) c.in_ok-best.ensures
    (λ l. c.exchange-2.ensures.put (omega (arith, l, c.settle_half.ensures.len, c.settle_half-2.ensures.len, cells_long c.args.nodes.now))) name p s

pub settle_half-returns-in-None-clause-best : goal.settle_half-returns-in-None-clause-best
settle_half-returns-in-None-clause-best t c = λ name p s. settled_none (cells_of c.args.nodes.now) c.args.depth c.args.inherited c.args.half (best_in c.args.nodes.now) c.in-None.is name p

pub settle-returns-clause-cells : goal.settle-returns-clause-cells
settle-returns-clause-cells t c = c.exchange-2.ensures.cells ∙ (c.settle_half-2.ensures.cells ∙ c.settle_half.ensures.cells)

pub settle_half-returns-in-Some-clause-best : goal.settle_half-returns-in-Some-clause-best
settle_half-returns-in-Some-clause-best t c =
    on_ok_weaker c.settle.result (λ f. settled_some (cells_of c.args.nodes.now) c.args.depth c.args.inherited c.in-Some.j c.args.half (best_in c.args.nodes.now) (best_in c.settle.new.nodes) c.in-Some.is f) c.settle.ensures.best
