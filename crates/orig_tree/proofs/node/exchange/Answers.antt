use Rattle.std.proofs.Common.{arith, ap, ◌∙◌, ◌-◌}
use Rattle.orig_tree.specs.declared.node.Place.{Place}
use Rattle.orig_tree.proofs.Stores.{seen_same, kept_put, kept_at}
use Rattle.orig_tree.proofs.node.exchange.Goals as goal

pub returns-then-i-len-clause-cells : goal.returns-then-i-len-clause-cells
returns-then-i-len-clause-cells c = seen_same (λ (p : Place). p.node) c.args.nodes.now.root c.args.nodes.now.halves.items (c.args.i - 1) _ _ (ap (λ (p : Place). p.node) c.index_mut.ensures.value)

pub returns-then-i-len-clause-kept : goal.returns-then-i-len-clause-kept
returns-then-i-len-clause-kept c = λ j l. kept_put c.args.nodes.now.root c.args.nodes.now.halves.items c.args.i j _ c.args.best.now c.swap-then-i-len.ensures.x_after c.if-i-eq0.false (λ e. omega (arith, e, l, c.args.nodes.now.halves.ok.0))

pub returns-then-i-len-clause-put : goal.returns-then-i-len-clause-put
returns-then-i-len-clause-put c = λ l j. kept_put c.args.nodes.now.root c.args.nodes.now.halves.items c.args.i j _ c.args.best.now c.swap-then-i-len.ensures.x_after c.if-i-eq0.false (λ e. omega (arith, l, c.args.nodes.now.halves.ok.0))

pub returns-then-i-len-clause-given : goal.returns-then-i-len-clause-given
returns-then-i-len-clause-given c = λ l. c.swap-then-i-len.ensures.y_after ∙ (ap (λ (p : Place). p.best) c.index_mut.ensures.value ∙ kept_at c.args.nodes.now.root c.args.nodes.now.halves.items c.args.i _ c.if-i-eq0.false (omega (arith, l, c.args.nodes.now.halves.ok.0)))
