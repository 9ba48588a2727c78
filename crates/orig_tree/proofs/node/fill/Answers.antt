use Rattle.std.proofs.Common.{arith, refl}
use Rattle.orig_tree.specs.declared.node.Place.{Place}
use Rattle.orig_tree.proofs.Stores.{seen_put, kept_put}
use Rattle.orig_tree.proofs.node.fill.Goals as goal

pub returns-then-i-len-clause-cells : goal.returns-then-i-len-clause-cells
returns-then-i-len-clause-cells c = seen_put (λ (p : Place). p.node) c.args.nodes.now.root c.args.nodes.now.halves.items c.args.i _ c.if-i-eq0.false

pub returns-then-i-len-clause-kept : goal.returns-then-i-len-clause-kept
returns-then-i-len-clause-kept c = λ j l. kept_put c.args.nodes.now.root c.args.nodes.now.halves.items c.args.i j _ c.args.best refl c.if-i-eq0.false (λ e. omega (arith, e, l, c.args.nodes.now.halves.ok.0))

pub returns-then-i-len-clause-put : goal.returns-then-i-len-clause-put
returns-then-i-len-clause-put c = λ l j. kept_put c.args.nodes.now.root c.args.nodes.now.halves.items c.args.i j _ c.args.best refl c.if-i-eq0.false (λ e. omega (arith, l, c.args.nodes.now.halves.ok.0))
