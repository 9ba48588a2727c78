use Rattle.std.proofs.Common.{ap, ◌-◌}
use Rattle.orig_tree.specs.declared.node.Place.{Place}
use Rattle.orig_tree.proofs.Stores.{seen_put, seen_same}
use Rattle.orig_tree.proofs.node.put.Goals as goal

pub returns-then-i-len-clause-cells : goal.returns-then-i-len-clause-cells
returns-then-i-len-clause-cells c = seen_put (λ (p : Place). p.node) c.args.nodes.now.root c.args.nodes.now.halves.items c.args.i _ c.if-i-eq0.false

pub returns-then-i-len-clause-kept : goal.returns-then-i-len-clause-kept
returns-then-i-len-clause-kept c = seen_same (λ (p : Place). p.best) c.args.nodes.now.root c.args.nodes.now.halves.items (c.args.i - 1) _ _ (ap (λ (p : Place). p.best) c.index_mut.ensures.value)
