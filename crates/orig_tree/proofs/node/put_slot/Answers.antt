use Rattle.std.proofs.Common.{ap, ◌-◌, ◌∙◌, arith, slice_set}
use Rattle.orig_tree.specs.Arena.{cells_of, with_slot}
use Rattle.orig_tree.specs.declared.node.Place.{Place}
use Rattle.orig_tree.proofs.Stores.{seen_put, seen_same, node_at}
use Rattle.orig_tree.proofs.node.put_slot.Goals as goal

pub returns-then-i-len-clause-cells : goal.returns-then-i-len-clause-cells
returns-then-i-len-clause-cells c =
    let root = c.args.nodes.now.root in
    let places = c.args.nodes.now.halves.items in
    seen_put (λ (p : Place). p.node) root places c.args.i _ c.if-i-eq0.false
    ∙ ap (slice_set (cells_of c.args.nodes.now) c.args.i) (c.set_slot-then-i-len.ensures ∙ ap (with_slot c.args.label c.args.slot)
    (ap (λ (p : Place). p.node) c.index_mut.ensures.value ∙ node_at root places c.args.i _ c.if-i-eq0.false (omega (arith, c.if-i-len.true, c.len.ensures, c.args.nodes.now.halves.ok.0))))

pub returns-then-i-len-clause-kept : goal.returns-then-i-len-clause-kept
returns-then-i-len-clause-kept c = seen_same (λ (p : Place). p.best) c.args.nodes.now.root c.args.nodes.now.halves.items (c.args.i - 1) _ _ (ap (λ (p : Place). p.best) c.index_mut.ensures.value)
