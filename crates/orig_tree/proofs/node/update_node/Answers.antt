use Rattle.std.proofs.Common.{◌≡◌, List, Option, ℕ, Bool, true, false, not, sym, ap, ◌∙◌, refl, slice_set}
use Rattle.orig_tree.specs.Arena.{cells_of, cell_at, labelled_slot, with_slot, slot_over, relabelled, cover_of}
use Rattle.orig_tree.specs.Packed.{opened}
use Rattle.orig_tree.specs.declared.node.Node.{Node}
use Rattle.orig_tree.specs.declared.cover.Slot.{Slot}
use Rattle.orig_tree.specs.declared.node.Label.{Label}
use Rattle.orig_tree.specs.declared.node.Label.TheVariants.{Route, Entry}
use Rattle.orig_tree.proofs.node.update_node.Goals as goal

-- the node with the label that is told is the node that is told again
with_told : (label : Label) (hop : Option ℕ) (cells : List Node) (n : Node) → with_slot label (slot_over label hop cells n.low n.high) n ≡ relabelled label hop cells n
with_told Route hop cells n = refl
with_told Entry hop cells n = refl

told_same : (label : Label) (hop : Option ℕ) (cells : List Node) (n : Node) → (slot_over label hop cells n.low n.high).kept ≡ (labelled_slot label n).kept → cover_of label (relabelled label hop cells n) ≡ cover_of label n
told_same Route hop cells n e = ap opened e
told_same Entry hop cells n e = ap opened e

is_true : (b : Bool) → not b ≡ false → b ≡ true
is_true true e = refl
is_true false e = cc

pub returns-clause-cells : goal.returns-clause-cells
returns-clause-cells c =
    let cells = cells_of c.args.nodes.now in
    let n = cell_at cells c.args.i in
    c.put_slot.ensures.cells ∙ ap (slice_set cells c.args.i) (ap (λ s. with_slot c.args.label s n) (c.told-slot.ensures ∙ ap (λ (x : Node). slot_over c.args.label c.args.hop cells x.low x.high) c.read-node.ensures) ∙ with_told c.args.label c.args.hop cells n)

pub returns-clause-same : goal.returns-clause-same
returns-clause-same c = λ e.
    let cells = cells_of c.args.nodes.now in
    let told = c.told-slot.ensures ∙ ap (λ (x : Node). slot_over c.args.label c.args.hop cells x.low x.high) c.read-node.ensures in
    told_same c.args.label c.args.hop cells (cell_at cells c.args.i)
    (ap (λ (s : Slot). s.kept) (sym told) ∙ (c.is_same.ensures (is_true c.is_same.result e) ∙ ap (λ (s : Slot). s.kept) (c.slot.ensures ∙ ap (labelled_slot c.args.label) c.read-node.ensures)))
