use Rattle.std.proofs.Common.{ap, sym, ◌∙◌, ◌-◌}
use Rattle.table_model.specs.Bits.{bits_of}
use Rattle.orig_tree.specs.Walk.{has_node}
use Rattle.orig_tree.specs.Arena.{cells_of, from_half, walks_at}
use Rattle.orig_tree.proofs.Rooms.{end_node, step_node, no_node}
use Rattle.orig_tree.proofs.node.+is_node.Goals as goal

pub returns-then-path-eq0 : goal.returns-then-path-eq0
returns-then-path-eq0 t c = λ d l. end_node (cells_of c.args.nodes.now) c.args.i c.args.path.left c.args.path.bits d c.if-path-eq0.true l

pub returns-in-None : goal.returns-in-None
returns-in-None t c = λ d l. step_node (cells_of c.args.nodes.now) c.read.result c.args.i c.args.path.left c.args.path.bits c.bit_at.result c.half.result _ d c.read.ensures c.half.ensures c.if-path-eq0.false c.bit_at.ensures
    (λ e m. no_node (cells_of c.args.nodes.now) c.half.result _ e c.in-None.is) l

pub returns-in-Some : goal.returns-in-Some
returns-in-Some t c = λ d l. step_node (cells_of c.args.nodes.now) c.read.result c.args.i c.args.path.left c.args.path.bits c.bit_at.result c.half.result _ d c.read.ensures c.half.ensures c.if-path-eq0.false c.bit_at.ensures
    (λ e m. c.is_node.ensures e m ∙ sym (ap (λ o. has_node (bits_of (c.args.path.left - 1) c.args.path.bits) (from_half (walks_at e (cells_of c.args.nodes.now)) o).nodes) c.in-Some.is)) l
