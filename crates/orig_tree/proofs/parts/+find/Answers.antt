use Rattle.std.proofs.Common.{◌-◌, arith, refl, sym, ap, ◌∙◌}
use Rattle.table_model.specs.Bits.{bits_of}
use Rattle.table_model.specs.Regions.{entry_at}
use Rattle.orig_tree.specs.Walk.{has_node}
use Rattle.orig_tree.specs.Arena.{cells_of, from_half, walks_at}
use Rattle.orig_tree.specs.declared.node.Label.TheVariants.{Route}
use Rattle.orig_tree.proofs.Branching.{own_hop}
use Rattle.orig_tree.proofs.Rooms.{end_node, step_node, no_node}
use Rattle.orig_tree.proofs.Within.{at_end, route_step, no_route}
use Rattle.orig_tree.proofs.parts.+find.Goals as goal

pub returns-then-path-eq0-clause-node : goal.returns-then-path-eq0-clause-node
returns-then-path-eq0-clause-node t c = λ d l. end_node (cells_of c.args.nodes.now) c.args.i c.args.path.left c.args.path.bits d c.if-path-eq0.true l

pub returns-then-path-eq0-clause-route : goal.returns-then-path-eq0-clause-route
returns-then-path-eq0-clause-route t c = λ d l.
    let cells = cells_of c.args.nodes.now in
    at_end (walks_at d cells c.args.i).routes c.args.path.left c.args.path.bits _ c.if-path-eq0.true (own_hop Route d cells c.args.i _ _ (λ e. omega arith) refl refl)

pub returns-in-None-clause-node : goal.returns-in-None-clause-node
returns-in-None-clause-node t c = λ d l. step_node (cells_of c.args.nodes.now) c.read.result c.args.i c.args.path.left c.args.path.bits c.bit_at.result c.half.result _ d c.read.ensures c.half.ensures c.if-path-eq0.false c.bit_at.ensures
    (λ e m. no_node (cells_of c.args.nodes.now) c.half.result _ e c.in-None.is) l

pub returns-in-None-clause-route : goal.returns-in-None-clause-route
returns-in-None-clause-route t c = λ d l.
    route_step (cells_of c.args.nodes.now) c.read.result c.args.i c.args.path.left c.args.path.bits c.bit_at.result c.half.result c.read.ensures c.half.ensures c.if-path-eq0.false c.bit_at.ensures _ d
    (λ e m. no_route (cells_of c.args.nodes.now) c.half.result (bits_of (c.args.path.left - 1) c.args.path.bits) e c.in-None.is) l

pub returns-in-Some-clause-node : goal.returns-in-Some-clause-node
returns-in-Some-clause-node t c = λ d l. step_node (cells_of c.args.nodes.now) c.read.result c.args.i c.args.path.left c.args.path.bits c.bit_at.result c.half.result _ d c.read.ensures c.half.ensures c.if-path-eq0.false c.bit_at.ensures
    (λ e m. c.find.ensures.node e m ∙ sym (ap (λ o. has_node (bits_of (c.args.path.left - 1) c.args.path.bits) (from_half (walks_at e (cells_of c.args.nodes.now)) o).nodes) c.in-Some.is)) l

pub returns-in-Some-clause-route : goal.returns-in-Some-clause-route
returns-in-Some-clause-route t c = λ d l.
    route_step (cells_of c.args.nodes.now) c.read.result c.args.i c.args.path.left c.args.path.bits c.bit_at.result c.half.result c.read.ensures c.half.ensures c.if-path-eq0.false c.bit_at.ensures _ d
    (λ e m. c.find.ensures.route e m ∙ sym (ap (λ o. entry_at (bits_of (c.args.path.left - 1) c.args.path.bits) (from_half (walks_at e (cells_of c.args.nodes.now)) o).routes) c.in-Some.is)) l
