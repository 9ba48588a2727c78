use Rattle.std.proofs.Common.{◌-◌, arith, sym, ap, ◌∙◌}
use Rattle.table_model.specs.Bits.{bits_of}
use Rattle.table_model.specs.Regions.{entry_at}
use Rattle.orig_tree.specs.Arena.{cells_of, from_half, walks_at}
use Rattle.orig_tree.specs.declared.node.Label.TheVariants.{Route}
use Rattle.orig_tree.proofs.Branching.{own_hop}
use Rattle.orig_tree.proofs.Within.{at_end, route_step, no_route}
use Rattle.orig_tree.proofs.parts.+route_at.Goals as goal

pub returns-then-path-eq0 : goal.returns-then-path-eq0
returns-then-path-eq0 t c = λ d l.
    let cells = cells_of c.args.nodes.now in
    at_end (walks_at d cells c.args.i).routes c.args.path.left c.args.path.bits c.hop.result c.if-path-eq0.true (own_hop Route d cells c.args.i c.read-node.result c.hop.result (λ e. omega arith) c.read-node.ensures c.hop.ensures)

pub returns-in-None : goal.returns-in-None
returns-in-None t c = λ d l.
    route_step (cells_of c.args.nodes.now) c.read-node.result c.args.i c.args.path.left c.args.path.bits c.bit_at.result c.half.result c.read-node.ensures c.half.ensures c.if-path-eq0.false c.bit_at.ensures _ d
    (λ e m. no_route (cells_of c.args.nodes.now) c.half.result (bits_of (c.args.path.left - 1) c.args.path.bits) e c.in-None.is) l

pub returns-in-Some : goal.returns-in-Some
returns-in-Some t c = λ d l.
    route_step (cells_of c.args.nodes.now) c.read-node.result c.args.i c.args.path.left c.args.path.bits c.bit_at.result c.half.result c.read-node.ensures c.half.ensures c.if-path-eq0.false c.bit_at.ensures _ d
    (λ e m. c.route_at.ensures e m ∙ sym (ap (λ o. entry_at (bits_of (c.args.path.left - 1) c.args.path.bits) (from_half (walks_at e (cells_of c.args.nodes.now)) o).routes) c.in-Some.is)) l
