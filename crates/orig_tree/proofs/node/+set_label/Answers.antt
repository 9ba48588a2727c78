use Rattle.std.proofs.Common.{◌≡◌, ◌-◌, true, false, sym, refl, ap, ◌∙◌}
use Rattle.table_model.specs.Bits.{bits_of}
use Rattle.orig_tree.specs.Walk.{has_node}
use Rattle.orig_tree.specs.Arena.{cells_of, from_half, walks_at}
use Rattle.orig_tree.specs.Bests.{best_in}
use Rattle.orig_tree.specs.Placed.{route_set}
use Rattle.orig_tree.proofs.Rooms.{held_half, no_node}
use Rattle.orig_tree.proofs.Placing.{placed_end, placed_some, placed_same, placed_free}
use Rattle.orig_tree.proofs.Stores.{kept_is}
use Rattle.orig_tree.proofs.node.+set_label.Goals as goal

pub returns-then-path-eq0-clause-made : goal.returns-then-path-eq0-clause-made
returns-then-path-eq0-clause-made t c = λ d name n p l s h.
    placed_free d c.args.label _ c.args.hop _ _ _ _ name c.args.i p _ _ _ _ _ c.update_node.ensures.free (kept_is c.args.nodes.now c.update_node.new.nodes c.update_node.ensures.kept) (
    placed_end c.args.label c.args.path.left c.args.path.bits c.args.hop _ _ (cells_of c.args.nodes.now) (cells_of c.update_node.new.nodes) c.args.nodes.now.free c.args.i d n name p _ (best_in c.args.nodes.now) c.update_node.result
    refl c.if-path-eq0.true refl c.update_node.ensures.cells c.update_node.ensures.same l s h)

pub returns-in_err-changed-in-Some-clause-held : goal.returns-in_err-changed-in-Some-clause-held
returns-in_err-changed-in-Some-clause-held t c = λ d l there. let no : false ≡ true = held_half (false ≡ true) (cells_of c.args.nodes.now) c.read-node.result c.args.i c.args.path.left c.args.path.bits c.bit_at.result c.half.result d c.read-node.ensures c.half.ensures c.if-path-eq0.false c.bit_at.ensures
    (λ e m u. c.in_err-changed-in-Some.ensures.held e m (sym (ap (λ o. has_node (bits_of (c.args.path.left - 1) c.args.path.bits) (from_half (walks_at e (cells_of c.args.nodes.now)) o).nodes) c.in-Some.is) ∙ u)) l there in cc

pub returns-in_err-reserve-in-None-clause-held : goal.returns-in_err-reserve-in-None-clause-held
returns-in_err-reserve-in-None-clause-held t c = λ d l there. let no : false ≡ true = held_half (false ≡ true) (cells_of c.args.nodes.now) c.read-node.result c.args.i c.args.path.left c.args.path.bits c.bit_at.result c.half.result d c.read-node.ensures c.half.ensures c.if-path-eq0.false c.bit_at.ensures
    (λ e m u. let z = no_node (cells_of c.args.nodes.now) c.half.result (bits_of (c.args.path.left - 1) c.args.path.bits) e c.in-None.is ∙ u in z) l there in cc

pub returns-in_ok-changed-in-Some-clause-made : goal.returns-in_ok-changed-in-Some-clause-made
returns-in_ok-changed-in-Some-clause-made t c = λ d name n p l s h.
    placed_free d c.args.label _ c.args.hop _ _ _ _ name c.args.i p _ _ _ _ _ c.climb.ensures.free (kept_is c.set_label.new.nodes c.climb.new.nodes c.climb.ensures.kept) (
    placed_some c.args.label c.args.path.left c.args.path.bits c.args.inherited c.unwrap_or-below.result c.args.hop c.bit_at.result c.in_ok-changed-in-Some.changed c.climb.result (route_set c.args.label c.args.hop) c.read-node.result
    (cells_of c.args.nodes.now) (cells_of c.set_label.new.nodes) (cells_of c.climb.new.nodes) c.args.nodes.now.free c.set_label.new.nodes.free c.args.i c.in-Some.j d n c.half.result name p (best_in c.args.nodes.now) (best_in c.set_label.new.nodes)
    c.read-node.ensures c.if-path-eq0.false c.bit_at.ensures c.unwrap_or-below.ensures c.half.ensures c.in-Some.is l s h
    (λ e n1 m v u w a. c.in_ok-changed-in-Some.ensures.made e n1 m v u w a) c.climb.ensures.climbs)

pub returns-in_ok-reserve-in-None-clause-made : goal.returns-in_ok-reserve-in-None-clause-made
returns-in_ok-reserve-in-None-clause-made t c = λ d name n p l s h.
    let v = c.in_ok-reserve-in-None.ensures in
    placed_same d c.args.label _ c.args.inherited c.args.hop (route_set c.args.label c.args.hop) (cells_of c.args.nodes.now) (cells_of c.reserve.new.nodes) (cells_of c.grow_label.new.nodes) c.args.nodes.now.free c.reserve.new.nodes.free c.grow_label.new.nodes.free name c.args.i n p
    (best_in c.args.nodes.now) (best_in c.reserve.new.nodes) (best_in c.grow_label.new.nodes) c.grow_label.result v.cells.0 v.cells.1 v.kept
    (λ u w. c.grow_label.ensures.made d name n p l u w) s h
