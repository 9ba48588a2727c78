use Rattle.std.proofs.Common.{ℕ, ◌-◌, Option, [], sym, ap, refl, ◌∙◌, arith, subst}
use Rattle.table_model.specs.Bits.{bits_of}
use Rattle.table_model.specs.Table.{lpm}
use Rattle.orig_tree.specs.Edits.{edit}
use Rattle.orig_tree.specs.Arena.{cells_of, half_place}
use Rattle.orig_tree.specs.Bests.{best_in, IsRegionBest}
use Rattle.orig_tree.specs.Placed.{route_set}
use Rattle.orig_tree.proofs.Growing.{within_it, split_inside}
use Rattle.orig_tree.proofs.Mending.{put_here, put_other}
use Rattle.orig_tree.proofs.Placing.{placed_end, placed_some, placed_none, placed_free}
use Rattle.orig_tree.proofs.Costing.{made_below, made_new}
use Rattle.orig_tree.proofs.Stores.{cells_long, kept_is}
use Rattle.orig_tree.proofs.node.+grow_label.Goals as goal

pub returns-then-path-eq0-clause-made : goal.returns-then-path-eq0-clause-made
returns-then-path-eq0-clause-made g t c = λ d name n p l s h.
    placed_free d c.args.label _ c.args.hop _ _ _ _ name c.args.i p _ _ _ _ _ c.update_node.ensures.free (kept_is c.args.nodes.now c.update_node.new.nodes c.update_node.ensures.kept) (
    placed_end c.args.label c.args.path.left c.args.path.bits c.args.hop _ _ (cells_of c.args.nodes.now) (cells_of c.update_node.new.nodes) c.args.nodes.now.free c.args.i d n name p _ (best_in c.args.nodes.now) c.update_node.result
    refl c.if-path-eq0.true refl c.update_node.ensures.cells c.update_node.ensures.same l s h)

pub returns-in-Some-clause-made : goal.returns-in-Some-clause-made
returns-in-Some-clause-made g t c = λ d name n p l s h.
    placed_free d c.args.label _ c.args.hop _ _ _ _ name c.args.i p _ _ _ _ _ c.climb.ensures.free (kept_is c.grow_label-changed.new.nodes c.climb.new.nodes c.climb.ensures.kept) (
    placed_some c.args.label c.args.path.left c.args.path.bits c.args.inherited c.unwrap_or-below.result c.args.hop c.bit_at-bit.result c.grow_label-changed.result c.climb.result (route_set c.args.label c.args.hop) c.read-node.result
    (cells_of c.args.nodes.now) (cells_of c.grow_label-changed.new.nodes) (cells_of c.climb.new.nodes) c.args.nodes.now.free c.grow_label-changed.new.nodes.free c.args.i c.in-Some.j d n c.half.result name p (best_in c.args.nodes.now) (best_in c.grow_label-changed.new.nodes)
    c.read-node.ensures c.if-path-eq0.false c.bit_at-bit.ensures c.unwrap_or-below.ensures c.half.ensures c.in-Some.is l s h
    (λ e n1 m v u w a. c.grow_label-changed.ensures.made e n1 m v u w a) c.climb.ensures.climbs)

pub returns-in-None-clause-made : goal.returns-in-None-clause-made
returns-in-None-clause-made g t c = λ d name n p l s h.
    let old = cells_of c.args.nodes.now in
    let S = best_in c.args.nodes.now in
    let x = c.fresh-best.result in
    let gone = sym c.half.ensures ∙ c.in-None.is in
    let split = c.split-j.ensures.split d name n p (ap (λ x. half_place x c.bit_at-bit.result) (sym c.read-node.ensures) ∙ gone) (omega (arith, c.if-path-eq0.false, l)) s h in
    let longer = split.keeps.long in
    let inside = split_inside d c.bit_at-bit.result old (cells_of c.split-j.new.nodes) c.split-j.new.nodes.free name c.args.i p c.split-j.result split in
    placed_free d c.args.label _ c.args.hop _ _ _ _ name c.args.i p _ _ _ _ _ c.climb-in-None.ensures.free (kept_is c.grow_label-changed-in-None.new.nodes c.climb-in-None.new.nodes c.climb-in-None.ensures.kept) (
    placed_none c.args.label c.args.path.left c.args.path.bits c.args.inherited c.unwrap_or-below.result c.args.hop c.bit_at-bit.result c.grow_label-changed-in-None.result c.climb-in-None.result (route_set c.args.label c.args.hop) c.read-node.result
    old (cells_of c.split-j.new.nodes) (cells_of c.grow_label-changed-in-None.new.nodes) (cells_of c.climb-in-None.new.nodes) c.split-j.new.nodes.free c.grow_label-changed-in-None.new.nodes.free c.args.i c.split-j.result d name p S (best_in c.split-j.new.nodes) (best_in c.grow_label-changed-in-None.new.nodes) x
    c.read-node.ensures c.if-path-eq0.false c.bit_at-bit.ensures c.unwrap_or-below.ensures gone l s split
    (λ y r e ne. c.split-j.ensures.kept y (omega (arith, longer, within_it old c.args.nodes.now.free n y name r h e, cells_long c.split-j.new.nodes)) ∙ put_other S c.split-j.result y x ne)
    (c.split-j.ensures.kept c.split-j.result (omega (arith, inside, cells_long c.split-j.new.nodes)) ∙ put_here S c.split-j.result x)
    (λ e q m. (subst (λ (o : Option ℕ). IsRegionBest e (λ a. lpm (edit (bits_of (c.args.path.left - 1) q) o []) a c.unwrap_or-below.result) x) c.route.ensures (c.fresh-best.ensures e q m)))
    (λ e n1 m v u w a. c.grow_label-changed-in-None.ensures.made e n1 m v u w a) c.climb-in-None.ensures.climbs)

pub returns-in-Some-clause-steps : goal.returns-in-Some-clause-steps
returns-in-Some-clause-steps g t c =
    made_below (cells_of c.args.nodes.now) c.args.i c.args.path.left c.args.path.bits c.in-Some.j c.bit_at-bit.result c.read-node.result c.half.result _ _ c.read-node.ensures c.if-path-eq0.false c.bit_at-bit.ensures c.half.ensures c.in-Some.is c.grow_label-changed.ensures.steps

pub returns-in-None-clause-steps : goal.returns-in-None-clause-steps
returns-in-None-clause-steps g t c =
    made_new (cells_of c.args.nodes.now) (cells_of c.split-j.new.nodes) c.args.i c.args.path.left c.args.path.bits c.split-j.result c.bit_at-bit.result c.read-node.result c.half.result _ _ _ c.read-node.ensures c.if-path-eq0.false c.bit_at-bit.ensures c.half.ensures c.in-None.is
    c.tick.ensures c.grow_label-changed-in-None.ensures.steps
