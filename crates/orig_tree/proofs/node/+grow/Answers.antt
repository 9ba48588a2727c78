use Rattle.std.proofs.Common.{◌-◌, [], None, refl, ap, sym, subst, ◌∙◌, arith}
use Rattle.table_model.specs.Bits.{bits_of}
use Rattle.table_model.specs.Table.{lpm}
use Rattle.orig_tree.specs.Edits.{edit}
use Rattle.orig_tree.specs.declared.best.Best.{Best}
use Rattle.orig_tree.proofs.Standing.{stands_one}
use Rattle.orig_tree.specs.Arena.{cells_of, half_place}
use Rattle.orig_tree.specs.Bests.{best_in, IsRegionBest}
use Rattle.orig_tree.proofs.Rooms.{room_end, some_room, none_room}
use Rattle.orig_tree.proofs.Growing.{grown_end, some_grown, none_grown, within_it, split_inside}
use Rattle.orig_tree.proofs.Mending.{put_here, put_other}
use Rattle.orig_tree.proofs.Stores.{cells_long}
use Rattle.orig_tree.proofs.node.+grow.Goals as goal

pub returns-then-path-eq0-clause-nodes : goal.returns-then-path-eq0-clause-nodes
returns-then-path-eq0-clause-nodes t c = λ d name n p l s h. room_end (cells_of c.args.nodes.now) c.args.nodes.now.free c.args.i c.args.path.left c.args.path.bits d name n p c.if-path-eq0.true l s h

pub returns-then-path-eq0-clause-best : goal.returns-then-path-eq0-clause-best
returns-then-path-eq0-clause-best t c = λ d name n p l s h k. grown_end d (cells_of c.args.nodes.now) name c.args.i p _ (best_in c.args.nodes.now) k

pub returns-in-Some-clause-nodes : goal.returns-in-Some-clause-nodes
returns-in-Some-clause-nodes t c = λ d name n p l s h. some_room (cells_of c.args.nodes.now) (cells_of c.grow.new.nodes) c.read-node.result c.half.result c.grow.new.nodes.free c.args.i c.in-Some.j c.args.path.left c.args.path.bits d name p c.bit_at-bit.result c.if-path-eq0.false c.bit_at-bit.ensures
    (c.read-node.ensures) c.half.ensures c.in-Some.is l s (λ e v m u. c.grow.ensures.nodes e name n v m u h)

pub returns-in-Some-clause-best : goal.returns-in-Some-clause-best
returns-in-Some-clause-best t c = λ d name n p l s h k. some_grown c.args.path.left c.args.path.bits c.args.inherited c.unwrap_or-hop.result c.bit_at-bit.result None c.read-node.result (cells_of c.args.nodes.now) c.args.i c.read-node.ensures c.if-path-eq0.false c.bit_at-bit.ensures c.unwrap_or-hop.ensures
    (cells_of c.grow.new.nodes) c.args.nodes.now.free c.grow.new.nodes.free c.in-Some.j d n c.half.result name p (best_in c.args.nodes.now) (best_in c.grow.new.nodes) c.half.ensures c.in-Some.is l s h
    (λ e n1 m v u w a. c.grow.ensures.nodes e n1 m v u w a) (λ e n1 m v u w a o. c.grow.ensures.best e n1 m v u w a o) k

pub returns-in-None-clause-nodes : goal.returns-in-None-clause-nodes
returns-in-None-clause-nodes t c = λ d name n p l s h. none_room (cells_of c.args.nodes.now) (cells_of c.split-j.new.nodes) (cells_of c.grow-in-None.new.nodes) c.split-j.new.nodes.free c.grow-in-None.new.nodes.free c.args.i c.split-j.result c.args.path.left c.args.path.bits d name p c.bit_at-bit.result c.if-path-eq0.false c.bit_at-bit.ensures l
    (c.split-j.ensures.split d name n p (ap (λ x. half_place x c.bit_at-bit.result) (sym c.read-node.ensures) ∙ (sym c.half.ensures ∙ c.in-None.is)) (omega (arith, c.if-path-eq0.false)) s h)
    (λ e name1 m v w u x. c.grow-in-None.ensures.nodes e name1 m v w u x)

pub returns-in-None-clause-best : goal.returns-in-None-clause-best
returns-in-None-clause-best t c = λ d name n p l s h k.
    let old = cells_of c.args.nodes.now in
    let S = best_in c.args.nodes.now in
    let x = c.one.result in
    let gone = sym c.half.ensures ∙ c.in-None.is in
    let split = c.split-j.ensures.split d name n p (ap (λ x. half_place x c.bit_at-bit.result) (sym c.read-node.ensures) ∙ gone) (omega (arith, c.if-path-eq0.false, l)) s h in
    let longer = split.keeps.long in
    let inside = split_inside d c.bit_at-bit.result old (cells_of c.split-j.new.nodes) c.split-j.new.nodes.free name c.args.i p c.split-j.result split in
    none_grown c.args.path.left c.args.path.bits c.args.inherited c.unwrap_or-hop.result c.bit_at-bit.result None c.read-node.result old (cells_of c.split-j.new.nodes) (cells_of c.grow-in-None.new.nodes) c.args.nodes.now.free c.split-j.new.nodes.free c.grow-in-None.new.nodes.free
    c.args.i c.split-j.result d n name p S (best_in c.split-j.new.nodes) (best_in c.grow-in-None.new.nodes) x c.read-node.ensures c.if-path-eq0.false c.bit_at-bit.ensures c.unwrap_or-hop.ensures gone l s h split
    (λ y r e ne. c.split-j.ensures.kept y (omega (arith, longer, within_it old c.args.nodes.now.free n y name r h e, cells_long c.split-j.new.nodes)) ∙ put_other S c.split-j.result y x ne)
    (c.split-j.ensures.kept c.split-j.result (omega (arith, inside, cells_long c.split-j.new.nodes)) ∙ put_here S c.split-j.result x)
    (λ e q m. subst (λ (y : Best). IsRegionBest e (λ a. lpm (edit (bits_of (c.args.path.left - 1) q) None []) a c.unwrap_or-hop.result) y) (sym c.one.ensures) (stands_one e c.unwrap_or-hop.result (λ a. c.unwrap_or-hop.result) (λ a l. refl)))
    (λ e n1 m v u w a. c.grow-in-None.ensures.nodes e n1 m v u w a) (λ e n1 m v u w a o. c.grow-in-None.ensures.best e n1 m v u w a o) k
