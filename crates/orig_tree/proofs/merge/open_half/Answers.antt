use Rattle.std.proofs.Common.{ℕ, List, arith, sym, ap, ◌∙◌, subst}
use Rattle.orig_tree.specs.Arena.{cells_of, cell_at, half_place, IsTree, HasSpares}
use Rattle.orig_tree.specs.Bests.{best_in}
use Rattle.orig_tree.specs.declared.node.Node.{Node}
use Rattle.orig_tree.proofs.Growing.{within_it, split_inside}
use Rattle.orig_tree.proofs.Mending.{put_here, put_other}
use Rattle.orig_tree.proofs.Weaving.{opened_some, opened_none, opened_same}
use Rattle.orig_tree.proofs.Stores.{cells_long}
use Rattle.orig_tree.proofs.merge.open_half.Goals as goal

pub returns-in-Some : goal.returns-in-Some
returns-in-Some c = λ d name n p l t h.
    opened_some d c.args.bit (cells_of c.args.nodes.now) c.args.nodes.now.free n name c.args.i p c.args.inherited (best_in c.args.nodes.now) c.in-Some.j (ap (λ x. half_place x c.args.bit) (sym c.read-node.ensures) ∙ (sym c.half.ensures ∙ c.in-Some.is)) t h

pub returns : goal.returns
returns c = λ d name n p l t h.
    let old = cells_of c.args.nodes.now in
    let mid = cells_of c.reserve.new.nodes in
    let new = cells_of c.split.new.nodes in
    let S1 = best_in c.reserve.new.nodes in
    let x = c.one.result in
    let j = c.split.result in
    let same = c.reserve.ensures.cells in
    let at = c.read-node.ensures ∙ ap (λ cs. cell_at cs c.args.i) (sym same.0) in
    let gone = sym c.half.ensures ∙ c.in_default.is in
    let t1 = subst (λ (cs : List Node). IsTree d cs name c.args.i p) (sym same.0) t in
    let h1 = subst (λ (k : ℕ). HasSpares mid k name n) (sym same.1) (subst (λ (cs : List Node). HasSpares cs c.args.nodes.now.free name n) (sym same.0) h) in
    let split = c.split.ensures.split d name n p (ap (λ x. half_place x c.args.bit) (sym at) ∙ gone) l t1 h1 in
    let inside = split_inside d c.args.bit mid new c.split.new.nodes.free name c.args.i p j split in
    let longer = split.keeps.long in
    opened_same d c.args.bit old mid new c.split.new.nodes.free name c.args.i p c.args.inherited (best_in c.args.nodes.now) S1 (best_in c.split.new.nodes) j same.0 c.reserve.ensures.kept
    (opened_none d c.args.bit c.read-node.result mid new c.split.new.nodes.free name c.args.i p c.args.inherited c.unwrap_or-hop.result S1 (best_in c.split.new.nodes) j at c.unwrap_or-hop.ensures gone l t1 split
    (λ y r e ne. c.split.ensures.kept y (omega (arith, longer, within_it mid c.reserve.new.nodes.free n y name r h1 e, cells_long c.split.new.nodes)) ∙ put_other S1 j y x ne)
    (c.split.ensures.kept j (omega (arith, inside, cells_long c.split.new.nodes)) ∙ (put_here S1 j x ∙ c.one.ensures)))
