use Rattle.std.proofs.Common.{ap, ◌+◌, refl, arith, [], ◌∷◌}
use Rattle.orig_tree.specs.Arena.{cells_of}
use Rattle.orig_tree.specs.declared.node.Node.{Node}
use Rattle.orig_tree.specs.declared.node.Place.{Place}
use Rattle.orig_tree.proofs.Rooms.{spare_place, new_place}
use Rattle.orig_tree.proofs.Stores.{cells_long, seen_push}
use Rattle.orig_tree.proofs.node.take.Goals as goal

pub returns-then-spare-ne0-clause-gives : goal.returns-then-spare-ne0-clause-gives
returns-then-spare-ne0-clause-gives c = λ name n r h. spare_place (cells_of c.args.nodes.now) c.args.nodes.now.free c.read.result.low name n r c.if-spare-ne0.true (ap (λ (x : Node). x.low) c.read.ensures) h

pub returns-clause-gives : goal.returns-clause-gives
returns-clause-gives c =
    let root = c.args.nodes.now.root in
    λ name n r h. new_place (cells_of c.args.nodes.now) _ c.args.nodes.now.free (c.len.result + 1) (c.bare_place.result.node ∷ []) name n r (λ z. absurd (omega (arith, z))) (omega (arith, c.len.ensures, cells_long c.args.nodes.now))
    (seen_push (λ (p : Place). p.node) root c.args.nodes.now.halves.items c.push_reserved.new.self.items c.bare_place.result c.push_reserved.ensures.items) refl h
