use Rattle.std.proofs.Common.{◌≡◌, ◌≤◌, List, sym, ap, ◌∙◌, arith, length}
use Rattle.table_model.specs.Bits.{bits_of}
use Rattle.table_model.specs.Width.{width}
use Rattle.table_model.specs.Address.{Prefix}
use Rattle.table_model.proofs.BitLaws.{length-bits_of}
use Rattle.table_model.specs.Entries.{with_entry}
use Rattle.orig_tree.specs.Walk.{Walks}
use Rattle.orig_tree.specs.Views.{Labels}
use Rattle.orig_tree.specs.Arena.{cells_of, whole}
use Rattle.orig_tree.specs.Bests.{best_in}
use Rattle.orig_tree.specs.Within.{nodes_in}
use Rattle.fib_addr.specs.Views.{prefix_as}
use Rattle.orig_tree.specs.declared.node.Node.{Node}
use Rattle.orig_tree.proofs.Places.{in_place_put, same_rows, entries_put}
use Rattle.orig_tree.proofs.Undoing.{can_same, true_not}
use Rattle.orig_tree.proofs.tree.Tree.set_route_counted.Goals as goal

pub invariant_of-self : goal.invariant_of-self
invariant_of-self g c =
    let f = c.self.inside.family in
    let old = cells_of c.self.inside.nodes in
    let new = cells_of c.insert_route.new.nodes in
    let e = c.in_err-room.ensures.err in (
      c.insert_route.ensures.arena,
      same_rows f (whole f old).routes (whole f new).routes (ap (λ (cs : List Node). (whole f cs).routes) e.0) c.self.invariant.1,
      same_rows f (whole f old).entries (whole f new).entries (ap (λ (cs : List Node). (whole f cs).entries) e.0) c.self.invariant.2,
      c.insert_route.ensures.best,
      can_same f old new (best_in c.self.inside.nodes) (best_in c.insert_route.new.nodes) c.self.inside.undo e.0 e.1 c.self.invariant.4,
    )

pub invariant_of-self-2 : goal.invariant_of-self-2
invariant_of-self-2 g c =
    let p = c.args.prefix.now in
    let fam : p.family ≡ c.self.inside.family = c.requires ∙ sym (ap (λ (s : Labels). s.family) c.self.view_is) in
    let l : length (bits_of p.len c.path_bits.result) ≤ width c.self.inside.family = omega (arith, length-bits_of p.len c.path_bits.result, p.fits, ap width fam) in
    let laid = c.in_ok-room.ensures.laid in
    let old = whole c.self.inside.family (cells_of c.self.inside.nodes) in
    let new = whole c.self.inside.family (cells_of c.insert_route.new.nodes) in (
      c.in_ok-room.ensures.arena,
      in_place_put c.self.inside.family (bits_of p.len c.path_bits.result) c.args.hop.0 laid.middle.routes new.routes l (ap (λ (n : Walks). n.routes) laid.set) (same_rows c.self.inside.family old.routes laid.middle.routes laid.room.routes c.self.invariant.1),
      same_rows c.self.inside.family old.entries new.entries (ap (λ (n : Walks). n.entries) laid.set ∙ laid.room.entries) c.self.invariant.2,
      c.in_ok-room.ensures.best,
      tt,
    )

pub returns-clause-routes : goal.returns-clause-routes
returns-clause-routes g c =
    let p = c.args.prefix.now in
    let fam : p.family ≡ c.self.inside.family = c.requires ∙ sym (ap (λ (s : Labels). s.family) c.self.view_is) in
    let l : length (bits_of p.len c.path_bits.result) ≤ width c.self.inside.family = omega (arith, length-bits_of p.len c.path_bits.result, p.fits, ap width fam) in
    let laid = c.in_ok-room.ensures.laid in
    entries_put c.self.inside.family p.family (bits_of p.len c.path_bits.result) c.args.hop.0 (whole c.self.inside.family (cells_of c.self.inside.nodes)).routes (whole c.self.inside.family (cells_of c.insert_route.new.nodes)).routes laid.middle.routes c.args.self.now.routes l fam laid.room.routes (ap (λ (n : Walks). n.routes) laid.set) (ap (λ (s : Labels). s.routes) c.self.view_is) c.self.invariant.1
    ∙ ap (λ b. with_entry c.args.self.now.routes ((let x : Prefix = record { family = p.family; bits = b } in x), c.args.hop.0)) c.path_bits.ensures

pub returns-clause-before : goal.returns-clause-before
returns-clause-before g c = λ there. absurd (true_not (sym (c.own_route-own.ensures.node ∙ there) ∙ c.if-own.false))

pub returns-in_err-room-clause-steps : goal.returns-in_err-room-clause-steps
returns-in_err-room-clause-steps g c =
    let f = c.self.inside.family in
    let p = c.args.prefix.now in
    let same : nodes_in (bits_of p.len c.path_bits.result) (whole f (cells_of c.self.inside.nodes)).nodes ≡ nodes_in (prefix_as p).bits c.args.self.now.nodes =
    ap (λ b. nodes_in b (whole f (cells_of c.self.inside.nodes)).nodes) c.path_bits.ensures ∙ ap (λ (s : Labels). nodes_in (prefix_as p).bits s.nodes) c.self.view_is in
    omega (arith, c.insert_route.ensures.steps, same)

pub returns-clause-steps : goal.returns-clause-steps
returns-clause-steps g c =
    let f = c.self.inside.family in
    let p = c.args.prefix.now in
    let same : nodes_in (bits_of p.len c.path_bits.result) (whole f (cells_of c.self.inside.nodes)).nodes ≡ nodes_in (prefix_as p).bits c.args.self.now.nodes =
    ap (λ b. nodes_in b (whole f (cells_of c.self.inside.nodes)).nodes) c.path_bits.ensures ∙ ap (λ (s : Labels). nodes_in (prefix_as p).bits s.nodes) c.self.view_is in
    omega (arith, c.insert_route.ensures.steps, same)
