use Rattle.std.proofs.Common.{◌≡◌, ◌≤◌, List, Option, refl, sym, ap, subst, arith, ◌∙◌, length}
use Rattle.table_model.specs.Bits.{bits_of}
use Rattle.table_model.specs.Width.{width}
use Rattle.table_model.specs.Address.{Prefix}
use Rattle.table_model.proofs.BitLaws.{length-bits_of}
use Rattle.table_model.specs.Regions.{entry_at}
use Rattle.orig_tree.specs.Edits.{routed}
use Rattle.orig_tree.specs.Walk.{Walks, CanEdit, has_node}
use Rattle.orig_tree.specs.Views.{Labels}
use Rattle.orig_tree.specs.Arena.{cells_of, whole}
use Rattle.orig_tree.specs.Bests.{best_in}
use Rattle.orig_tree.specs.Within.{nodes_in}
use Rattle.orig_tree.specs.Undos.{CanUndo, routes_before}
use Rattle.table_model.specs.Entries.{of_table}
use Rattle.fib_addr.specs.Views.{prefix_as}
use Rattle.orig_tree.specs.declared.node.Node.{Node}
use Rattle.orig_tree.specs.declared.undo.Undo.{Undo}
use Rattle.orig_tree.proofs.Places.{in_place_edit, same_rows, entries_edit}
use Rattle.orig_tree.proofs.Within.{own_of}
use Rattle.orig_tree.proofs.Undoing.{can_same, kept_if, undone_same, few_bits}
use Rattle.orig_tree.proofs.tree.Tree.alter_route.Goals as goal

pub update_route-requires-clause-allowed : goal.update_route-requires-clause-allowed
update_route-requires-clause-allowed g c =
    let f = c.self.inside.family in
    subst (λ (b : List _). CanEdit b c.args.set (whole f (cells_of c.self.inside.nodes)).nodes) (sym c.path_bits.ensures)
    (subst (λ (s : Labels). CanEdit (prefix_as c.args.prefix.now).bits c.args.set s.nodes) (sym c.self.view_is) c.requires.allowed)

pub invariant_of-self : goal.invariant_of-self
invariant_of-self g c =
    let f = c.self.inside.family in
    let old = cells_of c.self.inside.nodes in
    let new = cells_of c.update_route.new.nodes in
    let e = c.in_err-changes.ensures.err in (
      c.update_route.ensures.arena,
      same_rows f (whole f old).routes (whole f new).routes (ap (λ (cs : List Node). (whole f cs).routes) e.0) c.self.invariant.1,
      same_rows f (whole f old).entries (whole f new).entries (ap (λ (cs : List Node). (whole f cs).entries) e.0) c.self.invariant.2,
      c.update_route.ensures.best,
      can_same f old new (best_in c.self.inside.nodes) (best_in c.update_route.new.nodes) c.self.inside.undo e.0 e.1 c.self.invariant.4,
    )

pub invariant_of-self-2 : goal.invariant_of-self-2
invariant_of-self-2 g c =
    let f = c.self.inside.family in
    let p = c.args.prefix.now in
    let fam : p.family ≡ f = c.requires.family ∙ sym (ap (λ (s : Labels). s.family) c.self.view_is) in
    let few = few_bits p f fam in
    let l : length (bits_of p.len c.path_bits.result) ≤ width f = omega (arith, length-bits_of p.len c.path_bits.result, few) in
    let old = whole f (cells_of c.self.inside.nodes) in
    let new = whole f (cells_of c.update_route.new.nodes) in
    let view = ap (λ (s : Labels). s.routes) c.self.view_is in
    let own : c.args.own.hop ≡ entry_at (bits_of p.len c.path_bits.result) old.routes = c.requires.route ∙ sym (own_of p f (bits_of p.len c.path_bits.result) old.routes c.args.self.now.routes _ fam c.path_bits.ensures view refl) in
    let w = c.in_ok-changes.ensures.walks in
    let has = ap (λ b. has_node b old.nodes) c.path_bits.ensures ∙ ap (λ (s : Labels). has_node (prefix_as p).bits s.nodes) c.self.view_is in (
      c.update_route.ensures.arena,
      in_place_edit f (bits_of p.len c.path_bits.result) c.args.set old.routes new.routes l (ap (λ (n : Walks). n.routes) w) c.self.invariant.1,
      same_rows f old.entries new.entries (ap (λ (n : Walks). n.entries) w) c.self.invariant.2,
      c.update_route.ensures.best,
      subst (λ (o : Option Undo). CanUndo f (cells_of c.update_route.new.nodes) (best_in c.update_route.new.nodes) o) (sym c.keep_if.ensures)
          (kept_if c.args.own.is_node f old.routes (cells_of c.update_route.new.nodes) (best_in c.update_route.new.nodes) _
          (λ t. c.in_ok-changes.ensures.back c.args.own.hop own (has ∙ (sym c.requires.node ∙ t))) c.self.invariant.1),
    )

pub returns-clause-routes : goal.returns-clause-routes
returns-clause-routes g c =
    let p = c.args.prefix.now in
    let f = c.self.inside.family in
    let fam : p.family ≡ f = c.requires.family ∙ sym (ap (λ (s : Labels). s.family) c.self.view_is) in
    let l : length (bits_of p.len c.path_bits.result) ≤ width f = omega (arith, length-bits_of p.len c.path_bits.result, few_bits p f fam) in
    entries_edit f p.family (bits_of p.len c.path_bits.result) c.args.set (whole f (cells_of c.self.inside.nodes)).routes (whole f (cells_of c.update_route.new.nodes)).routes c.args.self.now.routes l fam (ap (λ (n : Walks). n.routes) c.in_ok-changes.ensures.walks) (ap (λ (s : Labels). s.routes) c.self.view_is) c.self.invariant.1
    ∙ ap (λ b. routed (let x : Prefix = record { family = p.family; bits = b } in x) c.args.set c.args.self.now.routes) c.path_bits.ensures

pub returns-clause-before : goal.returns-clause-before
returns-clause-before g c = λ there.
    let f = c.self.inside.family in
    let p = c.args.prefix.now in
    let fam : p.family ≡ f = c.requires.family ∙ sym (ap (λ (s : Labels). s.family) c.self.view_is) in
    let old = whole f (cells_of c.self.inside.nodes) in
    let view = ap (λ (s : Labels). s.routes) c.self.view_is in
    let own : c.args.own.hop ≡ entry_at (bits_of p.len c.path_bits.result) old.routes = c.requires.route ∙ sym (own_of p f (bits_of p.len c.path_bits.result) old.routes c.args.self.now.routes _ fam c.path_bits.ensures view refl) in
    let has = ap (λ b. has_node b old.nodes) c.path_bits.ensures ∙ (ap (λ (s : Labels). has_node (prefix_as p).bits s.nodes) c.self.view_is ∙ there) in
    ap (λ (o : Option Undo). of_table f (routes_before o (whole f (cells_of c.update_route.new.nodes)).routes)) c.keep_if.ensures
    ∙ (undone_same c.args.own.is_node f (whole f (cells_of c.update_route.new.nodes)).routes old.routes _ (c.requires.node ∙ there) (c.in_ok-changes.ensures.back c.args.own.hop own has).routes
    ∙ view)

pub returns-in_err-changes-clause-steps : goal.returns-in_err-changes-clause-steps
returns-in_err-changes-clause-steps g c =
    let f = c.self.inside.family in
    let p = c.args.prefix.now in
    let same : nodes_in (bits_of p.len c.path_bits.result) (whole f (cells_of c.self.inside.nodes)).nodes ≡ nodes_in (prefix_as p).bits c.args.self.now.nodes =
    ap (λ b. nodes_in b (whole f (cells_of c.self.inside.nodes)).nodes) c.path_bits.ensures ∙ ap (λ (s : Labels). nodes_in (prefix_as p).bits s.nodes) c.self.view_is in
    omega (arith, c.update_route.ensures.steps, same)

pub returns-clause-steps : goal.returns-clause-steps
returns-clause-steps g c =
    let f = c.self.inside.family in
    let p = c.args.prefix.now in
    let same : nodes_in (bits_of p.len c.path_bits.result) (whole f (cells_of c.self.inside.nodes)).nodes ≡ nodes_in (prefix_as p).bits c.args.self.now.nodes =
    ap (λ b. nodes_in b (whole f (cells_of c.self.inside.nodes)).nodes) c.path_bits.ensures ∙ ap (λ (s : Labels). nodes_in (prefix_as p).bits s.nodes) c.self.view_is in
    omega (arith, c.update_route.ensures.steps, same)
