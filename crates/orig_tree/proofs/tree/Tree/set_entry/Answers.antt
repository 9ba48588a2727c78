use Rattle.std.proofs.Common.{Option, ◌≡◌, ◌≤◌, sym, ap, ◌∙◌, arith, length}
use Rattle.table_model.specs.Bits.{bits_of}
use Rattle.table_model.specs.Width.{width}
use Rattle.table_model.specs.Address.{Prefix}
use Rattle.table_model.proofs.BitLaws.{length-bits_of}
use Rattle.table_model.specs.Entries.{with_entry}
use Rattle.orig_tree.specs.Walk.{Walks, has_node}
use Rattle.orig_tree.specs.Views.{Labels}
use Rattle.orig_tree.specs.Arena.{cells_of, whole}
use Rattle.orig_tree.proofs.Places.{in_place_put, same_rows, entries_put}
use Rattle.orig_tree.specs.Undos.{routes_before}
use Rattle.orig_tree.specs.declared.undo.Undo.{Undo}
use Rattle.fib_addr.specs.Views.{prefix_as}
use Rattle.table_model.specs.Entries.{of_table}
use Rattle.orig_tree.proofs.tree.Tree.set_entry.Goals as goal

pub invariant_of-self-2 : goal.invariant_of-self-2
invariant_of-self-2 c =
    let f = c.self.inside.family in
    let p = c.args.prefix.now in
    let fam : p.family ≡ f = c.requires ∙ sym (ap (λ (s : Labels). s.family) c.self.view_is) in
    let l : length (bits_of p.len c.path_bits.result) ≤ width f = omega (arith, length-bits_of p.len c.path_bits.result, p.fits, ap width fam) in
    let old = whole f (cells_of c.self.inside.nodes) in
    let new = whole f (cells_of c.insert_entry.new.nodes) in
    let laid = c.in_ok-insert_entry.ensures.laid in (
      c.insert_entry.ensures.arena,
      same_rows f old.routes new.routes (ap (λ (n : Walks). n.routes) laid.set ∙ laid.room.routes) c.self.invariant.1,
      in_place_put f (bits_of p.len c.path_bits.result) c.args.hop.0 laid.middle.entries new.entries l (ap (λ (n : Walks). n.entries) laid.set) (same_rows f old.entries laid.middle.entries laid.room.entries c.self.invariant.2),
      c.insert_entry.ensures.best,
      c.insert_entry.ensures.undo,
    )

pub returns-clause-entries : goal.returns-clause-entries
returns-clause-entries c =
    let f = c.self.inside.family in
    let p = c.args.prefix.now in
    let fam : p.family ≡ f = c.requires ∙ sym (ap (λ (s : Labels). s.family) c.self.view_is) in
    let l : length (bits_of p.len c.path_bits.result) ≤ width f = omega (arith, length-bits_of p.len c.path_bits.result, p.fits, ap width fam) in
    let laid = c.in_ok-insert_entry.ensures.laid in
    entries_put f p.family (bits_of p.len c.path_bits.result) c.args.hop.0 (whole f (cells_of c.self.inside.nodes)).entries (whole f (cells_of c.insert_entry.new.nodes)).entries laid.middle.entries c.args.self.now.entries l fam laid.room.entries (ap (λ (n : Walks). n.entries) laid.set) (ap (λ (s : Labels). s.entries) c.self.view_is) c.self.invariant.2
    ∙ ap (λ b. with_entry c.args.self.now.entries ((let x : Prefix = record { family = p.family; bits = b } in x), c.args.hop.0)) c.path_bits.ensures

pub returns-clause-before : goal.returns-clause-before
returns-clause-before c = λ there.
    let f = c.self.inside.family in
    let held = c.in_ok-insert_entry.ensures.held (ap (λ b. has_node b (whole f (cells_of c.self.inside.nodes)).nodes) c.path_bits.ensures ∙ (ap (λ (s : Labels). has_node (prefix_as c.args.prefix.now).bits s.nodes) c.self.view_is ∙ there)) in
    let laid = c.in_ok-insert_entry.ensures.laid in
    ap (λ (o : Option Undo). of_table f (routes_before o (whole f (cells_of c.insert_entry.new.nodes)).routes)) held.1
    ∙ (ap (λ R. of_table f (routes_before c.self.inside.undo R)) (ap (λ (n : Walks). n.routes) laid.set ∙ laid.room.routes) ∙ ap (λ (s : Labels). s.before) c.self.view_is)
