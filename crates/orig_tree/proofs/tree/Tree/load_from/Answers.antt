use Rattle.std.proofs.Common.{ap, ◌∙◌, fold}
use Rattle.table_model.specs.Entries.{of_table, with_entry}
use Rattle.orig_tree.specs.Walk.{Walks}
use Rattle.orig_tree.specs.Arena.{cells_of, whole}
use Rattle.orig_tree.specs.Merged.{own_of}
use Rattle.orig_tree.proofs.Places.{in_place_nil}
use Rattle.orig_tree.proofs.tree.Tree.load_from.Goals as goal

pub invariant_of-result : goal.invariant_of-result
invariant_of-result g c =
    let w = whole c.args.family (cells_of c.load_all.new.nodes) in
    let lays = c.in_ok-load_all.ensures.lays in
    (lays.arena, lays.order, in_place_nil c.args.family w.entries (lays.other ∙ ap (λ (w : Walks). w.entries) c.empty-nodes.ensures.bare), c.in_ok-load_all.ensures.best, tt)

pub returns-clause-routes : goal.returns-clause-routes
returns-clause-routes g c = c.in_ok-load_all.ensures.lays.rows ∙ ap (λ (w : Walks). fold with_entry (of_table c.args.family w.routes) (own_of c.args.family (g.S.EntrySource.left c.args.routes.now))) c.empty-nodes.ensures.bare

pub returns-clause-entries : goal.returns-clause-entries
returns-clause-entries g c = ap (of_table c.args.family) (c.in_ok-load_all.ensures.lays.other ∙ ap (λ (w : Walks). w.entries) c.empty-nodes.ensures.bare)
