use Rattle.std.proofs.Common.{filter, sym, ap, subst, ◌∙◌}
use Rattle.std.specs.List.{AllByRecursion}
use Rattle.std.specs.Map.{keys_of}
use Rattle.table_model.specs.Address.{IsPrefix, same_family}
use Rattle.table_model.specs.declared.family.Family.{Family}
use Rattle.table_model.specs.Entries.{Entries, in_order}
use Rattle.table_model.specs.Both.{aggregate_in}
use Rattle.orig_tree.specs.Views.{Labels}
use Rattle.smalta_keep.specs.Known.{IsOfFamily}
use Rattle.smalta_keep.proofs.Alike.{renewed_least}
use Rattle.smalta_keep.proofs.Knowing.{known_fresh}
use Rattle.smalta_keep.proofs.Tables.{entered}
use Rattle.smalta_keep.proofs.keep.Keep.filled_packed.Goals as goal

pub insert_entries_from-requires-clause-prefixes : goal.insert_entries_from-requires-clause-prefixes
insert_entries_from-requires-clause-prefixes c = subst (λ (E : Entries). AllByRecursion IsPrefix (keys_of E)) (sym c.source-left.ensures.left) c.source-left.ensures.prefixes

pub returns-clause-entries : goal.returns-clause-entries
returns-clause-entries c =
    let t = c.self.inside.tree in
    sym (c.in_ok-tree.ensures.entries ∙ (ap (λ (es : Entries). in_order (filter (λ e. same_family t.family e.0.family) es)) c.source-left.ensures.left ∙ entered t.family t.routes t.entries _ c.in_ok-least.ensures))

pub returns-clause-table : goal.returns-clause-table
returns-clause-table c =
    sym (returns-clause-entries c) ∙ (c.in_ok-least.ensures ∙ (ap (λ (k : Labels). aggregate_in k.family k.routes k.entries) c.self.view_is ∙ ap (λ (T : Entries). aggregate_in c.args.self.family c.args.self.routes T) c.requires))

pub returns-clause-least : goal.returns-clause-least
returns-clause-least c =
    let t = c.self.inside.tree in
    renewed_least t.family t.routes t.entries c.in_ok-tree.tree c.in_ok-tree.ensures.family c.in_ok-tree.ensures.routes (sym (returns-clause-entries c) ∙ c.in_ok-least.ensures)

pub invariant_of-keep : goal.invariant_of-keep
invariant_of-keep c =
    let t = c.self.inside.tree in
    let there = c.in_ok-tree.ensures.entries ∙ (ap (λ (es : Entries). in_order (filter (λ e. same_family t.family e.0.family) es)) c.source-left.ensures.left ∙ (entered t.family t.routes t.entries _ c.in_ok-least.ensures ∙ c.in_ok-least.ensures)) in
    known_fresh c.in_ok-tree.tree t.family t.routes t.entries c.leave.new.self.tree c.in_ok-tree.ensures.family c.in_ok-tree.ensures.routes there (subst (λ (f : Family). IsOfFamily f c.leave.new.self.tree) c.family-family.ensures.family c.leave.ensures)
