use Rattle.std.proofs.Common.{◌≡◌, List, IfOk, map, sym, ap, subst, ◌∙◌}
use Rattle.std.specs.List.{AllByRecursion}
use Rattle.std.proofs.lemmas.Result.{IfOk-weaker}
use Rattle.table_model.specs.Entries.{Entries}
use Rattle.table_model.specs.Both.{aggregate_in}
use Rattle.kept_model.specs.Between.{AreEntries, between, place_of}
use Rattle.table_model.specs.Changes.{Change}
use Rattle.fib_addr.specs.Views.{entry_as}
use Rattle.fib_addr.specs.declared.entry.Entry as code
use Rattle.fib_delta.specs.Views.{change_as}
use Rattle.smalta_keep.proofs.Apart.{old_entries, new_entries, apart_changes, apart_family}
use Rattle.smalta_keep.proofs.pass.snapshot_delta.Goals as goal

pub between-requires-clause-old : goal.between-requires-clause-old
between-requires-clause-old c = subst (λ (E : Entries). AreEntries E) (sym (ap (map entry_as) c.deref.ensures.value)) (old_entries c.args.tree.now c.in_ok-tables.tables c.in_ok-tables.ensures.tables c.go_over.ensures.order)

pub between-requires-clause-new : goal.between-requires-clause-new
between-requires-clause-new c = subst (λ (E : Entries). AreEntries E) (sym (ap (map entry_as) c.deref-2.ensures.value)) (new_entries c.args.tree.now c.in_ok-tables.tables c.in_ok-tables.ensures.tables c.go_over.ensures.order)

pub returns-clause-changes : goal.returns-clause-changes
returns-clause-changes c =
    let d = c.in_ok-tables.tables in
    subst (λ (cs : List Change). IfOk c.between.result (λ v. map change_as v.items ≡ cs))
    (ap (λ (L : List code.Entry). between (map entry_as L) (map entry_as c.deref-2.result.now)) c.deref.ensures.value ∙ (ap (λ (L : List code.Entry). between (map entry_as d.had.items) (map entry_as L)) c.deref-2.ensures.value ∙ apart_changes c.args.tree.now d c.in_ok-tables.ensures.tables c.go_over.ensures.order)) c.between.ensures

pub returns-clause-family : goal.returns-clause-family
returns-clause-family c =
    let k = c.args.tree.now in
    IfOk-weaker c.between.result (λ v. map change_as v.items ≡ between k.entries (aggregate_in k.family k.routes k.entries)) (λ v. AllByRecursion (λ d. (place_of d).family ≡ k.family) (map change_as v.items))
    (λ v s. apart_family k c.in_ok-tables.tables (map change_as v.items) c.in_ok-tables.ensures.tables s) (returns-clause-changes c)
