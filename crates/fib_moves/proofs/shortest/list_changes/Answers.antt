use Rattle.std.proofs.Common.{◌≡◌, List, map, refl, sym, ap, subst, ◌∙◌}
use Rattle.std.proofs.lemmas.Result.{IfOk-weaker}
use Rattle.table_model.specs.Entries.{Entries}
use Rattle.kept_model.specs.Between.{AreEntries, between}
use Rattle.fib_addr.specs.Views.{entry_as}
use Rattle.fib_addr.specs.declared.entry.Entry as code
use Rattle.fib_delta.specs.Views.{change_as}
use Rattle.fib_moves.specs.Passes.{ListsChanges}
use Rattle.fib_moves.proofs.Whole.{had_entries, pass_told}
use Rattle.fib_moves.proofs.shortest.list_changes.Goals as goal

pub between-requires-clause-old : goal.between-requires-clause-old
between-requires-clause-old c =
    let v = c.in_ok-list_differing.ensures in
    subst (λ (E : Entries). AreEntries E) (sym (ap (map entry_as) c.deref.ensures.value))
    (had_entries c.args.whole v.had c.args.region.now.bits _ (map entry_as c.list_differing.new.out.had.items) c.requires.whole c.requires.bits v.had_table (ap (map entry_as) c.new.ensures.items) v.old)

pub between-requires-clause-new : goal.between-requires-clause-new
between-requires-clause-new c =
    let v = c.in_ok-list_differing.ensures in
    subst (λ (E : Entries). AreEntries E) (sym (ap (map entry_as) c.deref-2.ensures.value))
    (had_entries c.args.whole v.gets c.args.region.now.bits _ (map entry_as c.list_differing.new.out.gets.items) c.requires.whole c.requires.bits v.gets_table (ap (map entry_as) c.new-2.ensures.items) v.new)

pub returns : goal.returns
returns c =
    let d = c.list_differing.new.out in
    IfOk-weaker c.between.result (λ v. map change_as v.items ≡ between (map entry_as c.deref.result.now) (map entry_as c.deref-2.result.now)) (λ v. ListsChanges c.args.whole.family c.args.region.now (map change_as v.items))
    (λ v e. pass_told c.args.whole c.args.region.now 0 (record { had = c.new.result; gets = c.new-2.result }) d (map change_as v.items) c.requires.whole refl (ap (map entry_as) c.new.ensures.items) (ap (map entry_as) c.new-2.ensures.items) c.in_ok-list_differing.ensures
    (e ∙ (ap (λ (L : List code.Entry). between (map entry_as L) (map entry_as c.deref-2.result.now)) c.deref.ensures.value ∙ ap (λ (L : List code.Entry). between (map entry_as d.had.items) (map entry_as L)) c.deref-2.ensures.value)))
    c.between.ensures
