use Rattle.std.proofs.Common.{◌≡◌, List, [], cond, map, sym, ap, subst, ◌∙◌}
use Rattle.std.specs.List.{AllByRecursion}
use Rattle.std.specs.Map.{keys_of}
use Rattle.table_model.specs.Address.{Prefix}
use Rattle.table_model.specs.Entries.{Entries}
use Rattle.table_model.specs.Changes.{Change}
use Rattle.kept_model.specs.Between.{AreEntries, between}
use Rattle.kept_model.specs.Patched.{patch_of}
use Rattle.kept_model.proofs.Families.{table_of, patched_of}
use Rattle.fib_addr.specs.Views.{prefix_as, entry_as}
use Rattle.fib_addr.specs.declared.entry.Entry as code_entry
use Rattle.fib_addr.specs.declared.prefix.Prefix as code_prefix
use Rattle.fib_delta.specs.Views.{change_as}
use Rattle.fib_delta.proofs.Held.{is_prefix}
use Rattle.smalta_keep.specs.Rooms.{AreOf}
use Rattle.smalta_keep.proofs.Tables.{patched_placed, between_of, if_of}
use Rattle.smalta_keep.proofs.Knowing.{beside_patch}
use Rattle.smalta_keep.proofs.told.mend_within.Goals as goal

pub between-requires-clause-old : goal.between-requires-clause-old
between-requires-clause-old c = subst (λ (L : Entries). AreEntries L) (sym (ap (map entry_as) c.deref.ensures.value)) c.in_ok-tables.ensures.tables.had

pub between-requires-clause-new : goal.between-requires-clause-new
between-requires-clause-new c = subst (λ (L : Entries). AreEntries L) (sym (ap (map entry_as) c.deref-2.ensures.value)) c.in_ok-tables.ensures.tables.gets

pub between_if-requires-clause-old : goal.between_if-requires-clause-old
between_if-requires-clause-old c = subst (λ (L : Entries). AreEntries L) (sym (ap (map entry_as) c.deref-3.ensures.value)) c.in_ok-tables.ensures.tables.gets

pub between_if-requires-clause-new : goal.between_if-requires-clause-new
between_if-requires-clause-new c = subst (λ (L : Entries). AreEntries L) (sym (ap (map entry_as) c.deref-4.ensures.value)) c.in_ok-tables.ensures.tables.had

pub returns-clause-mend : goal.returns-clause-mend
returns-clause-mend c =
    let p = prefix_as c.args.prefix.now in
    let T = c.args.tree.now.entries in
    let R = c.args.tree.now.routes in
    let f = c.args.tree.now.family in
    let is = is_prefix c.args.prefix.now in
    let t = c.differing_within.ensures.order in
    let N = patch_of R p T in
    let d = c.in_ok-tables.tables in
    let told = c.in_ok-tables.ensures.tables in
    let there : map change_as c.in_ok-between.field-0.items ≡ between T N =
    c.in_ok-between.ensures ∙ (ap (λ (L : List code_entry.Entry). between (map entry_as L) (map entry_as c.deref-2.result.now)) c.deref.ensures.value ∙ (ap (λ (L : List code_entry.Entry). between (map entry_as d.had.items) (map entry_as L)) c.deref-2.ensures.value ∙ told.there))
    in
    let back : map change_as c.in_ok-between_if.field-0.items ≡ cond c.args.back (between N T) [] =
    c.in_ok-between_if.ensures
    ∙ ap (λ (cs : List Change). cond c.args.back cs []) (ap (λ (L : List code_entry.Entry). between (map entry_as L) (map entry_as c.deref-4.result.now)) c.deref-3.ensures.value ∙ (ap (λ (L : List code_entry.Entry). between (map entry_as d.gets.items) (map entry_as L)) c.deref-4.ensures.value ∙ told.back))
    in
    let x : AllByRecursion (λ (q : Prefix). q.family ≡ f) (keys_of T) = subst (λ (E : Entries). AllByRecursion (λ (q : Prefix). q.family ≡ f) (keys_of E)) c.root-root.ensures.entries (table_of f c.root-root.result.entries) in
    let y = patched_of R T p f c.requires.family x in
    record {
      old_order = t;
      order = patched_placed R T p is t;
      there = there;
      back = back;
      of_there = subst (λ (cs : List Change). AreOf f cs) (sym there) (between_of f T N x y);
      of_back = subst (λ (cs : List Change). AreOf f cs) (sym back) (if_of f c.args.back (between N T) (between_of f N T y x));
      of_reach = λ q e. let s : c.args.prefix.now ≡ q = cc in subst (λ (x : code_prefix.Prefix). x.family ≡ f) s c.requires.family;
      beside = beside_patch R T p f is t;
    }
