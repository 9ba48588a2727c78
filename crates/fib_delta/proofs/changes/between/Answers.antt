use Rattle.std.proofs.Common.{◌≡◌, map, subst, sym, ap, ◌∙◌}
use Rattle.std.proofs.lemmas.Result.{IfOk-weaker}
use Rattle.std.specs.List.Sorted.{IsStrictlySortedBy}
use Rattle.std.specs.Map.{keys_of}
use Rattle.table_model.specs.Order.{prefix_cmp}
use Rattle.table_model.specs.Entries.{Entries, in_order}
use Rattle.table_model.proofs.Sums.{in_order_sorted}
use Rattle.kept_model.specs.Between.{between}
use Rattle.kept_model.proofs.Reordered.{between_in_order}
use Rattle.fib_addr.specs.Views.{entry_as}
use Rattle.fib_delta.specs.Views.{change_as}
use Rattle.fib_delta.proofs.changes.between.Goals as goal

pub merge-requires-2-clause-old : goal.merge-requires-2-clause-old
merge-requires-2-clause-old c = subst (λ (L : Entries). IsStrictlySortedBy prefix_cmp (keys_of L)) (sym (ap (map entry_as) c.deref.ensures.value ∙ c.in_ok-put_in_order.ensures)) (in_order_sorted (map entry_as c.args.old.now))

pub merge-requires-2-clause-new : goal.merge-requires-2-clause-new
merge-requires-2-clause-new c = subst (λ (L : Entries). IsStrictlySortedBy prefix_cmp (keys_of L)) (sym (ap (map entry_as) c.deref-2.ensures.value ∙ c.in_ok-put_in_order-2.ensures)) (in_order_sorted (map entry_as c.args.new.now))

pub returns : goal.returns
returns c =
    let old = map entry_as c.args.old.now in
    let new = map entry_as c.args.new.now in
    let e : map entry_as c.deref.result.now ≡ in_order old = ap (map entry_as) c.deref.ensures.value ∙ c.in_ok-put_in_order.ensures in
    let f : map entry_as c.deref-2.result.now ≡ in_order new = ap (map entry_as) c.deref-2.ensures.value ∙ c.in_ok-put_in_order-2.ensures in
    let same : between (map entry_as c.deref.result.now) (map entry_as c.deref-2.result.now) ≡ between old new = ap (λ z. between z (map entry_as c.deref-2.result.now)) e ∙ (ap (λ z. between (in_order old) z) f ∙ between_in_order old new c.requires.old c.requires.new) in
    IfOk-weaker c.merge-2.result (λ v. map change_as v.items ≡ between (map entry_as c.deref.result.now) (map entry_as c.deref-2.result.now)) (λ v. map change_as v.items ≡ between old new) (λ v s. s ∙ same) c.merge-2.ensures
