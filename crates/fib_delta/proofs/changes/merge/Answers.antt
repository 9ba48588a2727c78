use Rattle.std.proofs.Common.{◌≡◌, ◌≤◌, length, drop, sym, ap, ◌∙◌, refl, arith, inl, inr}
use Rattle.std.specs.Prelude.{◌⊎◌}
use Rattle.std.specs.Ordering.{ordering_reverse}
use Rattle.std.specs.declared.cmp.Ordering.TheVariants.{Less, Equal, Greater}
use Rattle.table_model.specs.Order.{prefix_cmp}
use Rattle.table_model.proofs.Ordered.{prefix_total, equal_are_same}
use Rattle.fib_addr.specs.Views.{prefix_as}
use Rattle.fib_addr.proofs.Ordering.{cmp_is}
use Rattle.fib_delta.proofs.Held.{is_prefix}
use Rattle.fib_delta.proofs.Merging.{low_at, high_at, both_at, low_below, sorted_part, ended}
use Rattle.fib_delta.proofs.changes.merge.Goals as goal
use Rattle.fib_delta.proofs.changes.merge.Goals.{then-loop-i-test+else-j-new, else-loop-i-test}

pub loop-i-preserved-in-Less : goal.loop-i-preserved-in-Less
loop-i-preserved-in-Less c =
    let v = c.loop-i.invariant in
    let e = c.index-old-i.result in
    let f = c.index-new-j.result in
    let less : prefix_cmp (prefix_as e.prefix) (prefix_as f.prefix) ≡ Less = sym (cmp_is e.prefix f.prefix) ∙ (sym c.cmp.ensures ∙ c.in-Less.is) in
    record {
      low = omega (arith, c.loop-i-test.true);
      high = v.high;
      changes = low_at _ c.loop-i.changes.items c.push.new.self.items c.args.old.now (drop c.loop-i.j c.args.new.now) c.loop-i.i e c.requires.old (low_below c.args.old.now c.args.new.now c.loop-i.j e f c.requires.new c.if-j-new.true c.index-new-j.is less) c.loop-i-test.true c.index-old-i.is _ c.in_ok-push-in-Less.ensures.items refl v.changes;
    }

pub loop-i-preserved-in-Greater : goal.loop-i-preserved-in-Greater
loop-i-preserved-in-Greater c =
    let v = c.loop-i.invariant in
    let e = c.index-old-i.result in
    let f = c.index-new-j.result in
    let more : prefix_cmp (prefix_as e.prefix) (prefix_as f.prefix) ≡ Greater = sym (cmp_is e.prefix f.prefix) ∙ (sym c.cmp.ensures ∙ c.in-Greater.is) in
    let less : prefix_cmp (prefix_as f.prefix) (prefix_as e.prefix) ≡ Less = prefix_total.antisymm (prefix_as f.prefix) (prefix_as e.prefix) ∙ ap ordering_reverse more in
    record {
      low = v.low;
      high = omega (arith, c.if-j-new.true);
      changes = high_at _ c.loop-i.changes.items c.push-in-Greater.new.self.items (drop c.loop-i.i c.args.old.now) c.args.new.now c.loop-i.j f c.requires.new (low_below c.args.new.now c.args.old.now c.loop-i.i f e c.requires.old c.loop-i-test.true c.index-old-i.is less) c.if-j-new.true c.index-new-j.is _ c.in_ok-push-in-Greater.ensures.items refl v.changes;
    }

pub loop-i-preserved : goal.loop-i-preserved
loop-i-preserved c =
    let v = c.loop-i.invariant in
    let e = c.index-old-i.result in
    let f = c.index-new-j.result in
    let tie : prefix_cmp (prefix_as e.prefix) (prefix_as f.prefix) ≡ Equal = sym (cmp_is e.prefix f.prefix) ∙ (sym c.cmp.ensures ∙ c.in-Equal.is) in
    record {
      low = omega (arith, c.loop-i-test.true);
      high = omega (arith, c.if-j-new.true);
      changes = both_at _ c.loop-i.changes.items c.push_replaced.new.out.items c.args.old.now c.args.new.now c.loop-i.i c.loop-i.j e f c.requires.old c.requires.new c.loop-i-test.true c.index-old-i.is c.if-j-new.true c.index-new-j.is (equal_are_same (prefix_as e.prefix) (prefix_as f.prefix) (is_prefix e.prefix) (is_prefix f.prefix) tie) c.in_ok-push_replaced-in-Equal.ensures v.changes;
    }

pub push_removed-requires : goal.push_removed-requires
push_removed-requires c = sorted_part c.loop-i.i c.args.old.now c.requires.old

pub push_added-requires : goal.push_added-requires
push_added-requires c = sorted_part c.loop-i.j c.args.new.now c.requires.new

pub returns : goal.returns
returns c =
    let e : (length c.args.old.now ≤ c.loop-i.i) ⊎ (length c.args.new.now ≤ c.loop-i.j) = elim c.loop-i-test.branch [
      | then-loop-i-test+else-j-new w ↦ inr (omega (arith, w.if-j-new))
      | else-loop-i-test w ↦ inl (omega (arith, w.loop-i-test))
    ]
    in ended _ _ _ _ c.args.old.now c.args.new.now c.loop-i.i c.loop-i.j e c.in_ok-push_removed.ensures c.in_ok-push_added.ensures c.loop-i.invariant.changes
