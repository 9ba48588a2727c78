use Rattle.std.proofs.Common.{◌≡◌, ◌≤◌, sym, ◌∙◌, length, arith}
use Rattle.cert_check.proofs.Counts.{back_test, counted_this, counted_other, count_most}
use Rattle.table_model.specs.Address.{same_family}
use Rattle.cert_check.proofs.verdict.count_of.Goals.{then-eq, else-eq}
use Rattle.cert_check.proofs.verdict.count_of.Goals as goal

pub overflow_add-count : goal.overflow_add-count
overflow_add-count c =
    let n : c.loop-entry.count ≤ length c.args.entries.now = count_most c.args.family c.args.entries.now c.loop-entry.entry-index c.loop-entry.count c.loop-entry.invariant in
    omega (arith, n)

pub loop-entry-preserved : goal.loop-entry-preserved
loop-entry-preserved c =
    let e = c.entry-item.result in
    let test : c.eq.result ≡ same_family c.args.family e.prefix.family = c.eq.ensures ∙ back_test e.prefix.family c.args.family in
    elim c.if-eq.branch [
      | then-eq w ↦
          counted_this c.args.family c.args.entries.now c.loop-entry.entry-index e c.loop-entry.count c.if-eq.count c.loop-entry-test.true c.entry-item.is (sym test ∙ w.if-eq.true) c.loop-entry.invariant w.count-is
      | else-eq w ↦
          counted_other c.args.family c.args.entries.now c.loop-entry.entry-index e c.loop-entry.count c.if-eq.count c.loop-entry-test.true c.entry-item.is (sym test ∙ w.if-eq.false) c.loop-entry.invariant w.count-is
    ]
