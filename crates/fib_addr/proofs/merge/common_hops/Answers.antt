use Rattle.std.proofs.Common.{ℕ, List, ◌+◌, arith, subst, sym}
use Rattle.fib_addr.proofs.Merging.{CommonLeft, common_low, common_high, common_both, common_end_low, common_end_high}
use Rattle.fib_addr.proofs.merge.common_hops.Goals as goal
use Rattle.fib_addr.proofs.merge.common_hops.Goals.{then-loop-i-test+else-j-high, else-loop-i-test}

pub loop-i-preserved-then-low-i : goal.loop-i-preserved-then-low-i
loop-i-preserved-then-low-i c =
    let v = c.loop-i.invariant in
    (omega (arith, c.loop-i-test.true), v.1, common_low c.loop-i.hops.items c.args.low.now c.args.high.now c.loop-i.i c.loop-i.j c.requires.high c.loop-i-test.true c.if-j-high.true c.if-low-i.true v.2)

pub loop-i-preserved-then-high-j : goal.loop-i-preserved-then-high-j
loop-i-preserved-then-high-j c =
    let v = c.loop-i.invariant in
    (v.0, omega (arith, c.if-j-high.true), common_high c.loop-i.hops.items c.args.low.now c.args.high.now c.loop-i.i c.loop-i.j c.requires.low c.loop-i-test.true c.if-j-high.true c.if-high-j.true v.2)

pub loop-i-preserved : goal.loop-i-preserved
loop-i-preserved c =
    let v = c.loop-i.invariant in (
      omega (arith, c.loop-i-test.true),
      omega (arith, c.if-j-high.true),
      subst (λ (z : List ℕ). CommonLeft z (c.loop-i.i + 1) (c.loop-i.j + 1) c.args.low.now c.args.high.now) (sym c.in_ok-push.ensures.ok)
          (common_both c.loop-i.hops.items c.args.low.now c.args.high.now c.loop-i.i c.loop-i.j c.requires.low c.loop-i-test.true c.if-j-high.true (omega (arith, c.if-low-i.false, c.if-high-j.false)) v.2),
    )

pub returns : goal.returns
returns c =
    let v = c.loop-i.invariant.2 in
    elim c.loop-i-test.branch [
      | then-loop-i-test+else-j-high w ↦ common_end_high c.loop-i.hops.items c.args.low.now c.args.high.now c.loop-i.i c.loop-i.j (omega (arith, w.if-j-high)) v
      | else-loop-i-test w ↦ common_end_low c.loop-i.hops.items c.args.low.now c.args.high.now c.loop-i.i c.loop-i.j (omega (arith, w.loop-i-test)) v
    ]
