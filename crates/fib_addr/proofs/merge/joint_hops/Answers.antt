use Rattle.std.proofs.Common.{◌≡◌, ℕ, List, [], ◌+◌, arith, refl, subst, sym}
use Rattle.table_model.specs.Sets.{common}
use Rattle.fib_addr.proofs.Merging.{AllLeft, all_low, all_high, common_low, common_high, rest_row_ascends, met_some, met_order, met_hops, none_low, none_high, none_hops}
use Rattle.fib_addr.proofs.merge.joint_hops.Goals as goal
use Rattle.fib_addr.proofs.merge.joint_hops.Goals.{then-loop-i-test+else-j-high, else-loop-i-test}

pub loop-i-preserved-then-low-i : goal.loop-i-preserved-then-low-i
loop-i-preserved-then-low-i c =
    let v = c.loop-i.invariant in
    let S = c.args.low.now in
    let T = c.args.high.now in
    record {
      low_in = omega (arith, c.loop-i-test.true);
      high_in = v.high_in;
      all = subst (λ (z : List ℕ). AllLeft z (c.loop-i.i + 1) c.loop-i.j S T) (sym c.in_ok-push.ensures.ok)
          (all_low c.loop-i.hops.items S T c.loop-i.i c.loop-i.j c.loop-i-test.true c.if-j-high.true c.if-low-i.true v.all);
      none = common_low [] S T c.loop-i.i c.loop-i.j c.requires.high c.loop-i-test.true c.if-j-high.true c.if-low-i.true v.none;
    }

pub loop-i-preserved : goal.loop-i-preserved
loop-i-preserved c =
    let v = c.loop-i.invariant in
    let S = c.args.low.now in
    let T = c.args.high.now in
    record {
      low_in = v.low_in;
      high_in = omega (arith, c.if-j-high.true);
      all = subst (λ (z : List ℕ). AllLeft z c.loop-i.i (c.loop-i.j + 1) S T) (sym c.in_ok-push-2.ensures.ok)
          (all_high c.loop-i.hops.items S T c.loop-i.i c.loop-i.j c.loop-i-test.true c.if-j-high.true c.if-high-j.true v.all);
      none = common_high [] S T c.loop-i.i c.loop-i.j c.requires.low c.loop-i-test.true c.if-j-high.true c.if-high-j.true v.none;
    }

pub common_hops-requires-clause-low : goal.common_hops-requires-clause-low
common_hops-requires-clause-low c = rest_row_ascends c.args.low.now c.loop-i.i c.requires.low

pub common_hops-requires-clause-high : goal.common_hops-requires-clause-high
common_hops-requires-clause-high c = rest_row_ascends c.args.high.now c.loop-i.j c.requires.high

pub returns-else-high-j : goal.returns-else-high-j
returns-else-high-j c =
    let v = c.loop-i.invariant in
    let S = c.args.low.now in
    let T = c.args.high.now in
    record {
      order = met_order S T c.in_ok-met.met.items c.loop-i.i c.loop-i.j c.loop-i-test.true c.if-j-high.true c.if-low-i.false c.if-high-j.false v.none c.in_ok-met.ensures c.requires.low;
      hops = met_hops S T c.in_ok-met.met.items c.loop-i.i c.loop-i.j c.loop-i-test.true c.if-j-high.true c.if-low-i.false c.if-high-j.false v.none c.in_ok-met.ensures;
      apart = (λ e. cc, λ z. absurd (met_some S T c.in_ok-met.met.items c.loop-i.i c.loop-i.j c.loop-i-test.true c.if-j-high.true c.if-low-i.false c.if-high-j.false v.none c.in_ok-met.ensures z));
    }

pub returns-clause-hops : goal.returns-clause-hops
returns-clause-hops c =
    let v = c.loop-i.invariant in
    let S = c.args.low.now in
    let T = c.args.high.now in
    let bare : common S T ≡ [] = elim c.loop-i-test.branch [
      | then-loop-i-test+else-j-high w ↦ none_high S T c.loop-i.i c.loop-i.j (omega (arith, w.if-j-high)) v.none
      | else-loop-i-test w ↦ none_low S T c.loop-i.i c.loop-i.j (omega (arith, w.loop-i-test)) v.none
    ] in
    none_hops c.loop-i.hops.items c.extend_from_slice.new.self.items c.extend_from_slice-2.new.self.items S T c.loop-i.i c.loop-i.j v.all c.in_ok-extend_from_slice.ensures.ok c.in_ok-extend_from_slice-2.ensures.ok bare

pub returns-clause-apart : goal.returns-clause-apart
returns-clause-apart c =
    let v = c.loop-i.invariant in
    let S = c.args.low.now in
    let T = c.args.high.now in
    let bare : common S T ≡ [] = elim c.loop-i-test.branch [
      | then-loop-i-test+else-j-high w ↦ none_high S T c.loop-i.i c.loop-i.j (omega (arith, w.if-j-high)) v.none
      | else-loop-i-test w ↦ none_low S T c.loop-i.i c.loop-i.j (omega (arith, w.loop-i-test)) v.none
    ] in
    (λ e. bare, λ z. refl)
