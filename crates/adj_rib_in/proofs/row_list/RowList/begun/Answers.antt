use Rattle.std.proofs.Common.{◌≡◌, ◌+◌, ◌-◌, ◌/◌, ◌<◌, length, refl, sym, ap, subst, rules, arith}
use Rattle.adj_rib_in.specs.RowLists.{RowItems}
use Rattle.adj_rib_in.specs.Slots.{AreRising, begun}
use Rattle.adj_rib_in.proofs.Runs.{begun_most, begun_before, begun_past, slot_read}
use Rattle.adj_rib_in.proofs.row_list.RowList.begun.Goals as goal

pub loop-from-init : goal.loop-from-init
loop-from-init c =
    let n : c.len-to.result ≡ length c.self.inside.list.items = search rules in
    record { above = omega arith; below = omega (arith, n, begun_most c.self.inside.list.items c.args.at); within = omega (arith, n) }

pub loop-from-preserved-then-off-at : goal.loop-from-preserved-then-off-at
loop-from-preserved-then-off-at c =
    let rows = c.self.inside.list.items in
    let middle = c.loop-from.from + (c.loop-from.to - c.loop-from.from) / 2 in
    let l : c.loop-from.from + (c.loop-from.to - c.loop-from.from) / 2 < length rows = omega (arith, c.loop-from-test.true, c.loop-from.invariant.within) in
    record {
      above = omega (arith, c.loop-from.invariant.above);
      below = begun_before rows c.args.at middle c.index.result.now (slot_read rows rows middle c.index.result.now refl l c.index.ensures) (omega (arith, c.off.ensures, c.if-off-at.true));
      within = omega (arith, c.loop-from-test.true, c.loop-from.invariant.within);
    }

pub loop-from-preserved : goal.loop-from-preserved
loop-from-preserved c =
    let rows = c.self.inside.list.items in
    let middle = c.loop-from.from + (c.loop-from.to - c.loop-from.from) / 2 in
    let l : c.loop-from.from + (c.loop-from.to - c.loop-from.from) / 2 < length rows = omega (arith, c.loop-from-test.true, c.loop-from.invariant.within) in
    let rising : AreRising rows = subst AreRising (sym (ap (λ (r : RowItems). r.items) c.self.view_is)) c.requires in
    let m : c.loop-from.from + (c.loop-from.to - c.loop-from.from) / 2 < begun rows c.args.at = begun_past rows c.args.at middle c.index.result.now rising (slot_read rows rows middle c.index.result.now refl l c.index.ensures) (omega (arith, c.off.ensures, c.if-off-at.false)) in
    record {
      above = omega (arith, m);
      below = omega (arith, c.loop-from.invariant.below);
      within = omega (arith, c.loop-from.invariant.within);
    }
