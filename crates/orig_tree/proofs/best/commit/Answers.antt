use Rattle.std.proofs.Common.{arith, refl, sym, ap, ◌∙◌, vec_len}
use Rattle.std.proofs.lemmas.List.{drop_all}
use Rattle.orig_tree.specs.Bests.{best_in, changed, back}
use Rattle.orig_tree.proofs.Mending.{commit_step}
use Rattle.orig_tree.proofs.Undoing.{back_step, all_made}
use Rattle.orig_tree.proofs.best.commit.Goals as goal

pub loop-change-init : goal.loop-change-init
loop-change-init c = record {
  back = λ j l. refl;
  rest = λ j l. ap (λ cs. changed cs (best_in c.args.nodes.now) j) c.deref_mut-change-items.ensures.value;
  cells = refl;
  free = refl;
  capacity = refl;
  len = refl;
}

pub loop-change-preserved : goal.loop-change-preserved
loop-change-preserved c =
    let v = c.loop-change.invariant in
    record {
      rest = λ j l. commit_step c.loop-change.change-items c.loop-change.change-index (vec_len c.args.nodes.now.halves) c.change-item.result _ (best_in c.loop-change.nodes) (best_in c.exchange.new.nodes) (λ j. changed c.args.changes.now.items (best_in c.args.nodes.now) j)
          (omega (arith, c.loop-change-test.true, c.loop-change.auto.change-items)) (λ k m. c.exchange.ensures.kept k (omega (arith, m, v.len))) v.rest j l;
      back = λ j l. back_step c.loop-change.change-items c.loop-change.change-index (vec_len c.args.nodes.now.halves) c.change-item.result _ (best_in c.loop-change.nodes) (best_in c.exchange.new.nodes) (best_in c.args.nodes.now)
          (omega (arith, c.loop-change-test.true, c.loop-change.auto.change-items)) (λ k m. c.exchange.ensures.kept k (omega (arith, m, v.len))) refl (λ m. c.exchange.ensures.given (omega (arith, m, v.len))) v.back j l;
      cells = c.exchange.ensures.cells ∙ v.cells;
      free = c.exchange.ensures.free ∙ v.free;
      capacity = c.exchange.ensures.capacity ∙ v.capacity;
      len = c.exchange.ensures.len ∙ v.len;
    }

pub returns-clause-kept : goal.returns-clause-kept
returns-clause-kept c = λ j l. sym (ap (λ cs. changed cs (best_in c.loop-change.nodes) j) (drop_all c.loop-change.change-index c.loop-change.change-items (omega (arith, c.loop-change-test.false, c.loop-change.auto.change-items)))) ∙ c.loop-change.invariant.rest j l

pub returns-clause-cells : goal.returns-clause-cells
returns-clause-cells c = c.loop-change.invariant.cells

pub returns-clause-free : goal.returns-clause-free
returns-clause-free c = c.loop-change.invariant.free

pub returns-clause-capacity : goal.returns-clause-capacity
returns-clause-capacity c = c.loop-change.invariant.capacity

pub returns-clause-len : goal.returns-clause-len
returns-clause-len c = c.loop-change.invariant.len

pub returns-clause-back : goal.returns-clause-back
returns-clause-back c = λ j l.
    ap (λ cs. back cs (best_in c.loop-change.nodes) j) (all_made c.loop-change.change-items c.args.changes.now.items _ c.loop-change.change-index (omega (arith, c.loop-change.auto.change-items)) (omega (arith, c.args.changes.now.ok.0)) (omega (arith, c.loop-change-test.false, c.loop-change.auto.change-items)))
    ∙ c.loop-change.invariant.back j l
