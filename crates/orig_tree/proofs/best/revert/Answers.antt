use Rattle.std.proofs.Common.{arith, refl, sym, ap, ◌∙◌, vec_len}
use Rattle.orig_tree.specs.Bests.{best_in, put_at, back}
use Rattle.orig_tree.proofs.Undoing.{back_push, back_alike}
use Rattle.orig_tree.proofs.best.revert.Goals as goal

pub loop-last-init : goal.loop-last-init
loop-last-init c = record { rest = λ j l. refl; cells = refl; free = refl; len = refl }

pub loop-last-preserved-in-Some : goal.loop-last-preserved-in-Some
loop-last-preserved-in-Some c =
    let v = c.loop-last.invariant in
    let S = best_in c.loop-last.nodes in
    record {
      rest = λ j m. back_alike c.pop.new.self.items (best_in c.exchange.new.nodes) (put_at S c.in-Some.last.place c.in-Some.last.best) (vec_len c.args.nodes.now.halves) (λ k w. c.exchange.ensures.kept k (omega (arith, w, v.len))) j m
          ∙ (ap (λ K. K j) (sym (back_push c.pop.new.self.items c.in-Some.last S)) ∙ (ap (λ cs. back cs S j) (sym c.in-Some.ensures.items) ∙ v.rest j m));
      cells = c.exchange.ensures.cells ∙ v.cells;
      free = c.exchange.ensures.free ∙ v.free;
      len = c.exchange.ensures.len ∙ v.len;
    }

pub loop-last-preserved : goal.loop-last-preserved
loop-last-preserved c =
    let v = c.loop-last.invariant in
    let S = best_in c.loop-last.nodes in
    record {
      rest = λ j m. back_alike c.pop.new.self.items (best_in c.exchange.new.nodes) (put_at S c.in-Some.last.place c.in-Some.last.best) (vec_len c.args.nodes.now.halves) (λ k w. c.exchange.ensures.kept k (omega (arith, w, v.len))) j m
          ∙ (ap (λ K. K j) (sym (back_push c.pop.new.self.items c.in-Some.last S)) ∙ (ap (λ cs. back cs S j) (sym c.in-Some.ensures.items) ∙ v.rest j m));
      cells = c.exchange.ensures.cells ∙ v.cells;
      free = c.exchange.ensures.free ∙ v.free;
      len = c.exchange.ensures.len ∙ v.len;
    }
