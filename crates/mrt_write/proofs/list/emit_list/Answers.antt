use Rattle.std.proofs.Common.{◌++◌, ◌∷◌, [], ap, sym, subst, ◌∙◌, take}
use Rattle.std.proofs.lemmas.List.{take_all, take_more}
use Rattle.mrt_write.proofs.list.emit_list.Goals as goal

pub loop-cand-init : goal.loop-cand-init
loop-cand-init g c = record { ready = c.requires; taken = g.met.S.CandSink.none c.args.out.now c.requires }

pub loop-cand-preserved : goal.loop-cand-preserved
loop-cand-preserved g c =
    let step = take_more c.args.cands.now c.loop-cand.cand-index c.cand-item.result c.loop-cand-test.true ∙ ap (λ y. take c.loop-cand.cand-index c.args.cands.now ++ y ∷ []) (sym c.cand-item.is) in
    record {
      ready = c.in_ok-put.ensures.ready;
      taken = subst (λ xs. g.S.CandSink.takes c.args.out.now xs c.put.new.self) (sym step)
          (g.met.S.CandSink.more c.args.out.now c.loop-cand.out c.put.new.self (take c.loop-cand.cand-index c.args.cands.now) (c.cand-item.result ∷ []) c.loop-cand.invariant.taken c.in_ok-put.ensures.takes);
    }

pub returns-clause-takes : goal.returns-clause-takes
returns-clause-takes g c = subst (λ xs. g.S.CandSink.takes c.args.out.now xs c.loop-cand.out) (take_all c.loop-cand.cand-index c.args.cands.now c.loop-cand-test.false) c.loop-cand.invariant.taken
