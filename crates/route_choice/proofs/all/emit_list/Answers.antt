use Rattle.std.proofs.Common.{ap, sym, ◌∙◌, ◌+◌, ◌∷◌, drop}
use Rattle.std.proofs.lemmas.List.{drop_more}
use Rattle.std.proofs.Math.ListN.{drop_of_length-le}
use Rattle.route_choice.proofs.Handed.{way_handed, ways_handed}
use Rattle.route_choice.proofs.all.emit_list.Goals as goal

pub loop-way-init : goal.loop-way-init
loop-way-init g c = record { ready = c.requires; told = λ end t. t }

pub loop-way-preserved : goal.loop-way-preserved
loop-way-preserved g c =
    let step = drop_more c.args.ways.now c.loop-way.way-index c.way-item.result c.loop-way-test.true ∙ ap (λ y. y ∷ drop (c.loop-way.way-index + 1) c.args.ways.now) (sym c.way-item.is) in
    record {
      ready = c.in_ok-emit_way.ensures.ready;
      told = way_handed g.S.CandSink.takes g.met.S.CandSink.more c.args.prefix.now _ c.loop-way.out c.emit_way.new.out _ _ _ c.way-item.result step c.in_ok-emit_way.ensures.takes c.loop-way.invariant.told;
    }

pub returns-clause-takes : goal.returns-clause-takes
returns-clause-takes g c = ways_handed g.S.CandSink.takes c.args.prefix.now _ c.loop-way.out _ _ (drop_of_length-le c.args.ways.now c.loop-way-test.false) (g.met.S.CandSink.none c.loop-way.out c.loop-way.invariant.ready) c.loop-way.invariant.told
