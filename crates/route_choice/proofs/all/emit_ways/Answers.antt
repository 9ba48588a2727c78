use Rattle.route_choice.proofs.Handed.{way_handed, ways_handed}
use Rattle.route_choice.proofs.all.emit_ways.Goals as goal

pub loop-via-preserved : goal.loop-via-preserved
loop-via-preserved g c = record {
  next = tt;
  finite = tt;
  ready = c.in_ok-emit_way.ensures.ready;
  told = way_handed g.S.CandSink.takes g.met.S.CandSink.more c.args.prefix.now _ c.loop-via.out c.emit_way.new.out _ c.loop-via.via-iterator c.next.new.self (c.in-Some.via.now, c.in-Some.attrs.now) c.in-Some.ensures.steps c.in_ok-emit_way.ensures.takes c.loop-via.invariant.told;
}

pub returns-clause-takes : goal.returns-clause-takes
returns-clause-takes g c = ways_handed g.S.CandSink.takes c.args.prefix.now _ c.loop-via.out _ c.loop-via.via-iterator c.in-None.ensures.steps.0 (g.met.S.CandSink.none c.loop-via.out c.loop-via.invariant.ready) c.loop-via.invariant.told
