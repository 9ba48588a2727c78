use Rattle.route_choice.specs.Walks.{by_way}
use Rattle.route_choice.proofs.Handed.{took_one}
use Rattle.route_choice.proofs.all.emit_way.Goals as goal

pub returns-clause-takes : goal.returns-clause-takes
returns-clause-takes g c = took_one g.S.CandSink.takes c.args.out.now c.put.new.self c.candidate-cand.result (by_way c.args.prefix.now (c.args.via.now, c.args.attrs.now)) c.candidate-cand.ensures c.in_ok-put.ensures.takes
