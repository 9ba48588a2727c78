use Rattle.route_choice.proofs.AllCandidates.{list_are, map_are}
use Rattle.route_choice.proofs.Handed.{took_as}
use Rattle.route_choice.proofs.all.emit_prefix.Goals as goal

pub returns-then-has_no_rank-clause-takes : goal.returns-then-has_no_rank-clause-takes
returns-then-has_no_rank-clause-takes g c = λ base apart first. took_as g.S.CandSink.takes c.args.out.now c.emit_list.new.out _ _ (list_are base c.args.paths.now.entries c.args.prefix.now c.args.ways.now c.list.result.now apart first (c.has_no_rank.ensures c.if-has_no_rank.true c.args.ways.now) c.list.ensures.sorted c.list.ensures.list) c.in_ok-emit_list.ensures.takes

pub returns-clause-takes : goal.returns-clause-takes
returns-clause-takes g c = λ base apart first. took_as g.S.CandSink.takes c.args.out.now c.emit_ways.new.out _ _ (map_are base c.args.paths.now.entries c.args.prefix.now c.args.ways.now c.list-2.result.now c.add_list.new.ways.entries c.add_ways.new.ways.entries apart first c.list-2.ensures.list c.in_ok-add_list.ensures c.in_ok-add_ways.ensures c.emit_ways.ensures.ordered) c.in_ok-emit_ways.ensures.takes
