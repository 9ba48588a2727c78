use Rattle.route_choice.proofs.AllCandidates.{by_all_prefixes}
use Rattle.route_choice.proofs.Handed.{took_as}
use Rattle.route_choice.proofs.all.emit_candidates.Goals as goal

pub returns-clause-takes : goal.returns-clause-takes
returns-clause-takes g c = took_as g.S.CandSink.takes c.args.out.now c.emit_prefixes.new.out _ _ (by_all_prefixes c.args.flat.now c.args.paths.now.entries c.args.ranks.now.keys c.in_ok-prefixes.prefixes.items c.deref.result.now c.requires.indexed c.in_ok-prefixes.ensures.rows c.in_ok-prefixes.ensures.ranks c.in_ok-prefixes.ensures.sorted c.deref.ensures.value) c.in_ok-emit_prefixes.ensures.takes
