use Rattle.std.proofs.Common.{drop}
use Rattle.route_choice.specs.Walks.{by_ways}
use Rattle.route_choice.proofs.Handed.{Completes}
use Rattle.route_choice.proofs.all.emit_list.Given as goal

abbrev pub invariant-loop-way : goal.invariant-loop-way
invariant-loop-way g l = record {
  ready : g.S.CandSink.ready l.out;
  told : Completes g.S.CandSink.takes l.fn.out (by_ways l.prefix l.ways) l.out (by_ways l.prefix (drop l.way-index l.ways));
}
