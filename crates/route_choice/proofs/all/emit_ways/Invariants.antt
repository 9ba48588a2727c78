use Rattle.route_choice.specs.Walks.{by_ways}
use Rattle.route_choice.proofs.Handed.{Completes}
use Rattle.route_choice.proofs.all.emit_ways.Given as goal

abbrev pub invariant-loop-via : goal.invariant-loop-via
invariant-loop-via g l = record {
  next : (goal.iterator-loop-via g).can_next l.via-iterator;
  finite : (goal.iterator-loop-via g).is_finite l.via-iterator;
  ready : g.S.CandSink.ready l.out;
  told : Completes g.S.CandSink.takes l.fn.out (by_ways l.prefix l.ways.entries) l.out (by_ways l.prefix l.via-iterator);
}
