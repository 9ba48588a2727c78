use Rattle.std.proofs.Common.{drop}
use Rattle.adj_rib_in.specs.Flat.{paths_over}
use Rattle.route_choice.specs.Walks.{held_for}
use Rattle.route_choice.proofs.Handed.{Completes}
use Rattle.route_choice.proofs.all.emit_prefixes.Given as goal

abbrev pub invariant-loop-prefix : goal.invariant-loop-prefix
invariant-loop-prefix g l = record {
  ready : g.S.CandSink.ready l.out;
  told : Completes g.S.CandSink.takes l.fn.out (held_for (paths_over l.flat l.paths.entries) l.prefixes) l.out (held_for (paths_over l.flat l.paths.entries) (drop l.prefix-index l.prefixes));
}
