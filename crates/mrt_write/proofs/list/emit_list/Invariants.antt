use Rattle.std.proofs.Common.{take}
use Rattle.mrt_write.proofs.list.emit_list.Given as goal

abbrev pub invariant-loop-cand : goal.invariant-loop-cand
invariant-loop-cand g l = record {
  ready : g.S.CandSink.ready l.out;
  taken : g.S.CandSink.takes l.fn.out (take l.cand-index l.cands) l.out;
}
