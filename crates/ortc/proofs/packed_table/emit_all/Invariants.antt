use Rattle.std.proofs.Common.{map, take}
use Rattle.ortc.specs.Packed.{packed_entry_as}
use Rattle.ortc.proofs.packed_table.emit_all.Given as goal

-- the entries so far are handed on
abbrev pub invariant-loop-entry : goal.invariant-loop-entry
invariant-loop-entry g l = record {
  ready : g.S.EntrySink.ready l.out;
  takes : g.S.EntrySink.takes l.fn.out (map packed_entry_as (take l.entry-index l.entries)) l.out;
}
