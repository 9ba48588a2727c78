use Rattle.std.proofs.Common.{List, [], ◌∷◌, ◌++◌, take, map, length, subst, sym, arith}
use Rattle.std.proofs.lemmas.List.{take_all}
use Rattle.table_model.specs.Entries.{Entries}
use Rattle.ortc.specs.Packed.{packed_entry_as}
use Rattle.ortc.specs.declared.packed.PackedEntry.{PackedEntry}
use Rattle.ortc.proofs.Packing.{take_next}
use Rattle.ortc.proofs.packed_table.emit_all.Goals as goal

pub loop-entry-init : goal.loop-entry-init
loop-entry-init g c = record { ready = c.requires; takes = g.met.S.EntrySink.none c.args.out.now c.requires }

pub loop-entry-preserved : goal.loop-entry-preserved
loop-entry-preserved g c =
    let xs = c.args.entries.now in
    let i = c.loop-entry.entry-index in
    let one = subst (λ e. g.S.EntrySink.takes c.loop-entry.out (e ∷ []) c.put.new.self) c.entry.ensures c.in_ok-put.ensures.takes in
    record {
      ready = c.in_ok-put.ensures.ready;
      takes = subst (λ (E : Entries). g.S.EntrySink.takes c.args.out.now E c.put.new.self) (sym (take_next packed_entry_as xs i c.entry-item.result c.loop-entry-test.true c.entry-item.is))
          (g.met.S.EntrySink.more c.args.out.now c.loop-entry.out c.put.new.self (map packed_entry_as (take i xs)) (packed_entry_as c.entry-item.result ∷ []) c.loop-entry.invariant.takes one);
    }

pub returns-clause-takes : goal.returns-clause-takes
returns-clause-takes g c =
    let xs = c.args.entries.now in
    subst (λ (L : List PackedEntry). g.S.EntrySink.takes c.args.out.now (map packed_entry_as L) c.loop-entry.out) (take_all c.loop-entry.entry-index xs (omega (arith, c.loop-entry-test.false))) c.loop-entry.invariant.takes
