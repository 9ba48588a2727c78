use Rattle.std.proofs.Common.{map, refl, sym, ap, ◌∙◌}
use Rattle.table_model.specs.Bits.{bits_of}
use Rattle.fib_addr.specs.Views.{entry_as}
use Rattle.smalta_keep.proofs.Apart.{none_if}
use Rattle.smalta_keep.proofs.Within.{repair_place, repaired}
use Rattle.smalta_keep.proofs.pass.differing_within.Goals as goal

pub list_differing-requires-clause-place : goal.list_differing-requires-clause-place
list_differing-requires-clause-place c =
    let k = c.args.tree.now in
    let p = c.args.prefix.now in
    repair_place k p c.region.result c.requires.family c.region.ensures.bits c.region.ensures.answers c.region.ensures.entries c.family-family.ensures.order.1 (bits_of p.len c.path_bits-q.result) c.path_bits-q.ensures c.args.dirty.now c.requires.known c.root_of.result c.root_of.ensures
    _ c.walk_to-end.result.hop refl c.walk_to-end.ensures.routes c.walk_to-end.ensures.entries c.seek-met.ensures.entries (λ i. (sym (none_if c.args.dirty.now c.is_none.result c.is_none.ensures) ∙ (c.seek-met.ensures.marked i).0, (c.seek-met.ensures.marked i).1)) refl c.walk_to-end.ensures.hop

pub returns-clause-tables : goal.returns-clause-tables
returns-clause-tables c =
    repaired c.args.tree.now c.args.prefix.now c.region.result c.requires.family c.region.ensures.bits c.region.ensures.answers c.region.ensures.entries c.family-family.ensures.order.1 c.walk_to-end.result.hop c.walk_to-end.ensures.hop
    (record { had = c.new.result; gets = c.new-2.result }) c.list_differing.new.out (ap (map entry_as) c.new.ensures.items) (ap (map entry_as) c.new-2.ensures.items) c.in_ok-list_differing.ensures
