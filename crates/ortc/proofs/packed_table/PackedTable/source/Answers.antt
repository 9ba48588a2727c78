use Rattle.std.proofs.Common.{subst}
use Rattle.std.specs.List.{AllByRecursion}
use Rattle.std.specs.Map.{keys_of}
use Rattle.table_model.specs.Address.{IsPrefix}
use Rattle.table_model.specs.Entries.{Entries}
use Rattle.ortc.proofs.Packing.{packed_prefixes}
use Rattle.ortc.proofs.packed_table.PackedTable.source.Goals as goal

pub returns-clause-prefixes : goal.returns-clause-prefixes
returns-clause-prefixes c = subst (λ (E : Entries). AllByRecursion IsPrefix (keys_of E)) c.self.view_is (packed_prefixes c.self.inside.entries.items)
