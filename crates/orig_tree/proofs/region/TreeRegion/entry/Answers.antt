use Rattle.std.proofs.Common.{ap, ◌∙◌}
use Rattle.table_model.specs.Table.{root}
use Rattle.orig_tree.specs.Arena.{cells_of}
use Rattle.orig_tree.specs.Spots.{Spot}
use Rattle.orig_tree.proofs.Regions.{entry_root}
use Rattle.orig_tree.proofs.region.TreeRegion.entry.Goals as goal

pub returns-in-Some : goal.returns-in-Some
returns-in-Some c =
    let r = c.self.inside in
    entry_root (cells_of r.nodes.now) r.place c.in-Some.i r.bits r.hop c.read.result c.in-Some.is c.read.ensures ∙ ap (λ (s : Spot). root s.entries) c.self.view_is
