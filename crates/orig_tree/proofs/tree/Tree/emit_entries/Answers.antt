use Rattle.orig_tree.specs.Arena.{cells_of, whole}
use Rattle.orig_tree.proofs.Telling.{fits_in_place}
use Rattle.orig_tree.proofs.tree.Tree.emit_entries.Goals as goal

pub tell_all-requires-clause-fits : goal.tell_all-requires-clause-fits
tell_all-requires-clause-fits g c = fits_in_place c.self.inside.family (whole c.self.inside.family (cells_of c.self.inside.nodes)).entries c.self.invariant.2.0
