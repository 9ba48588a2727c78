use Rattle.orig_tree.specs.Arena.{cells_of}
use Rattle.std.proofs.Common.{sym, ap, ◌∙◌}
use Rattle.table_model.specs.Bits.{bits_of}
use Rattle.table_model.specs.Entries.{of_family}
use Rattle.table_model.specs.Regions.{above}
use Rattle.fib_addr.specs.Views.{prefix_as}
use Rattle.orig_tree.specs.Views.{Labels}
use Rattle.orig_tree.proofs.Asked.{short}
use Rattle.orig_tree.proofs.Roots.{inherited_whole}
use Rattle.orig_tree.proofs.tree.Tree.inherited.Goals as goal

pub returns : goal.returns
returns c =
    let p = c.args.prefix.now in
    let same = c.requires ∙ sym (ap (λ (s : Labels). s.family) c.self.view_is) in
    inherited_whole c.self.inside.family (bits_of p.len c.path_bits.result) (prefix_as p).bits (cells_of c.self.inside.nodes) c.args.self.now.entries c.inherited.result p.len (short p c.self.inside.family same)
    (ap (λ (s : Labels). s.entries) c.self.view_is) c.path_bits.ensures c.inherited.ensures
    ∙ ap (λ f. above (prefix_as p).bits (of_family f c.args.self.now.entries) 0) (ap (λ (s : Labels). s.family) c.self.view_is)
