use Rattle.std.proofs.Common.{ap}
use Rattle.table_model.specs.Bits.{bits_of}
use Rattle.orig_tree.specs.Views.{Labels}
use Rattle.orig_tree.specs.Arena.{cells_of, whole}
use Rattle.orig_tree.proofs.Trimming.{trimmed_tree}
use Rattle.orig_tree.proofs.Places.{same_rows}
use Rattle.orig_tree.proofs.tree.Tree.trim.Goals as goal

pub returns-clause-nodes : goal.returns-clause-nodes
returns-clause-nodes c =
    let p = c.args.prefix.now in
    let t = c.self.inside in
    trimmed_tree t.family c.args.self.now.family (bits_of p.len c.path_bits.result) _ (whole t.family (cells_of t.nodes)).routes (whole t.family (cells_of t.nodes)).entries (whole t.family (cells_of c.drop_unused.new.nodes)).routes (whole t.family (cells_of c.drop_unused.new.nodes)).entries c.args.self.now.routes c.args.self.now.entries
    (whole t.family (cells_of t.nodes)).nodes c.args.self.now.nodes (whole t.family (cells_of c.drop_unused.new.nodes)).nodes (ap (λ (s : Labels). s.family) c.self.view_is) c.path_bits.ensures c.drop_unused.ensures.routes c.drop_unused.ensures.entries
    (ap (λ (s : Labels). s.routes) c.self.view_is) (ap (λ (s : Labels). s.entries) c.self.view_is) (ap (λ (s : Labels). s.nodes) c.self.view_is) c.drop_unused.ensures.trimmed

pub invariant_of-self : goal.invariant_of-self
invariant_of-self c =
    let f = c.self.inside.family in
    let old = whole f (cells_of c.self.inside.nodes) in
    let new = whole f (cells_of c.drop_unused.new.nodes) in (
      c.drop_unused.ensures.arena,
      same_rows f old.routes new.routes c.drop_unused.ensures.routes c.self.invariant.1,
      same_rows f old.entries new.entries c.drop_unused.ensures.entries c.self.invariant.2,
      c.drop_unused.ensures.best c.self.invariant.3,
      tt,
    )
