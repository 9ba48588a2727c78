use Rattle.std.proofs.Common.{ap, ◌∙◌}
use Rattle.table_model.specs.Bits.{bits_of}
use Rattle.fib_addr.specs.Views.{prefix_as}
use Rattle.orig_tree.specs.Views.{Labels}
use Rattle.orig_tree.specs.Arena.{cells_of, whole, walks_at}
use Rattle.std.specs.Prelude.{suc}
use Rattle.orig_tree.specs.Within.{nodes_in}
use Rattle.orig_tree.proofs.Regions.{region_of}
use Rattle.orig_tree.proofs.tree.Tree.region_counted.Goals as goal

pub returns-clause-answers : goal.returns-clause-answers
returns-clause-answers g c =
    (region_of c.self.inside.family c.args.self.now.family (cells_of c.self.inside.nodes) c.width.result c.below.result (bits_of c.args.prefix.now.len c.path_bits.result) (prefix_as c.args.prefix.now).bits c.args.self.now.routes c.args.self.now.entries
    (ap (λ (s : Labels). s.family) c.self.view_is) c.width.ensures c.path_bits.ensures (ap (λ (s : Labels). s.routes) c.self.view_is) (ap (λ (s : Labels). s.entries) c.self.view_is) c.below.ensures.answers c.below.ensures.entries).0

pub returns-clause-entries : goal.returns-clause-entries
returns-clause-entries g c =
    (region_of c.self.inside.family c.args.self.now.family (cells_of c.self.inside.nodes) c.width.result c.below.result (bits_of c.args.prefix.now.len c.path_bits.result) (prefix_as c.args.prefix.now).bits c.args.self.now.routes c.args.self.now.entries
    (ap (λ (s : Labels). s.family) c.self.view_is) c.width.ensures c.path_bits.ensures (ap (λ (s : Labels). s.routes) c.self.view_is) (ap (λ (s : Labels). s.entries) c.self.view_is) c.below.ensures.answers c.below.ensures.entries).1

pub returns-clause-nodes : goal.returns-clause-nodes
returns-clause-nodes g c =
    c.below.ensures.nodes
    ∙ (ap (λ d. nodes_in (bits_of c.args.prefix.now.len c.path_bits.result) (walks_at (suc d) (cells_of c.self.inside.nodes) 0).nodes) c.width.ensures
    ∙ (ap (λ b. nodes_in b (whole c.self.inside.family (cells_of c.self.inside.nodes)).nodes) c.path_bits.ensures ∙ ap (λ (s : Labels). nodes_in (prefix_as c.args.prefix.now).bits s.nodes) c.self.view_is))
