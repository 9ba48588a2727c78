use Rattle.std.proofs.Common.{suc, sym, ap, ◌∙◌}
use Rattle.table_model.specs.Bits.{bits_of}
use Rattle.table_model.specs.Width.{width}
use Rattle.fib_addr.specs.Views.{prefix_as}
use Rattle.orig_tree.specs.Walk.{has_node}
use Rattle.orig_tree.specs.Arena.{cells_of, whole}
use Rattle.orig_tree.specs.Views.{Labels}
use Rattle.orig_tree.proofs.Within.{enough, own_of}
use Rattle.orig_tree.proofs.tree.Tree.own_route.Goals as goal

pub returns-clause-node : goal.returns-clause-node
returns-clause-node c =
    let t = c.self.inside in
    let p = c.args.prefix.now in
    let same = c.requires ∙ sym (ap (λ (s : Labels). s.family) c.self.view_is) in
    c.seek.ensures.node (suc (width t.family)) (enough p t.family same)
    ∙ (ap (λ b. has_node b (whole t.family (cells_of t.nodes)).nodes) c.path_bits.ensures ∙ ap (λ (s : Labels). has_node (prefix_as p).bits s.nodes) c.self.view_is)

pub returns-clause-route : goal.returns-clause-route
returns-clause-route c =
    let t = c.self.inside in
    let p = c.args.prefix.now in
    let same = c.requires ∙ sym (ap (λ (s : Labels). s.family) c.self.view_is) in
    own_of p t.family (bits_of p.len c.path_bits.result) (whole t.family (cells_of t.nodes)).routes c.args.self.now.routes c.seek.result.hop same c.path_bits.ensures
    (ap (λ (s : Labels). s.routes) c.self.view_is) (c.seek.ensures.route (suc (width t.family)) (enough p t.family same))
