use Rattle.std.proofs.Common.{suc, sym, ap, ◌∙◌}
use Rattle.std.specs.Prelude.{option_map}
use Rattle.table_model.specs.Bits.{bits_of}
use Rattle.table_model.specs.Width.{width}
use Rattle.fib_addr.specs.declared.entry.Hop.{Hop}
use Rattle.orig_tree.specs.Arena.{cells_of, whole}
use Rattle.orig_tree.specs.Views.{Labels}
use Rattle.orig_tree.proofs.Within.{enough, own_of}
use Rattle.orig_tree.proofs.tree.Tree.route.Goals as goal

pub returns-in_err-hop-clause-route : goal.returns-in_err-hop-clause-route
returns-in_err-hop-clause-route c =
    let t = c.self.inside in
    let p = c.args.prefix.now in
    let same = c.requires ∙ sym (ap (λ (s : Labels). s.family) c.self.view_is) in
    ap (option_map (λ (h : Hop). h.0)) c.from_residual.ensures
    ∙ (sym c.in_err-hop.was ∙ own_of p t.family (bits_of p.len c.path_bits.result) (whole t.family (cells_of t.nodes)).routes c.args.self.now.routes c.route_at.result same c.path_bits.ensures
    (ap (λ (s : Labels). s.routes) c.self.view_is) (c.route_at.ensures (suc (width t.family)) (enough p t.family same)))

pub returns-clause-route : goal.returns-clause-route
returns-clause-route c =
    let t = c.self.inside in
    let p = c.args.prefix.now in
    let same = c.requires ∙ sym (ap (λ (s : Labels). s.family) c.self.view_is) in
    sym c.in_ok-hop.was ∙ own_of p t.family (bits_of p.len c.path_bits.result) (whole t.family (cells_of t.nodes)).routes c.args.self.now.routes c.route_at.result same c.path_bits.ensures
    (ap (λ (s : Labels). s.routes) c.self.view_is) (c.route_at.ensures (suc (width t.family)) (enough p t.family same))
