use Rattle.std.proofs.Common.{sym, ap, ◌∙◌}
use Rattle.table_model.specs.Bits.{bits_of}
use Rattle.orig_tree.specs.Views.{Labels}
use Rattle.orig_tree.specs.Arena.{cells_of, whole}
use Rattle.orig_tree.proofs.Asked.{asked_one, asked_none, short}
use Rattle.orig_tree.specs.declared.node.Label.TheVariants.{Entry}
use Rattle.orig_tree.proofs.Roots.{uniform_whole}
use Rattle.orig_tree.proofs.tree.Tree.uniform_entry.Goals as goal

pub returns-in_err-hop-clause-differ : goal.returns-in_err-hop-clause-differ
returns-in_err-hop-clause-differ c =
    let p = c.args.prefix.now in
    let t = c.self.inside in
    let same = c.requires ∙ sym (ap (λ (s : Labels). s.family) c.self.view_is) in
    rw (c.from_residual.ensures)
    (asked_none t.family p.family (bits_of p.len c.path_bits.result) _ (whole t.family (cells_of t.nodes)).entries c.args.self.now.entries c.uniform.result same c.path_bits.ensures (ap (λ (s : Labels). s.entries) c.self.view_is) c.in_err-hop.was c.self.invariant.2
    (λ fits. uniform_whole t.family Entry (bits_of p.len c.path_bits.result) (cells_of t.nodes) t.nodes.free p.len c.uniform.result (short p t.family same) c.self.invariant.0 fits c.uniform.ensures))

pub returns-clause-one : goal.returns-clause-one
returns-clause-one c =
    let p = c.args.prefix.now in
    let t = c.self.inside in
    let same = c.requires ∙ sym (ap (λ (s : Labels). s.family) c.self.view_is) in
    asked_one t.family p.family (bits_of p.len c.path_bits.result) _ (whole t.family (cells_of t.nodes)).entries c.args.self.now.entries c.uniform.result c.in_ok-hop.hop same c.path_bits.ensures (ap (λ (s : Labels). s.entries) c.self.view_is) c.in_ok-hop.was c.self.invariant.2
    (λ fits. uniform_whole t.family Entry (bits_of p.len c.path_bits.result) (cells_of t.nodes) t.nodes.free p.len c.uniform.result (short p t.family same) c.self.invariant.0 fits c.uniform.ensures)
