use Rattle.std.proofs.Common.{◌≤◌, ◌-◌, ℕ, ap, sym, subst, ◌∙◌, Option}
use Rattle.std.specs.Option.{unwrap_or}
use Rattle.table_model.specs.Bits.{bits_of}
use Rattle.orig_tree.specs.Views.{FitsWidth}
use Rattle.orig_tree.specs.Walk.{rows_of}
use Rattle.orig_tree.specs.Uniform.{IsUniform}
use Rattle.orig_tree.specs.Arena.{cells_of, from_half, walks_at, IfHalf, IsTree}
use Rattle.orig_tree.proofs.Arena.{uniform_at_end, uniform_step, uniform_none}
use Rattle.orig_tree.proofs.node.+uniform.Goals as goal

pub returns-then-path-eq0 : goal.returns-then-path-eq0
returns-then-path-eq0 t c = λ d name p n l s m f. uniform_at_end c.args.label (cells_of c.args.nodes.now) c.read-node.result c.cover.result c.args.i c.args.path.left c.args.path.bits c.args.inherited c.only.result d name p n c.read-node.ensures c.cover.ensures c.if-path-eq0.true c.only.ensures s m f

pub returns-in-None : goal.returns-in-None
returns-in-None t c = λ d name p n l s m f. uniform_none c.args.label (cells_of c.args.nodes.now) c.read-node.result c.args.i c.args.path.left c.args.path.bits c.bit_at.result c.half.result c.read-node.ensures c.half.ensures
    c.args.inherited c.unwrap_or-hop.result d name p n c.if-path-eq0.false c.bit_at.ensures (c.unwrap_or-hop.ensures ∙ ap (λ o. unwrap_or o c.args.inherited) c.hop.ensures) c.in-None.is l s m f

pub returns-in-Some : goal.returns-in-Some
returns-in-Some t c = λ d name p n l s m f. uniform_step c.args.label (cells_of c.args.nodes.now) c.read-node.result c.args.i c.args.path.left c.args.path.bits c.bit_at.result c.half.result c.read-node.ensures c.half.ensures
    c.args.inherited c.unwrap_or-hop.result _ d name p n c.if-path-eq0.false c.bit_at.ensures (c.unwrap_or-hop.ensures ∙ ap (λ o. unwrap_or o c.args.inherited) c.hop.ensures)
    (λ e r v y. subst (λ (o : Option ℕ). (k : ℕ) → c.args.path.left - 1 ≤ k → FitsWidth k (rows_of c.args.label (from_half (walks_at e (cells_of c.args.nodes.now)) o)) → IsUniform k (rows_of c.args.label (from_half (walks_at e (cells_of c.args.nodes.now)) o)) c.unwrap_or-hop.result (bits_of (c.args.path.left - 1) c.args.path.bits) c.uniform.result) (sym c.in-Some.is)
    (λ k a b. c.uniform.ensures e name r k v (subst (λ (o : Option ℕ). IfHalf (λ j. IsTree e (cells_of c.args.nodes.now) name j r) o) c.in-Some.is y) a b)) l s m f
