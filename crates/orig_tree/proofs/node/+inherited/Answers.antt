use Rattle.std.proofs.Common.{ap, sym, ◌∙◌, ◌-◌}
use Rattle.table_model.specs.Regions.{above}
use Rattle.table_model.specs.Bits.{bits_of}
use Rattle.orig_tree.specs.declared.node.Label.TheVariants.{Entry}
use Rattle.orig_tree.specs.Arena.{cells_of, from_half, walks_at}
use Rattle.orig_tree.proofs.Above.{above_here}
use Rattle.orig_tree.proofs.Arena.{above_step, no_entries}
use Rattle.orig_tree.proofs.node.+inherited.Goals as goal

pub returns-then-path-eq0 : goal.returns-then-path-eq0
returns-then-path-eq0 t c = λ d l. above_here (walks_at d (cells_of c.args.nodes.now) c.args.i).entries c.args.path.left c.args.path.bits c.args.hop c.if-path-eq0.true

pub returns-in-None : goal.returns-in-None
returns-in-None t c = λ d l. above_step Entry (cells_of c.args.nodes.now) c.read-node.result c.args.i c.args.path.left c.args.path.bits c.bit_at.result c.half.result c.read-node.ensures c.half.ensures
    c.args.hop c.unwrap_or-hop.result _ d c.if-path-eq0.false c.bit_at.ensures c.unwrap_or-hop.ensures
    (λ e m. no_entries (cells_of c.args.nodes.now) c.half.result _ c.unwrap_or-hop.result e c.in-None.is) l

pub returns-in-Some : goal.returns-in-Some
returns-in-Some t c = λ d l. above_step Entry (cells_of c.args.nodes.now) c.read-node.result c.args.i c.args.path.left c.args.path.bits c.bit_at.result c.half.result c.read-node.ensures c.half.ensures
    c.args.hop c.unwrap_or-hop.result _ d c.if-path-eq0.false c.bit_at.ensures c.unwrap_or-hop.ensures
    (λ e m. c.inherited.ensures e m ∙ sym (ap (λ o. above (bits_of (c.args.path.left - 1) c.args.path.bits) (from_half (walks_at e (cells_of c.args.nodes.now)) o).entries c.unwrap_or-hop.result) c.in-Some.is)) l
