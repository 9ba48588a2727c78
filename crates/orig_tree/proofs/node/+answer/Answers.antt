use Rattle.std.proofs.Common.{ap, sym, ◌∙◌, ◌-◌}
use Rattle.std.specs.Option.{unwrap_or}
use Rattle.table_model.specs.Table.{lpm}
use Rattle.table_model.specs.Bits.{bits_of}
use Rattle.orig_tree.specs.Walk.{rows_of}
use Rattle.orig_tree.specs.Arena.{cells_of, from_half, walks_at}
use Rattle.orig_tree.proofs.Arena.{answer_at_end, answer_step, no_rows}
use Rattle.orig_tree.proofs.node.+answer.Goals as goal

pub returns-then-path-eq0 : goal.returns-then-path-eq0
returns-then-path-eq0 t c = λ d l. answer_at_end c.args.label (cells_of c.args.nodes.now) c.read-node.result c.args.i c.args.path.left c.args.path.bits c.args.inherited _ d c.read-node.ensures c.if-path-eq0.true (c.unwrap_or-hop.ensures ∙ ap (λ o. unwrap_or o c.args.inherited) c.hop.ensures) l

pub returns-in-None : goal.returns-in-None
returns-in-None t c = λ d l. answer_step c.args.label (cells_of c.args.nodes.now) c.read-node.result c.args.i c.args.path.left c.args.path.bits c.bit_at.result c.half.result c.read-node.ensures c.half.ensures
    c.args.inherited c.unwrap_or-hop.result _ d c.if-path-eq0.false c.bit_at.ensures (c.unwrap_or-hop.ensures ∙ ap (λ o. unwrap_or o c.args.inherited) c.hop.ensures)
    (λ e m. no_rows c.args.label (cells_of c.args.nodes.now) c.half.result _ c.unwrap_or-hop.result e c.in-None.is) l

pub returns-in-Some : goal.returns-in-Some
returns-in-Some t c = λ d l. answer_step c.args.label (cells_of c.args.nodes.now) c.read-node.result c.args.i c.args.path.left c.args.path.bits c.bit_at.result c.half.result c.read-node.ensures c.half.ensures
    c.args.inherited c.unwrap_or-hop.result _ d c.if-path-eq0.false c.bit_at.ensures (c.unwrap_or-hop.ensures ∙ ap (λ o. unwrap_or o c.args.inherited) c.hop.ensures)
    (λ e m. c.answer.ensures e m ∙ sym (ap (λ o. lpm (rows_of c.args.label (from_half (walks_at e (cells_of c.args.nodes.now)) o)) (bits_of (c.args.path.left - 1) c.args.path.bits) c.unwrap_or-hop.result) c.in-Some.is)) l
