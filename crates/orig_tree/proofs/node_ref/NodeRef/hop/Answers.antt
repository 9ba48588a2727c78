use Rattle.std.proofs.Common.{ap, ◌∙◌}
use Rattle.table_model.specs.Table.{root}
use Rattle.orig_tree.specs.Walk.{Walks, rows_of}
use Rattle.orig_tree.specs.Arena.{cells_of}
use Rattle.orig_tree.proofs.Branching.{no_hop, own_hop}
use Rattle.orig_tree.proofs.node_ref.NodeRef.hop.Goals as goal

pub returns-then-self-eq0 : goal.returns-then-self-eq0
returns-then-self-eq0 c =
    let n = c.self.inside in
    no_hop c.args.label n.levels (cells_of n.nodes.now) n.place c.if-self-eq0.true ∙ ap (λ (w : Walks). root (rows_of c.args.label w)) c.self.view_is

pub returns : goal.returns
returns c =
    let n = c.self.inside in
    own_hop c.args.label n.levels (cells_of n.nodes.now) n.place c.read.result c.hop.result c.if-self-eq0.false c.read.ensures c.hop.ensures ∙ ap (λ (w : Walks). root (rows_of c.args.label w)) c.self.view_is
