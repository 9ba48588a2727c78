use Rattle.std.proofs.Common.{ap, sym, ◌∙◌, ◌-◌}
use Rattle.table_model.specs.Table.{half}
use Rattle.orig_tree.specs.Walk.{Walks}
use Rattle.orig_tree.specs.Arena.{cells_of, from_half, walks_at}
use Rattle.orig_tree.proofs.Branching.{none_rows, half_rows}
use Rattle.orig_tree.proofs.node_ref.NodeRef.half.Goals as goal

pub returns-then-self-eq0-clause-routes : goal.returns-then-self-eq0-clause-routes
returns-then-self-eq0-clause-routes c =
    let n = c.self.inside in
    (none_rows c.args.bit n.levels (cells_of n.nodes.now) n.place c.if-self-eq0.true).0 ∙ ap (λ (w : Walks). half c.args.bit w.routes) c.self.view_is

pub returns-in-None-clause-routes : goal.returns-in-None-clause-routes
returns-in-None-clause-routes c =
    let n = c.self.inside in
    sym (ap (λ o. (from_half (walks_at (n.levels - 1) (cells_of n.nodes.now)) o).routes) c.in-None.is)
    ∙ ((half_rows c.args.bit n.levels (cells_of n.nodes.now) n.place c.read.result c.half.result c.if-self-eq0.false c.read.ensures c.half.ensures).0 ∙ ap (λ (w : Walks). half c.args.bit w.routes) c.self.view_is)

pub returns-in-Some-clause-routes : goal.returns-in-Some-clause-routes
returns-in-Some-clause-routes c =
    let n = c.self.inside in
    sym (ap (λ o. (from_half (walks_at (n.levels - 1) (cells_of n.nodes.now)) o).routes) c.in-Some.is)
    ∙ ((half_rows c.args.bit n.levels (cells_of n.nodes.now) n.place c.read.result c.half.result c.if-self-eq0.false c.read.ensures c.half.ensures).0 ∙ ap (λ (w : Walks). half c.args.bit w.routes) c.self.view_is)

pub returns-then-self-eq0-clause-entries : goal.returns-then-self-eq0-clause-entries
returns-then-self-eq0-clause-entries c =
    let n = c.self.inside in
    (none_rows c.args.bit n.levels (cells_of n.nodes.now) n.place c.if-self-eq0.true).1 ∙ ap (λ (w : Walks). half c.args.bit w.entries) c.self.view_is

pub returns-in-None-clause-entries : goal.returns-in-None-clause-entries
returns-in-None-clause-entries c =
    let n = c.self.inside in
    sym (ap (λ o. (from_half (walks_at (n.levels - 1) (cells_of n.nodes.now)) o).entries) c.in-None.is)
    ∙ ((half_rows c.args.bit n.levels (cells_of n.nodes.now) n.place c.read.result c.half.result c.if-self-eq0.false c.read.ensures c.half.ensures).1 ∙ ap (λ (w : Walks). half c.args.bit w.entries) c.self.view_is)

pub returns-in-Some-clause-entries : goal.returns-in-Some-clause-entries
returns-in-Some-clause-entries c =
    let n = c.self.inside in
    sym (ap (λ o. (from_half (walks_at (n.levels - 1) (cells_of n.nodes.now)) o).entries) c.in-Some.is)
    ∙ ((half_rows c.args.bit n.levels (cells_of n.nodes.now) n.place c.read.result c.half.result c.if-self-eq0.false c.read.ensures c.half.ensures).1 ∙ ap (λ (w : Walks). half c.args.bit w.entries) c.self.view_is)
