use Rattle.std.proofs.Common.{ap, ◌∙◌}
use Rattle.poptrie_build.specs.Need.{need_in_u64}
use Rattle.poptrie_build.specs.Tries.{node_need, leaf_need}
use Rattle.poptrie_build.specs.declared.counts.Needs.{Needs}
use Rattle.route_tries.specs.Parts.{nodes_on_way, leaves_on_way}
use Rattle.route_tries.proofs.Under.{nodes_moved, leaves_moved}
use Rattle.route_tries.proofs.needs.need_after.Goals as goal

pub returns : goal.returns
returns c = λ s L M p h w b a.
    let nodes = c.moved.ensures (node_need p.family s L) (node_need p.family s M) (nodes_on_way p.family s L p.bits) (nodes_on_way p.family s M p.bits) (ap (λ (n : Needs). n.nodes) w) (ap (λ (n : Needs). n.nodes) b) (ap (λ (n : Needs). n.nodes) a) (nodes_moved s L M p h) in
    let leaves = c.moved-2.ensures (leaf_need p.family s L) (leaf_need p.family s M) (leaves_on_way p.family s L p.bits) (leaves_on_way p.family s M p.bits) (ap (λ (n : Needs). n.leaves) w) (ap (λ (n : Needs). n.leaves) b) (ap (λ (n : Needs). n.leaves) a) (leaves_moved s L M p h) in
    ap (λ m. let n : Needs = record { nodes = m; leaves = c.moved-2.result } in n) nodes ∙ ap (λ m. let n : Needs = record { nodes = need_in_u64 (node_need p.family s M); leaves = m } in n) leaves
