use Rattle.std.proofs.Common.{arith, ◌∙◌, ◌-◌, refl}
use Rattle.poptrie_build.proofs.Directing.{zero_nodes, zero_leaves, told_none, told_sum, no_trie_nodes, no_trie_leaves, split_nodes, split_leaves}
use Rattle.poptrie_build.proofs.counts.+count_words.Goals as goal

pub returns-then-depth-eq0-clause-nodes : goal.returns-then-depth-eq0-clause-nodes
returns-then-depth-eq0-clause-nodes g t c =
    λ k h. c.saturating_add.ensures ∙ zero_nodes c.args.depth k (g.R.Region.bits c.args.region.now) _ _ (g.R.Region.answers c.args.region.now) c.if-depth-eq0.true refl c.in-None.ensures.differ (c.count_node-below.ensures.nodes k (omega (arith, c.if-depth-eq0.true)))

pub returns-then-depth-eq0-clause-leaves : goal.returns-then-depth-eq0-clause-leaves
returns-then-depth-eq0-clause-leaves g t c =
    λ k h. zero_leaves c.args.depth k (g.R.Region.bits c.args.region.now) _ _ (g.R.Region.answers c.args.region.now) c.if-depth-eq0.true refl (c.count_node-below.ensures.leaves k (omega (arith, c.if-depth-eq0.true)))

pub returns-in-Some-clause-nodes : goal.returns-in-Some-clause-nodes
returns-in-Some-clause-nodes g t c =
    λ k h. told_none _ (no_trie_nodes c.args.depth k ((g.R.Region.bits c.args.region.now) - c.args.depth) (g.R.Region.bits c.args.region.now) _ (g.R.Region.answers c.args.region.now) (omega (arith, c.requires)) c.in-Some.ensures.one)

pub returns-in-Some-clause-leaves : goal.returns-in-Some-clause-leaves
returns-in-Some-clause-leaves g t c =
    λ k h. told_none _ (no_trie_leaves c.args.depth k ((g.R.Region.bits c.args.region.now) - c.args.depth) (g.R.Region.bits c.args.region.now) _ (g.R.Region.answers c.args.region.now) (omega (arith, c.requires)) c.in-Some.ensures.one)

pub returns-else-depth-eq0-clause-nodes : goal.returns-else-depth-eq0-clause-nodes
returns-else-depth-eq0-clause-nodes g t c =
    λ k h. c.saturating_add-in-None.ensures ∙ told_sum _ _ _ _ _ (split_nodes c.args.depth (g.R.Region.bits c.args.region.now) (g.R.Region.bits c.half.result) (g.R.Region.bits c.half-in-None.result) k (g.R.Region.answers c.args.region.now) (g.R.Region.answers c.half.result) (g.R.Region.answers c.half-in-None.result) c.if-depth-eq0.false c.requires c.half.ensures.bits c.half-in-None.ensures.bits c.half.ensures.answers c.half-in-None.ensures.answers) (c.count_words-low.ensures.nodes k (omega (arith, c.half.ensures.bits))) (c.count_words-high.ensures.nodes k (omega (arith, c.half-in-None.ensures.bits)))

pub returns-else-depth-eq0-clause-leaves : goal.returns-else-depth-eq0-clause-leaves
returns-else-depth-eq0-clause-leaves g t c =
    λ k h. c.saturating_add-in-None-2.ensures ∙ told_sum _ _ _ _ _ (split_leaves c.args.depth (g.R.Region.bits c.args.region.now) (g.R.Region.bits c.half.result) (g.R.Region.bits c.half-in-None.result) k (g.R.Region.answers c.args.region.now) (g.R.Region.answers c.half.result) (g.R.Region.answers c.half-in-None.result) c.if-depth-eq0.false c.requires c.half.ensures.bits c.half-in-None.ensures.bits c.half.ensures.answers c.half-in-None.ensures.answers) (c.count_words-low.ensures.leaves k (omega (arith, c.half.ensures.bits))) (c.count_words-high.ensures.leaves k (omega (arith, c.half-in-None.ensures.bits)))
