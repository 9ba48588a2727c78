use Rattle.std.proofs.Common.{arith, ◌≡◌, ◌∙◌, ap, sym, ◌^◌, ◌≤◌, ◌-◌, ℕ, subst, replicate}
use Rattle.buddy_arena.specs.Space.{Space}
use Rattle.poptrie_build.specs.Need.{trie_nodes, trie_leaves}
use Rattle.buddy_arena.specs.Places.{is_out, since}
use Rattle.poptrie_build.specs.declared.node.Node.{Node}
use Rattle.poptrie_build.proofs.Filled.{all_sized, empty_again, words_stand, all_free, all_fresh, too_many_nodes, too_many_leaves}
use Rattle.buddy_arena.proofs.Parting.{apart_more, since_now}
use Rattle.poptrie_build.proofs.filling.fill_all.Goals as goal

pub returns-then-fill_words-clause-words : goal.returns-then-fill_words-clause-words
returns-then-fill_words-clause-words g c = λ k h. words_stand c.args.direct_bits k (g.R.Region.bits c.args.region.now - c.args.direct_bits) (g.R.Region.answers c.args.region.now) c.fill_words.new.words c.fill_words.new.nodes.cells (since (is_out c.clear_all.new.nodes.free) (is_out c.fill_words.new.nodes.free)) c.fill_words.new.leaves.cells (since (is_out c.clear_all.new.leaves.free) (is_out c.fill_words.new.leaves.free)) (omega (arith, c.fill_words.auto.words, c.clear_all.auto.words, c.requires.many)) (c.fill_words.ensures.stands c.if-fill_words.true k h)

pub returns-then-fill_words-clause-nodes : goal.returns-then-fill_words-clause-nodes
returns-then-fill_words-clause-nodes g c = λ k h. c.fill_words.ensures.nodes_left c.if-fill_words.true k h ∙ all_free c.clear_all.new.nodes _ _ c.clear_all.ensures.nodes

pub returns-then-fill_words-clause-leaves : goal.returns-then-fill_words-clause-leaves
returns-then-fill_words-clause-leaves g c = λ k h. c.fill_words.ensures.leaves_left c.if-fill_words.true k h ∙ all_free c.clear_all.new.leaves _ _ c.clear_all.ensures.leaves

pub returns-then-needs-have-clause-full : goal.returns-then-needs-have-clause-full
returns-then-needs-have-clause-full g c =
    let o : c.fill_words.new.nodes.order ≡ c.args.nodes.now.order = c.fill_words.ensures.orders.0 ∙ ap (λ (s : Space Node). s.order) c.clear_all.ensures.nodes in
    λ k h. too_many_nodes _ _ _ _ _ _ (c.count_words-needs.ensures.nodes k h) (c.places-have.ensures ∙ (ap (λ (s : Space Node). 2 ^ s.order) c.clear_all-2.ensures.nodes ∙ ap (λ (n : ℕ). 2 ^ n) o)) c.if-needs-have.true

pub returns-clause-full : goal.returns-clause-full
returns-clause-full g c =
    let o : c.fill_words.new.nodes.order ≡ c.args.nodes.now.order = c.fill_words.ensures.orders.0 ∙ ap (λ (s : Space Node). s.order) c.clear_all.ensures.nodes in
    let p : c.fill_words.new.leaves.order ≡ c.args.leaves.now.order = c.fill_words.ensures.orders.1 ∙ ap (λ (s : Space ℕ). s.order) c.clear_all.ensures.leaves in
    λ k h. too_many_leaves _ _ c.args.nodes.now.order _ _ _ _ _ c.requires.nodes_sized.small (c.count_words-needs.ensures.nodes k h) (c.places-have.ensures ∙ (ap (λ (s : Space Node). 2 ^ s.order) c.clear_all-2.ensures.nodes ∙ ap (λ (n : ℕ). 2 ^ n) o)) c.if-needs-have.false (c.count_words-needs.ensures.leaves k h)
    (c.places.ensures ∙ (ap (λ (s : Space ℕ). 2 ^ s.order) c.clear_all-2.ensures.leaves ∙ ap (λ (n : ℕ). 2 ^ n) p))
    (λ x y.
    let z = c.fill_words.ensures.fits k h (all_fresh c.clear_all.new.nodes _ _ c.clear_all.ensures.nodes) (all_fresh c.clear_all.new.leaves _ _ c.clear_all.ensures.leaves)
    (subst (λ (m : ℕ). trie_nodes c.args.direct_bits k (g.R.Region.bits c.args.region.now - c.args.direct_bits) (g.R.Region.answers c.args.region.now) ≤ m) (sym (all_free c.clear_all.new.nodes _ _ c.clear_all.ensures.nodes)) x)
    (subst (λ (m : ℕ). trie_leaves c.args.direct_bits k (g.R.Region.bits c.args.region.now - c.args.direct_bits) (g.R.Region.answers c.args.region.now) ≤ m) (sym (all_free c.clear_all.new.leaves _ _ c.clear_all.ensures.leaves)) y)
    in
    let r = c.if-fill_words.false in
    cc)

pub returns-then-fill_words-clause-nodes_apart : goal.returns-then-fill_words-clause-nodes_apart
returns-then-fill_words-clause-nodes_apart g c = λ k. apart_more (since (is_out c.clear_all.new.nodes.free) (is_out c.fill_words.new.nodes.free)) (is_out c.fill_words.new.nodes.free) _ (λ i q. since_now (is_out c.clear_all.new.nodes.free i) (is_out c.fill_words.new.nodes.free i) q) (c.fill_words.ensures.nodes_apart c.if-fill_words.true k)

pub returns-then-fill_words-clause-leaves_apart : goal.returns-then-fill_words-clause-leaves_apart
returns-then-fill_words-clause-leaves_apart g c = λ k. apart_more (since (is_out c.clear_all.new.leaves.free) (is_out c.fill_words.new.leaves.free)) (is_out c.fill_words.new.leaves.free) _ (λ i q. since_now (is_out c.clear_all.new.leaves.free i) (is_out c.fill_words.new.leaves.free i) q) (c.fill_words.ensures.leaves_apart c.if-fill_words.true k)

pub fill_words-requires-clause-nodes_sized : goal.fill_words-requires-clause-nodes_sized
fill_words-requires-clause-nodes_sized g c = all_sized _ _ _ c.clear_all.ensures.nodes c.requires.nodes_sized.small

pub fill_words-requires-clause-leaves_sized : goal.fill_words-requires-clause-leaves_sized
fill_words-requires-clause-leaves_sized g c = all_sized _ _ _ c.clear_all.ensures.leaves c.requires.leaves_sized.small

pub returns-then-fill_words-clause-orders : goal.returns-then-fill_words-clause-orders
returns-then-fill_words-clause-orders g c = (c.fill_words.ensures.orders.0 ∙ ap (λ (s : Space Node). s.order) c.clear_all.ensures.nodes, c.fill_words.ensures.orders.1 ∙ ap (λ (s : Space ℕ). s.order) c.clear_all.ensures.leaves)

pub returns-then-needs-have-clause-orders : goal.returns-then-needs-have-clause-orders
returns-then-needs-have-clause-orders g c = (ap (λ (s : Space Node). s.order) c.clear_all-2.ensures.nodes ∙ (c.fill_words.ensures.orders.0 ∙ ap (λ (s : Space Node). s.order) c.clear_all.ensures.nodes), ap (λ (s : Space ℕ). s.order) c.clear_all-2.ensures.leaves ∙ (c.fill_words.ensures.orders.1 ∙ ap (λ (s : Space ℕ). s.order) c.clear_all.ensures.leaves))

pub returns-then-needs-have-clause-nodes_sized : goal.returns-then-needs-have-clause-nodes_sized
returns-then-needs-have-clause-nodes_sized g c = all_sized _ _ _ c.clear_all-2.ensures.nodes c.fill_words.ensures.nodes_sized.small

pub returns-then-needs-have-clause-leaves_sized : goal.returns-then-needs-have-clause-leaves_sized
returns-then-needs-have-clause-leaves_sized g c = all_sized _ _ _ c.clear_all-2.ensures.leaves c.fill_words.ensures.leaves_sized.small

pub returns-then-needs-have-clause-cleared_words : goal.returns-then-needs-have-clause-cleared_words
returns-then-needs-have-clause-cleared_words g c = c.clear_all-2.ensures.words ∙ ap (λ n. replicate n 2147483648) (c.fill_words.auto.words ∙ c.clear_all.auto.words)

pub returns-then-needs-have-clause-cleared_nodes : goal.returns-then-needs-have-clause-cleared_nodes
returns-then-needs-have-clause-cleared_nodes g c = empty_again _ _ _ _ _ c.clear_all-2.ensures.nodes (c.fill_words.ensures.orders.0 ∙ ap (λ (s : Space Node). s.order) c.clear_all.ensures.nodes) (c.fill_words.ensures.fills.0 ∙ ap (λ (s : Space Node). s.fill) c.clear_all.ensures.nodes)

pub returns-then-needs-have-clause-cleared_leaves : goal.returns-then-needs-have-clause-cleared_leaves
returns-then-needs-have-clause-cleared_leaves g c = empty_again _ _ _ _ _ c.clear_all-2.ensures.leaves (c.fill_words.ensures.orders.1 ∙ ap (λ (s : Space ℕ). s.order) c.clear_all.ensures.leaves) (c.fill_words.ensures.fills.1 ∙ ap (λ (s : Space ℕ). s.fill) c.clear_all.ensures.leaves)

pub returns-clause-orders : goal.returns-clause-orders
returns-clause-orders g c = (ap (λ (s : Space Node). s.order) c.clear_all-2.ensures.nodes ∙ (c.fill_words.ensures.orders.0 ∙ ap (λ (s : Space Node). s.order) c.clear_all.ensures.nodes), ap (λ (s : Space ℕ). s.order) c.clear_all-2.ensures.leaves ∙ (c.fill_words.ensures.orders.1 ∙ ap (λ (s : Space ℕ). s.order) c.clear_all.ensures.leaves))

pub returns-clause-nodes_sized : goal.returns-clause-nodes_sized
returns-clause-nodes_sized g c = all_sized _ _ _ c.clear_all-2.ensures.nodes c.fill_words.ensures.nodes_sized.small

pub returns-clause-leaves_sized : goal.returns-clause-leaves_sized
returns-clause-leaves_sized g c = all_sized _ _ _ c.clear_all-2.ensures.leaves c.fill_words.ensures.leaves_sized.small

pub returns-clause-cleared_words : goal.returns-clause-cleared_words
returns-clause-cleared_words g c = c.clear_all-2.ensures.words ∙ ap (λ n. replicate n 2147483648) (c.fill_words.auto.words ∙ c.clear_all.auto.words)

pub returns-clause-cleared_nodes : goal.returns-clause-cleared_nodes
returns-clause-cleared_nodes g c = empty_again _ _ _ _ _ c.clear_all-2.ensures.nodes (c.fill_words.ensures.orders.0 ∙ ap (λ (s : Space Node). s.order) c.clear_all.ensures.nodes) (c.fill_words.ensures.fills.0 ∙ ap (λ (s : Space Node). s.fill) c.clear_all.ensures.nodes)

pub returns-clause-cleared_leaves : goal.returns-clause-cleared_leaves
returns-clause-cleared_leaves g c = empty_again _ _ _ _ _ c.clear_all-2.ensures.leaves (c.fill_words.ensures.orders.1 ∙ ap (λ (s : Space ℕ). s.order) c.clear_all.ensures.leaves) (c.fill_words.ensures.fills.1 ∙ ap (λ (s : Space ℕ). s.fill) c.clear_all.ensures.leaves)
