use Rattle.std.proofs.Common.{rules, arith, refl, ◌≡◌, ◌≤◌, ◌∙◌, ap, ℕ, suc, ◌-◌, ◌^◌, length}
use Rattle.buddy_arena.specs.Places.{is_out, since}
use Rattle.poptrie_build.specs.Stands.{blank}
use Rattle.poptrie_build.proofs.Slotting.{double}
use Rattle.poptrie_build.proofs.Directing.{never, keeps_all, keeps_both, word_zero, words_same, no_trie_nodes, no_trie_leaves, split_nodes, split_leaves, split_words, low_nodes, low_leaves}
use Rattle.poptrie_build.proofs.Wording.{one_apart, one_apart_leaves, none_apart, halves_apart, halves_apart_leaves}
use Rattle.poptrie_build.proofs.direct.+fill_words.Goals as goal

pub returns-in-Some-node_word-clause-stands : goal.returns-in-Some-node_word-clause-stands
returns-in-Some-node_word-clause-stands g t c =
    λ r k h. word_zero c.args.depth (g.R.Region.bits c.args.region.now) k c.in-Some-node_word.word (g.R.Region.answers c.args.region.now) c.args.words.now c.node_word.new.nodes.cells (since (is_out c.args.nodes.now.free) (is_out c.node_word.new.nodes.free)) c.node_word.new.leaves.cells (since (is_out c.args.leaves.now.free) (is_out c.node_word.new.leaves.free)) c.if-depth-eq0.true c.requires.many (c.in-Some-node_word.ensures.stands k (omega arith))

pub fill_words-requires : goal.fill_words-requires
fill_words-requires g t c κs within =
    let e : suc (c.args.depth - 1) ≡ c.args.depth = omega arith in
    let w = ap (λ (n : ℕ). 2 ^ n) e in
    let h : length c.split_at_mut-low.result.0.now ≡ 2 ^ (c.args.depth - 1) = omega (arith, c.split_at_mut-low.ensures.front_len, c.requires.many, double (c.args.depth - 1), w) in
    let l : c.args.depth - 1 ≤ g.R.Region.bits c.half.result = omega (arith, c.half.ensures.bits, c.requires.some) in
    search (rules, h, l)

pub fill_words-requires-in-None : goal.fill_words-requires-in-None
fill_words-requires-in-None g t c κs within =
    let e : suc (c.args.depth - 1) ≡ c.args.depth = omega arith in
    let w = ap (λ (n : ℕ). 2 ^ n) e in
    let h : length c.split_at_mut-low.result.1.now ≡ 2 ^ (c.args.depth - 1) = omega (arith, c.split_at_mut-low.ensures.front_len, c.split_at_mut-low.ensures.back_len, c.requires.many, double (c.args.depth - 1), w) in
    let l : c.args.depth - 1 ≤ g.R.Region.bits c.half-in-None.result = omega (arith, c.half-in-None.ensures.bits, c.requires.some) in
    search (rules, h, l)

pub returns-then-not-fill_words-clause-fits : goal.returns-then-not-fill_words-clause-fits
returns-then-not-fill_words-clause-fits g t c =
    λ k h fn fl n l.
    let z = c.if-not-fill_words.ensures.fits k (omega (arith, c.half.ensures.bits)) fn fl
    (low_nodes c.args.depth (g.R.Region.bits c.args.region.now) (g.R.Region.bits c.half.result) k _ (g.R.Region.answers c.args.region.now) (g.R.Region.answers c.half.result) c.if-depth-eq0.false c.requires.some c.half.ensures.bits c.half.ensures.answers n)
    (low_leaves c.args.depth (g.R.Region.bits c.args.region.now) (g.R.Region.bits c.half.result) k _ (g.R.Region.answers c.args.region.now) (g.R.Region.answers c.half.result) c.if-depth-eq0.false c.requires.some c.half.ensures.bits c.half.ensures.answers l)
    in
    let r = c.if-not-fill_words.true in
    cc

pub returns-after-loop-word-clause-stands : goal.returns-after-loop-word-clause-stands
returns-after-loop-word-clause-stands g t c =
    λ r k h. words_same (g.R.Region.bits c.args.region.now) c.args.depth c.in-Some.hop.0 k (g.R.Region.answers c.args.region.now) c.loop-word.words c.args.nodes.now.cells (since (is_out c.args.nodes.now.free) (is_out c.args.nodes.now.free)) c.args.leaves.now.cells (since (is_out c.args.leaves.now.free) (is_out c.args.leaves.now.free)) c.requires.some c.hop_word-leaf.ensures.small c.in-Some.ensures.one (λ v l. c.loop-word.invariant v (omega (arith, c.loop-word-test.false, c.requires.many, l)) ∙ c.hop_word-leaf.ensures.word)

pub returns-after-loop-word-clause-nodes_left : goal.returns-after-loop-word-clause-nodes_left
returns-after-loop-word-clause-nodes_left g t c =
    λ r k h. omega (arith, no_trie_nodes c.args.depth k ((g.R.Region.bits c.args.region.now) - c.args.depth) (g.R.Region.bits c.args.region.now) c.in-Some.hop.0 (g.R.Region.answers c.args.region.now) (omega (arith, c.requires.some)) c.in-Some.ensures.one)

pub returns-after-loop-word-clause-leaves_left : goal.returns-after-loop-word-clause-leaves_left
returns-after-loop-word-clause-leaves_left g t c =
    λ r k h. omega (arith, no_trie_leaves c.args.depth k ((g.R.Region.bits c.args.region.now) - c.args.depth) (g.R.Region.bits c.args.region.now) c.in-Some.hop.0 (g.R.Region.answers c.args.region.now) (omega (arith, c.requires.some)) c.in-Some.ensures.one)

pub returns-else-not-fill_words-clause-stands : goal.returns-else-not-fill_words-clause-stands
returns-else-not-fill_words-clause-stands g t c =
    let e : suc (c.args.depth - 1) ≡ c.args.depth = omega arith in
    let w = ap (λ (n : ℕ). 2 ^ n) e in
    let len : length c.fill_words.new.words ≡ 2 ^ (c.args.depth - 1) = omega (arith, c.fill_words.auto.words, c.split_at_mut-low.ensures.front_len, c.requires.many, double (c.args.depth - 1), w) in
    λ r k h. split_words c.args.depth (g.R.Region.bits c.args.region.now) (g.R.Region.bits c.half.result) (g.R.Region.bits c.half-in-None.result) k (g.R.Region.answers c.args.region.now) (g.R.Region.answers c.half.result) (g.R.Region.answers c.half-in-None.result) c.if-depth-eq0.false c.requires.some c.half.ensures.bits c.half-in-None.ensures.bits c.half.ensures.answers c.half-in-None.ensures.answers c.fill_words.new.words c.fill_words-in-None.new.words _ _ _ _ _ _ _ _ _ _ len c.fill_words.ensures.nodes.still c.fill_words.ensures.leaves.still c.fill_words-in-None.ensures.nodes c.fill_words-in-None.ensures.leaves
    (c.fill_words.ensures.stands c.if-not-fill_words.false k (omega (arith, c.half.ensures.bits))) (c.fill_words-in-None.ensures.stands r k (omega (arith, c.half-in-None.ensures.bits)))

pub returns-else-not-fill_words-clause-nodes_left : goal.returns-else-not-fill_words-clause-nodes_left
returns-else-not-fill_words-clause-nodes_left g t c =
    λ r k h. omega (arith, split_nodes c.args.depth (g.R.Region.bits c.args.region.now) (g.R.Region.bits c.half.result) (g.R.Region.bits c.half-in-None.result) k (g.R.Region.answers c.args.region.now) (g.R.Region.answers c.half.result) (g.R.Region.answers c.half-in-None.result) c.if-depth-eq0.false c.requires.some c.half.ensures.bits c.half-in-None.ensures.bits c.half.ensures.answers c.half-in-None.ensures.answers, c.fill_words.ensures.nodes_left c.if-not-fill_words.false k (omega (arith, c.half.ensures.bits)), c.fill_words-in-None.ensures.nodes_left r k (omega (arith, c.half-in-None.ensures.bits)))

pub returns-else-not-fill_words-clause-leaves_left : goal.returns-else-not-fill_words-clause-leaves_left
returns-else-not-fill_words-clause-leaves_left g t c =
    λ r k h. omega (arith, split_leaves c.args.depth (g.R.Region.bits c.args.region.now) (g.R.Region.bits c.half.result) (g.R.Region.bits c.half-in-None.result) k (g.R.Region.answers c.args.region.now) (g.R.Region.answers c.half.result) (g.R.Region.answers c.half-in-None.result) c.if-depth-eq0.false c.requires.some c.half.ensures.bits c.half-in-None.ensures.bits c.half.ensures.answers c.half-in-None.ensures.answers, c.fill_words.ensures.leaves_left c.if-not-fill_words.false k (omega (arith, c.half.ensures.bits)), c.fill_words-in-None.ensures.leaves_left r k (omega (arith, c.half-in-None.ensures.bits)))

pub returns-else-not-fill_words-clause-fits : goal.returns-else-not-fill_words-clause-fits
returns-else-not-fill_words-clause-fits g t c =
    λ k h fn fl n l. c.fill_words-in-None.ensures.fits k (omega (arith, c.half-in-None.ensures.bits)) (c.fill_words.ensures.nodes_fresh fn) (c.fill_words.ensures.leaves_fresh fl)
    (omega (arith, split_nodes c.args.depth (g.R.Region.bits c.args.region.now) (g.R.Region.bits c.half.result) (g.R.Region.bits c.half-in-None.result) k (g.R.Region.answers c.args.region.now) (g.R.Region.answers c.half.result) (g.R.Region.answers c.half-in-None.result) c.if-depth-eq0.false c.requires.some c.half.ensures.bits c.half-in-None.ensures.bits c.half.ensures.answers c.half-in-None.ensures.answers, c.fill_words.ensures.nodes_left c.if-not-fill_words.false k (omega (arith, c.half.ensures.bits))))
    (omega (arith, split_leaves c.args.depth (g.R.Region.bits c.args.region.now) (g.R.Region.bits c.half.result) (g.R.Region.bits c.half-in-None.result) k (g.R.Region.answers c.args.region.now) (g.R.Region.answers c.half.result) (g.R.Region.answers c.half-in-None.result) c.if-depth-eq0.false c.requires.some c.half.ensures.bits c.half-in-None.ensures.bits c.half.ensures.answers c.half-in-None.ensures.answers, c.fill_words.ensures.leaves_left c.if-not-fill_words.false k (omega (arith, c.half.ensures.bits))))

pub returns-in-Some-node_word-clause-nodes_apart : goal.returns-in-Some-node_word-clause-nodes_apart
returns-in-Some-node_word-clause-nodes_apart g t c = λ r k. one_apart (since (is_out c.args.nodes.now.free) (is_out c.node_word.new.nodes.free)) c.args.depth c.in-Some-node_word.word k c.node_word.new.nodes.cells c.args.words.now c.if-depth-eq0.true c.requires.many c.in-Some-node_word.ensures.small (c.in-Some-node_word.ensures.nodes_apart k)

pub returns-in-Some-node_word-clause-leaves_apart : goal.returns-in-Some-node_word-clause-leaves_apart
returns-in-Some-node_word-clause-leaves_apart g t c = λ r k. one_apart_leaves (since (is_out c.args.leaves.now.free) (is_out c.node_word.new.leaves.free)) c.args.depth c.in-Some-node_word.word k c.node_word.new.nodes.cells c.args.words.now c.if-depth-eq0.true c.requires.many c.in-Some-node_word.ensures.small (c.in-Some-node_word.ensures.leaves_apart k)

pub returns-after-loop-word-clause-nodes_apart : goal.returns-after-loop-word-clause-nodes_apart
returns-after-loop-word-clause-nodes_apart g t c = λ r k. (none_apart _ k c.args.nodes.now.cells c.loop-word.words (λ v l. omega (arith, c.loop-word.invariant v (omega (arith, c.loop-word-test.false, c.loop-word.auto.words, l)), c.hop_word-leaf.ensures.word))).0

pub returns-after-loop-word-clause-leaves_apart : goal.returns-after-loop-word-clause-leaves_apart
returns-after-loop-word-clause-leaves_apart g t c = λ r k. (none_apart _ k c.args.nodes.now.cells c.loop-word.words (λ v l. omega (arith, c.loop-word.invariant v (omega (arith, c.loop-word-test.false, c.loop-word.auto.words, l)), c.hop_word-leaf.ensures.word))).1

pub returns-else-not-fill_words-clause-nodes_apart : goal.returns-else-not-fill_words-clause-nodes_apart
returns-else-not-fill_words-clause-nodes_apart g t c = λ r k. halves_apart k c.fill_words.new.words c.fill_words-in-None.new.words c.fill_words.new.nodes.cells c.fill_words-in-None.new.nodes.cells (is_out c.args.nodes.now.free) (is_out c.fill_words.new.nodes.free) (is_out c.fill_words-in-None.new.nodes.free) (is_out c.args.leaves.now.free) (is_out c.fill_words.new.leaves.free) (is_out c.fill_words-in-None.new.leaves.free) c.fill_words.ensures.nodes.still c.fill_words.ensures.leaves.still c.fill_words-in-None.ensures.nodes c.fill_words-in-None.ensures.leaves.still (c.fill_words.ensures.nodes_apart c.if-not-fill_words.false k) (c.fill_words-in-None.ensures.nodes_apart r k)

pub returns-else-not-fill_words-clause-leaves_apart : goal.returns-else-not-fill_words-clause-leaves_apart
returns-else-not-fill_words-clause-leaves_apart g t c = λ r k. halves_apart_leaves k c.fill_words.new.words c.fill_words-in-None.new.words c.fill_words.new.nodes.cells c.fill_words-in-None.new.nodes.cells (is_out c.args.nodes.now.free) (is_out c.fill_words.new.nodes.free) (is_out c.fill_words-in-None.new.nodes.free) (is_out c.args.leaves.now.free) (is_out c.fill_words.new.leaves.free) (is_out c.fill_words-in-None.new.leaves.free) c.fill_words.ensures.nodes.still c.fill_words.ensures.leaves.still c.fill_words-in-None.ensures.nodes c.fill_words-in-None.ensures.leaves.still (c.fill_words.ensures.nodes_apart c.if-not-fill_words.false k) (c.fill_words.ensures.leaves_apart c.if-not-fill_words.false k) (c.fill_words-in-None.ensures.leaves_apart r k)

pub returns-after-loop-word-clause-nodes : goal.returns-after-loop-word-clause-nodes
returns-after-loop-word-clause-nodes g t c = keeps_all blank _ _ _ _ refl (λ i o. o)

pub returns-after-loop-word-clause-leaves : goal.returns-after-loop-word-clause-leaves
returns-after-loop-word-clause-leaves g t c = keeps_all 0 _ _ _ _ refl (λ i o. o)

pub returns-after-loop-word-clause-orders : goal.returns-after-loop-word-clause-orders
returns-after-loop-word-clause-orders g t c = (refl, refl)

pub returns-after-loop-word-clause-fills : goal.returns-after-loop-word-clause-fills
returns-after-loop-word-clause-fills g t c = (refl, refl)

pub returns-in-Some-node_word-clause-nodes : goal.returns-in-Some-node_word-clause-nodes
returns-in-Some-node_word-clause-nodes g t c = c.node_word.ensures.nodes

pub returns-in-Some-node_word-clause-leaves : goal.returns-in-Some-node_word-clause-leaves
returns-in-Some-node_word-clause-leaves g t c = c.node_word.ensures.leaves

pub returns-in-Some-node_word-clause-orders : goal.returns-in-Some-node_word-clause-orders
returns-in-Some-node_word-clause-orders g t c = c.node_word.ensures.orders

pub returns-in-Some-node_word-clause-fills : goal.returns-in-Some-node_word-clause-fills
returns-in-Some-node_word-clause-fills g t c = c.node_word.ensures.fills

pub returns-in-Some-node_word-clause-nodes_fresh : goal.returns-in-Some-node_word-clause-nodes_fresh
returns-in-Some-node_word-clause-nodes_fresh g t c = c.node_word.ensures.nodes_fresh

pub returns-in-Some-node_word-clause-leaves_fresh : goal.returns-in-Some-node_word-clause-leaves_fresh
returns-in-Some-node_word-clause-leaves_fresh g t c = c.node_word.ensures.leaves_fresh

pub returns-in-None-node_word-clause-nodes : goal.returns-in-None-node_word-clause-nodes
returns-in-None-node_word-clause-nodes g t c = c.node_word.ensures.nodes

pub returns-in-None-node_word-clause-leaves : goal.returns-in-None-node_word-clause-leaves
returns-in-None-node_word-clause-leaves g t c = c.node_word.ensures.leaves

pub returns-in-None-node_word-clause-orders : goal.returns-in-None-node_word-clause-orders
returns-in-None-node_word-clause-orders g t c = c.node_word.ensures.orders

pub returns-in-None-node_word-clause-fills : goal.returns-in-None-node_word-clause-fills
returns-in-None-node_word-clause-fills g t c = c.node_word.ensures.fills

pub returns-in-None-node_word-clause-nodes_fresh : goal.returns-in-None-node_word-clause-nodes_fresh
returns-in-None-node_word-clause-nodes_fresh g t c = c.node_word.ensures.nodes_fresh

pub returns-in-None-node_word-clause-leaves_fresh : goal.returns-in-None-node_word-clause-leaves_fresh
returns-in-None-node_word-clause-leaves_fresh g t c = c.node_word.ensures.leaves_fresh

pub returns-in-None-node_word-clause-stands : goal.returns-in-None-node_word-clause-stands
returns-in-None-node_word-clause-stands g t c = never

pub returns-in-None-node_word-clause-nodes_apart : goal.returns-in-None-node_word-clause-nodes_apart
returns-in-None-node_word-clause-nodes_apart g t c = never

pub returns-in-None-node_word-clause-leaves_apart : goal.returns-in-None-node_word-clause-leaves_apart
returns-in-None-node_word-clause-leaves_apart g t c = never

pub returns-in-None-node_word-clause-nodes_left : goal.returns-in-None-node_word-clause-nodes_left
returns-in-None-node_word-clause-nodes_left g t c = never

pub returns-in-None-node_word-clause-leaves_left : goal.returns-in-None-node_word-clause-leaves_left
returns-in-None-node_word-clause-leaves_left g t c = never

pub returns-then-not-fill_words-clause-nodes : goal.returns-then-not-fill_words-clause-nodes
returns-then-not-fill_words-clause-nodes g t c = c.fill_words.ensures.nodes

pub returns-then-not-fill_words-clause-leaves : goal.returns-then-not-fill_words-clause-leaves
returns-then-not-fill_words-clause-leaves g t c = c.fill_words.ensures.leaves

pub returns-then-not-fill_words-clause-orders : goal.returns-then-not-fill_words-clause-orders
returns-then-not-fill_words-clause-orders g t c = c.fill_words.ensures.orders

pub returns-then-not-fill_words-clause-fills : goal.returns-then-not-fill_words-clause-fills
returns-then-not-fill_words-clause-fills g t c = c.fill_words.ensures.fills

pub returns-then-not-fill_words-clause-nodes_fresh : goal.returns-then-not-fill_words-clause-nodes_fresh
returns-then-not-fill_words-clause-nodes_fresh g t c = c.fill_words.ensures.nodes_fresh

pub returns-then-not-fill_words-clause-leaves_fresh : goal.returns-then-not-fill_words-clause-leaves_fresh
returns-then-not-fill_words-clause-leaves_fresh g t c = c.fill_words.ensures.leaves_fresh

pub returns-then-not-fill_words-clause-stands : goal.returns-then-not-fill_words-clause-stands
returns-then-not-fill_words-clause-stands g t c = never

pub returns-then-not-fill_words-clause-nodes_apart : goal.returns-then-not-fill_words-clause-nodes_apart
returns-then-not-fill_words-clause-nodes_apart g t c = never

pub returns-then-not-fill_words-clause-leaves_apart : goal.returns-then-not-fill_words-clause-leaves_apart
returns-then-not-fill_words-clause-leaves_apart g t c = never

pub returns-then-not-fill_words-clause-nodes_left : goal.returns-then-not-fill_words-clause-nodes_left
returns-then-not-fill_words-clause-nodes_left g t c = never

pub returns-then-not-fill_words-clause-leaves_left : goal.returns-then-not-fill_words-clause-leaves_left
returns-then-not-fill_words-clause-leaves_left g t c = never

pub returns-else-not-fill_words-clause-nodes : goal.returns-else-not-fill_words-clause-nodes
returns-else-not-fill_words-clause-nodes g t c = keeps_both blank _ _ _ _ _ _ c.fill_words.ensures.nodes c.fill_words-in-None.ensures.nodes

pub returns-else-not-fill_words-clause-leaves : goal.returns-else-not-fill_words-clause-leaves
returns-else-not-fill_words-clause-leaves g t c = keeps_both 0 _ _ _ _ _ _ c.fill_words.ensures.leaves c.fill_words-in-None.ensures.leaves

pub returns-else-not-fill_words-clause-orders : goal.returns-else-not-fill_words-clause-orders
returns-else-not-fill_words-clause-orders g t c = (c.fill_words-in-None.ensures.orders.0 ∙ c.fill_words.ensures.orders.0, c.fill_words-in-None.ensures.orders.1 ∙ c.fill_words.ensures.orders.1)

pub returns-else-not-fill_words-clause-fills : goal.returns-else-not-fill_words-clause-fills
returns-else-not-fill_words-clause-fills g t c = (c.fill_words-in-None.ensures.fills.0 ∙ c.fill_words.ensures.fills.0, c.fill_words-in-None.ensures.fills.1 ∙ c.fill_words.ensures.fills.1)

pub returns-else-not-fill_words-clause-nodes_fresh : goal.returns-else-not-fill_words-clause-nodes_fresh
returns-else-not-fill_words-clause-nodes_fresh g t c = λ f. c.fill_words-in-None.ensures.nodes_fresh (c.fill_words.ensures.nodes_fresh f)

pub returns-else-not-fill_words-clause-leaves_fresh : goal.returns-else-not-fill_words-clause-leaves_fresh
returns-else-not-fill_words-clause-leaves_fresh g t c = λ f. c.fill_words-in-None.ensures.leaves_fresh (c.fill_words.ensures.leaves_fresh f)

pub returns-in-Some-node_word-clause-nodes_left : goal.returns-in-Some-node_word-clause-nodes_left
returns-in-Some-node_word-clause-nodes_left g t c =
    let e : g.R.Region.bits c.args.region.now - c.args.depth ≡ g.R.Region.bits c.args.region.now = omega (arith, c.if-depth-eq0.true) in
    λ r k h. rw (e, c.if-depth-eq0.true) (c.in-Some-node_word.ensures.nodes_left k (omega (arith, e, h)))

pub returns-in-Some-node_word-clause-leaves_left : goal.returns-in-Some-node_word-clause-leaves_left
returns-in-Some-node_word-clause-leaves_left g t c =
    let e : g.R.Region.bits c.args.region.now - c.args.depth ≡ g.R.Region.bits c.args.region.now = omega (arith, c.if-depth-eq0.true) in
    λ r k h. rw (e, c.if-depth-eq0.true) (c.in-Some-node_word.ensures.leaves_left k (omega (arith, e, h)))

pub returns-in-None-node_word-clause-fits : goal.returns-in-None-node_word-clause-fits
returns-in-None-node_word-clause-fits g t c =
    let e : g.R.Region.bits c.args.region.now - c.args.depth ≡ g.R.Region.bits c.args.region.now = omega (arith, c.if-depth-eq0.true) in
    λ k h fn fl n l. c.in-None-node_word.ensures.fits k (omega (arith, e, h)) fn fl (rw (e, c.if-depth-eq0.true) at n) (rw (e, c.if-depth-eq0.true) at l)
