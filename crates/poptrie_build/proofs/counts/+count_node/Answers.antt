use Rattle.std.proofs.Common.{rules, ◌≡◌, ◌≢◌, ℕ, ◌+◌, ◌-◌, ◌*◌, ◌^◌, ◌≤◌, ap, arith, subst, sym}
use Rattle.std.proofs.lemmas.Nat.{pow_pos}
use Rattle.fib_addr.proofs.OneAnswer.{mixed_bits}
use Rattle.fib_addr.specs.Answers.{one_answer}
use Rattle.poptrie_build.specs.Need.{need_nodes, need_leaves}
use Rattle.poptrie_build.specs.Strides.{slot, slots}
use Rattle.poptrie_build.specs.Tally.{IsWholeTally}
use Rattle.poptrie_build.proofs.Counting.{nodes_at, leaves_at}
use Rattle.poptrie_build.proofs.Slotting.{halved}
use Rattle.poptrie_build.proofs.Tallying.{part_node, part_need, uniform_slots, parts_start, parts_low, parts_high, need_end}
use Rattle.poptrie_build.proofs.counts.+count_node.Goals as goal

pub count_node-returns : goal.count_node-returns
count_node-returns g t c =
    let d = g.R.Region.bits c.args.region.now in
    let f = g.R.Region.answers c.args.region.now in
    let need = need_end c.needs.result d f c.requires
    (λ k h. c.needs.ensures (slots d f) (nodes_at k d f) (leaves_at k d f) (c.tally_halves.ensures.tally k (d - 6) 0 (slot d f) h (parts_start d f) (c.new-tally.ensures.tally (slots d f) (nodes_at k d f) (leaves_at k d f))))
    in
    record { nodes = λ k h. (need k h).nodes; leaves = λ k h. (need k h).leaves }

pub tally_halves-half-low-requires : goal.tally_halves-half-low-requires
tally_halves-half-low-requires g t c = mixed_bits (g.R.Region.bits c.args.region.now) (g.R.Region.answers c.args.region.now) c.requires.mixed

pub tally_halves-half-high-requires : goal.tally_halves-half-high-requires
tally_halves-half-high-requires g t c = mixed_bits (g.R.Region.bits c.args.region.now) (g.R.Region.answers c.args.region.now) c.requires.mixed

pub tally_halves-tally_slots-requires : goal.tally_halves-tally_slots-requires
tally_halves-tally_slots-requires g t c κs within =
    let some : c.args.depth ≢ 0 = omega (arith, c.requires.some) in
    let w = halved c.args.depth some in
    search (rules, w)

pub tally_halves-tally_slots-requires-2 : goal.tally_halves-tally_slots-requires-2
tally_halves-tally_slots-requires-2 g t c κs within =
    let some : c.args.depth ≢ 0 = omega (arith, c.requires.some) in
    let w = halved c.args.depth some in
    search (rules, w)

pub tally_halves-returns-clause-tally : goal.tally_halves-returns-clause-tally
tally_halves-returns-clause-tally g t c = λ k e v r h a i.
    let some : c.args.depth ≢ 0 = omega (arith, c.requires.some) in
    let w = halved c.args.depth some in
    let low = c.tally_slots.ensures.tally k e v r h (parts_low c.args.depth (g.R.Region.bits c.args.region.now) e v (g.R.Region.answers c.args.region.now) r some (g.R.Region.bits c.half-low.result) (g.R.Region.answers c.half-low.result) c.half-low.ensures.bits a c.half-low.ensures.answers) i in
    let high = c.tally_slots-2.ensures.tally k e (v + 2 ^ (c.args.depth - 1)) r h (parts_high c.args.depth (g.R.Region.bits c.args.region.now) e v (g.R.Region.answers c.args.region.now) r some (g.R.Region.bits c.half-high.result) (g.R.Region.answers c.half-high.result) c.half-high.ensures.bits a c.half-high.ensures.answers) low in
    let e2 : v + 2 ^ (c.args.depth - 1) + 2 ^ (c.args.depth - 1) ≡ v + 2 ^ c.args.depth = omega (arith, w) in
    subst (λ (x : ℕ). IsWholeTally c.tally_slots-2.new.tally k e r x) e2 high

pub tally_halves-returns-clause-nodes : goal.tally_halves-returns-clause-nodes
tally_halves-returns-clause-nodes g t c =
    let some : c.args.depth ≢ 0 = omega (arith, c.requires.some) in
    let w = halved c.args.depth some in
    omega (arith, w, c.tally_slots.ensures.nodes, c.tally_slots-2.ensures.nodes)

pub tally_halves-returns-clause-leaves : goal.tally_halves-returns-clause-leaves
tally_halves-returns-clause-leaves g t c =
    let some : c.args.depth ≢ 0 = omega (arith, c.requires.some) in
    let w = halved c.args.depth some in
    omega (arith, w, c.tally_slots.ensures.leaves, c.tally_slots-2.ensures.leaves)

pub tally_slots-returns-in-Some-clause-tally : goal.tally_slots-returns-in-Some-clause-tally
tally_slots-returns-in-Some-clause-tally g t c = λ k e v r h a.
    c.add_leaves.ensures.tally (λ u. one_answer e (r u)) (λ u. need_nodes k e (r u)) (λ u. need_leaves k e (r u)) v (2 ^ c.args.depth) (pow_pos c.args.depth) (uniform_slots k c.args.depth (g.R.Region.bits c.args.region.now) c.in-Some.hop.0 e v (g.R.Region.answers c.args.region.now) r c.in-Some.ensures.one a)

pub tally_slots-returns-then-depth-eq0-clause-tally : goal.tally_slots-returns-then-depth-eq0-clause-tally
tally_slots-returns-then-depth-eq0-clause-tally g t c = λ k e v r h a i.
    let d = g.R.Region.bits c.args.region.now in
    let f = g.R.Region.answers c.args.region.now in
    let none = part_node c.args.depth d e v f r c.if-depth-eq0.true c.in-None.ensures.differ a in
    let here : d ≤ 6 * k = omega (arith, h, a.bits, c.if-depth-eq0.true) in
    let need = part_need c.count_node.result (need_nodes k) (need_leaves k) c.args.depth d e v f r c.if-depth-eq0.true a (record { nodes = c.count_node.ensures.nodes k here; leaves = c.count_node.ensures.leaves k here }) in
    let one : v + 1 ≡ v + 2 ^ c.args.depth = ap (λ n. v + 2 ^ n) (sym c.if-depth-eq0.true) in
    subst (λ (x : ℕ). IsWholeTally c.add_node.new.self k e r x) one (c.add_node.ensures.tally (λ u. one_answer e (r u)) (λ u. need_nodes k e (r u)) (λ u. need_leaves k e (r u)) v none need i)
