use Rattle.std.proofs.Common.{rules, ◌≡◌, ◌≢◌, ℕ, ◌+◌, ◌-◌, ◌^◌, ap, refl, arith, subst, sym}
use Rattle.std.proofs.lemmas.Nat.{pow_pos}
use Rattle.fib_addr.specs.Answers.{one_answer}
use Rattle.fib_addr.proofs.OneAnswer.{mixed_bits}
use Rattle.poptrie_build.specs.Tally.{IsTally}
use Rattle.poptrie_build.proofs.Slotting.{halved}
use Rattle.poptrie_build.proofs.Tallying.{part_node, parts_low, parts_high}
use Rattle.route_tries.proofs.Halves.{beside_low, beside_high, slot_beside, uniform_beside}
use Rattle.route_tries.proofs.way.+halves_beside.Goals as goal

pub halves_beside-half-low-requires : goal.halves_beside-half-low-requires
halves_beside-half-low-requires g t c = mixed_bits (g.R.Region.bits c.args.region.now) (g.R.Region.answers c.args.region.now) c.requires.mixed

pub halves_beside-half-high-requires : goal.halves_beside-half-high-requires
halves_beside-half-high-requires g t c = mixed_bits (g.R.Region.bits c.args.region.now) (g.R.Region.answers c.args.region.now) c.requires.mixed

pub halves_beside-tally_beside-requires : goal.halves_beside-tally_beside-requires
halves_beside-tally_beside-requires g t c κs within =
    let some : c.args.depth ≢ 0 = omega (arith, c.requires.some) in
    let w = halved c.args.depth some in
    search (rules, w)

pub halves_beside-tally_beside-requires-2 : goal.halves_beside-tally_beside-requires-2
halves_beside-tally_beside-requires-2 g t c κs within =
    let some : c.args.depth ≢ 0 = omega (arith, c.requires.some) in
    let w = halved c.args.depth some in
    search (rules, w)

pub halves_beside-returns-clause-tally : goal.halves_beside-returns-clause-tally
halves_beside-returns-clause-tally g t c = λ e v r N L a b i.
    let d = g.R.Region.bits c.args.region.now in
    let f = g.R.Region.answers c.args.region.now in
    let j = c.args.depth in
    let some : j ≢ 0 = omega (arith, c.requires.some) in
    let w = halved j some in
    let low = c.tally_beside.ensures.tally e v r N L (parts_low j d e v f r some (g.R.Region.bits c.half-low.result) (g.R.Region.answers c.half-low.result) c.half-low.ensures.bits a c.half-low.ensures.answers) (beside_low j v N L some b) i in
    let high = c.tally_beside-2.ensures.tally e (v + 2 ^ (j - 1)) r N L (parts_high j d e v f r some (g.R.Region.bits c.half-high.result) (g.R.Region.answers c.half-high.result) c.half-high.ensures.bits a c.half-high.ensures.answers) (beside_high j v N L some b) low in
    let all : v + 2 ^ (j - 1) + 2 ^ (j - 1) ≡ v + 2 ^ j = omega (arith, w) in
    subst (λ (x : ℕ). IsTally c.tally_beside-2.new.tally (λ u. one_answer e (r u)) N L x) all high

pub halves_beside-returns-clause-nodes : goal.halves_beside-returns-clause-nodes
halves_beside-returns-clause-nodes g t c =
    let some : c.args.depth ≢ 0 = omega (arith, c.requires.some) in
    let w = halved c.args.depth some in
    omega (arith, w, c.tally_beside.ensures.nodes, c.tally_beside-2.ensures.nodes)

pub halves_beside-returns-clause-leaves : goal.halves_beside-returns-clause-leaves
halves_beside-returns-clause-leaves g t c =
    let some : c.args.depth ≢ 0 = omega (arith, c.requires.some) in
    let w = halved c.args.depth some in
    omega (arith, w, c.tally_beside.ensures.leaves, c.tally_beside-2.ensures.leaves)

pub tally_beside-returns-in-Some-clause-tally : goal.tally_beside-returns-in-Some-clause-tally
tally_beside-returns-in-Some-clause-tally g t c = λ e v r N L a b.
    c.add_leaves.ensures.tally (λ u. one_answer e (r u)) N L v (2 ^ c.args.depth) (pow_pos c.args.depth) (uniform_beside c.args.depth (g.R.Region.bits c.args.region.now) c.in-Some.hop.0 e v (g.R.Region.answers c.args.region.now) r N L c.in-Some.ensures.one a b)

pub tally_beside-returns-then-depth-eq0-clause-tally : goal.tally_beside-returns-then-depth-eq0-clause-tally
tally_beside-returns-then-depth-eq0-clause-tally g t c = λ e v r N L a b i.
    let none = part_node c.args.depth (g.R.Region.bits c.args.region.now) e v (g.R.Region.answers c.args.region.now) r c.if-depth-eq0.true c.in-None.ensures.differ a in
    let one : v + 1 ≡ v + 2 ^ c.args.depth = ap (λ n. v + 2 ^ n) (sym c.if-depth-eq0.true) in
    subst (λ (x : ℕ). IsTally c.add_node.new.self (λ u. one_answer e (r u)) N L x) one (c.add_node.ensures.tally (λ u. one_answer e (r u)) N L v none (slot_beside _ c.args.depth v N L c.if-depth-eq0.true refl refl b) i)
