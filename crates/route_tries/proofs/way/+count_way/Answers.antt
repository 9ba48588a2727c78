use Rattle.std.proofs.Common.{◌≡◌, ◌≢◌, ℕ, ◌+◌, ◌-◌, ◌*◌, ◌/◌, ◌^◌, ◌≤◌, ap, refl, arith, subst, sym, bit_and, nat_eq}
use Rattle.std.proofs.lemmas.Bool.{eq-eqb, ne_eqb}
use Rattle.std.proofs.lemmas.Nat.{pow_pos}
use Rattle.table_model.specs.Bits.{bits_of}
use Rattle.fib_addr.specs.Answers.{one_answer}
use Rattle.fib_addr.proofs.OneAnswer.{mixed_bits}
use Rattle.poptrie_build.specs.Strides.{slot, slots}
use Rattle.poptrie_build.specs.Tally.{IsTally}
use Rattle.poptrie_build.proofs.Slotting.{halved}
use Rattle.poptrie_build.proofs.Tallying.{part_node, part_need, parts_start, parts_low, parts_high}
use Rattle.route_tries.specs.Parts.{way_nodes, way_leaves}
use Rattle.route_tries.proofs.Ways.{slot_nodes, slot_leaves, way_end}
use Rattle.route_tries.proofs.Halves.{next_bit, no_bit, on_low, on_high, off_low, off_high, within_low, within_high, way_start, slot_on_way, uniform_on_way}
use Rattle.route_tries.proofs.way.+count_way.Goals as goal

pub count_way-returns : goal.count_way-returns
count_way-returns g t c =
    let d = g.R.Region.bits c.args.region.now in
    let f = g.R.Region.answers c.args.region.now in
    let p = bits_of c.args.left c.args.q in
    let need = way_end c.needs.result d f p c.requires.mixed
    (λ k h. c.needs.ensures (slots d f) (slot_nodes k d f p) (slot_leaves k d f p)
    (c.tally_halves.ensures.tally k (d - 6) 0 (slot d f) (slot_nodes k d f p) (slot_leaves k d f p) h (parts_start d f) (way_start k d f p) (c.new-tally.ensures.tally (slots d f) (slot_nodes k d f p) (slot_leaves k d f p))))
    in
    record { nodes = λ k h. (need k h).nodes; leaves = λ k h. (need k h).leaves }

pub tally_halves-half-low-requires : goal.tally_halves-half-low-requires
tally_halves-half-low-requires g t c = mixed_bits (g.R.Region.bits c.args.region.now) (g.R.Region.answers c.args.region.now) c.requires.mixed

pub tally_halves-half-high-requires : goal.tally_halves-half-high-requires
tally_halves-half-high-requires g t c = mixed_bits (g.R.Region.bits c.args.region.now) (g.R.Region.answers c.args.region.now) c.requires.mixed

pub tally_halves-returns-then-left-eq0-clause-tally : goal.tally_halves-returns-then-left-eq0-clause-tally
tally_halves-returns-then-left-eq0-clause-tally g t c = λ k e v r N L h a w i.
    let d = g.R.Region.bits c.args.region.now in
    let f = g.R.Region.answers c.args.region.now in
    let j = c.args.depth in
    let p = bits_of c.args.left c.args.q in
    let some : j ≢ 0 = omega (arith, c.requires.some) in
    let none = no_bit c.args.left c.args.q c.if-left-eq0.true in
    let rest = no_bit 0 c.args.q refl in
    let low = c.tally_way.ensures.tally k e v r N L h (parts_low j d e v f r some (g.R.Region.bits c.half-low.result) (g.R.Region.answers c.half-low.result) c.half-low.ensures.bits a c.half-low.ensures.answers) (within_low j k e v r N L some p (bits_of 0 c.args.q) none rest w) i in
    let high = c.tally_way-then-left-eq0.ensures.tally k e (v + 2 ^ (j - 1)) r N L h (parts_high j d e v f r some (g.R.Region.bits c.half-high.result) (g.R.Region.answers c.half-high.result) c.half-high.ensures.bits a c.half-high.ensures.answers) (within_high j k e v r N L some p (bits_of 0 c.args.q) none rest w) low in
    let all : v + 2 ^ (j - 1) + 2 ^ (j - 1) ≡ v + 2 ^ j = omega (arith, halved j some) in
    subst (λ (x : ℕ). IsTally c.tally_way-then-left-eq0.new.tally (λ u. one_answer e (r u)) N L x) all high

pub tally_halves-returns-then-q-rest-eq1-clause-tally : goal.tally_halves-returns-then-q-rest-eq1-clause-tally
tally_halves-returns-then-q-rest-eq1-clause-tally g t c = λ k e v r N L h a w i.
    let d = g.R.Region.bits c.args.region.now in
    let f = g.R.Region.answers c.args.region.now in
    let j = c.args.depth in
    let p = bits_of c.args.left c.args.q in
    let some : j ≢ 0 = omega (arith, c.requires.some) in
    let next = next_bit c.args.left c.args.q (bit_and (c.args.q / 2 ^ (c.args.left - 1)) 1) c.if-left-eq0.false refl in
    let low = c.tally_beside.ensures.tally e v r N L (parts_low j d e v f r some (g.R.Region.bits c.half-low.result) (g.R.Region.answers c.half-low.result) c.half-low.ensures.bits a c.half-low.ensures.answers) (off_low j k e v r N L some p (bits_of (c.args.left - 1) c.args.q) (nat_eq (bit_and (c.args.q / 2 ^ (c.args.left - 1)) 1) 1) next (eq-eqb (bit_and (c.args.q / 2 ^ (c.args.left - 1)) 1) 1 c.if-q-rest-eq1.true) w) i in
    let high = c.tally_way-then-q-rest-eq1.ensures.tally k e (v + 2 ^ (j - 1)) r N L h (parts_high j d e v f r some (g.R.Region.bits c.half-high.result) (g.R.Region.answers c.half-high.result) c.half-high.ensures.bits a c.half-high.ensures.answers) (on_high j k e v r N L some p (bits_of (c.args.left - 1) c.args.q) (nat_eq (bit_and (c.args.q / 2 ^ (c.args.left - 1)) 1) 1) next (eq-eqb (bit_and (c.args.q / 2 ^ (c.args.left - 1)) 1) 1 c.if-q-rest-eq1.true) w) low in
    let all : v + 2 ^ (j - 1) + 2 ^ (j - 1) ≡ v + 2 ^ j = omega (arith, halved j some) in
    subst (λ (x : ℕ). IsTally c.tally_way-then-q-rest-eq1.new.tally (λ u. one_answer e (r u)) N L x) all high

pub tally_halves-returns-clause-tally : goal.tally_halves-returns-clause-tally
tally_halves-returns-clause-tally g t c = λ k e v r N L h a w i.
    let d = g.R.Region.bits c.args.region.now in
    let f = g.R.Region.answers c.args.region.now in
    let j = c.args.depth in
    let p = bits_of c.args.left c.args.q in
    let some : j ≢ 0 = omega (arith, c.requires.some) in
    let next = next_bit c.args.left c.args.q (bit_and (c.args.q / 2 ^ (c.args.left - 1)) 1) c.if-left-eq0.false refl in
    let low = c.tally_way-2.ensures.tally k e v r N L h (parts_low j d e v f r some (g.R.Region.bits c.half-low.result) (g.R.Region.answers c.half-low.result) c.half-low.ensures.bits a c.half-low.ensures.answers) (on_low j k e v r N L some p (bits_of (c.args.left - 1) c.args.q) (nat_eq (bit_and (c.args.q / 2 ^ (c.args.left - 1)) 1) 1) next (ne_eqb (bit_and (c.args.q / 2 ^ (c.args.left - 1)) 1) 1 c.if-q-rest-eq1.false) w) i in
    let high = c.tally_beside-2.ensures.tally e (v + 2 ^ (j - 1)) r N L (parts_high j d e v f r some (g.R.Region.bits c.half-high.result) (g.R.Region.answers c.half-high.result) c.half-high.ensures.bits a c.half-high.ensures.answers) (off_high j k e v r N L some p (bits_of (c.args.left - 1) c.args.q) (nat_eq (bit_and (c.args.q / 2 ^ (c.args.left - 1)) 1) 1) next (ne_eqb (bit_and (c.args.q / 2 ^ (c.args.left - 1)) 1) 1 c.if-q-rest-eq1.false) w) low in
    let all : v + 2 ^ (j - 1) + 2 ^ (j - 1) ≡ v + 2 ^ j = omega (arith, halved j some) in
    subst (λ (x : ℕ). IsTally c.tally_beside-2.new.tally (λ u. one_answer e (r u)) N L x) all high

pub tally_way-returns-in-Some-clause-tally : goal.tally_way-returns-in-Some-clause-tally
tally_way-returns-in-Some-clause-tally g t c = λ k e v r N L h a w.
    c.add_leaves.ensures.tally (λ u. one_answer e (r u)) N L v (2 ^ c.args.depth) (pow_pos c.args.depth) (uniform_on_way c.args.depth (g.R.Region.bits c.args.region.now) c.in-Some.hop.0 e v (g.R.Region.answers c.args.region.now) r N L c.in-Some.ensures.one a k (bits_of c.args.left c.args.q) w)

pub tally_way-returns-then-depth-eq0-clause-tally : goal.tally_way-returns-then-depth-eq0-clause-tally
tally_way-returns-then-depth-eq0-clause-tally g t c = λ k e v r N L h a w i.
    let d = g.R.Region.bits c.args.region.now in
    let f = g.R.Region.answers c.args.region.now in
    let p = bits_of c.args.left c.args.q in
    let none = part_node c.args.depth d e v f r c.if-depth-eq0.true c.in-None.ensures.differ a in
    let enough : d ≤ 6 * k = omega (arith, h, a.bits, c.if-depth-eq0.true) in
    let below = part_need c.count_way.result (λ n x. way_nodes k n x p) (λ n x. way_leaves k n x p) c.args.depth d e v f r c.if-depth-eq0.true a (record { nodes = c.count_way.ensures.nodes k enough; leaves = c.count_way.ensures.leaves k enough }) in
    let one : v + 1 ≡ v + 2 ^ c.args.depth = ap (λ n. v + 2 ^ n) (sym c.if-depth-eq0.true) in
    subst (λ (x : ℕ). IsTally c.add_node.new.self (λ u. one_answer e (r u)) N L x) one (c.add_node.ensures.tally (λ u. one_answer e (r u)) N L v none (slot_on_way c.count_way.result c.args.depth k e v r p N L c.if-depth-eq0.true below w) i)
