use Rattle.std.proofs.Common.{rules, ◌≡◌, ℕ, ◌+◌, ◌-◌, ◌*◌, ◌%◌, ◌^◌, ◌<◌, ◌≤◌, ◌≢◌, ap, arith, subst, sym}
use Rattle.std.proofs.lemmas.Nat.{one_shl, pow_pos}
use Rattle.fib_addr.proofs.OneAnswer.{mixed_bits}
use Rattle.fib_addr.specs.Answers.{one_answer}
use Rattle.poptrie_build.specs.Surveyed.{IsSurveyed}
use Rattle.poptrie_build.proofs.Slotting.{halved}
use Rattle.poptrie_build.proofs.Tallying.{part_node, parts_alike}
use Rattle.poptrie_build.proofs.More_surveyed.{surveyed_halves}
use Rattle.poptrie_build.proofs.surveying.+add_halves.Goals as goal

pub add_halves-half-low-requires : goal.add_halves-half-low-requires
add_halves-half-low-requires g t c = mixed_bits (g.R.Region.bits c.args.region.now) (g.R.Region.answers c.args.region.now) c.requires.mixed

pub add_halves-half-high-requires : goal.add_halves-half-high-requires
add_halves-half-high-requires g t c = mixed_bits (g.R.Region.bits c.args.region.now) (g.R.Region.answers c.args.region.now) c.requires.mixed

pub add_halves-add_slots-requires : goal.add_halves-add_slots-requires
add_halves-add_slots-requires g t c κs within =
    let some : c.args.depth ≢ 0 = omega (arith, c.requires.some) in
    let w = halved c.args.depth some in
    search (rules, w)

pub add_halves-overflow_shl-below : goal.add_halves-overflow_shl-below
add_halves-overflow_shl-below g t c = omega (arith, c.requires.shallow)

pub add_halves-overflow_add-slot : goal.add_halves-overflow_add-slot
add_halves-overflow_add-slot g t c =
    let some : c.args.depth ≢ 0 = omega (arith, c.requires.some) in
    let w = halved c.args.depth some in
    let e = one_shl (c.args.depth - 1) 8 (omega (arith, c.requires.shallow)) in
    let h : c.args.slot + 1 * 2 ^ (c.args.depth - 1) % 256 < 256 = omega (arith, w, e, c.requires.slots) in
    search (rules, h)

pub add_halves-add_slots-requires-2 : goal.add_halves-add_slots-requires-2
add_halves-add_slots-requires-2 g t c κs within =
    let some : c.args.depth ≢ 0 = omega (arith, c.requires.some) in
    let w = halved c.args.depth some in
    let e : 1 * 2 ^ (c.args.depth - 1) % 256 ≡ 2 ^ (c.args.depth - 1) = one_shl (c.args.depth - 1) 8 (omega (arith, c.requires.shallow)) in
    let ends : c.args.slot + 1 * 2 ^ (c.args.depth - 1) % 256 + 2 ^ (c.args.depth - 1) ≤ 64 = omega (arith, w, e, c.requires.slots) in
    let few : c.add_slots.new.survey.leaves ≤ c.args.slot + 1 * 2 ^ (c.args.depth - 1) % 256 = omega (arith, e, c.add_slots.ensures.few) in
    search (rules, ends, few)

pub add_halves-returns-clause-slots : goal.add_halves-returns-clause-slots
add_halves-returns-clause-slots g t c =
    let some : c.args.depth ≢ 0 = omega (arith, c.requires.some) in
    let w = halved c.args.depth some in
    let e : c.args.slot + 1 * 2 ^ (c.args.depth - 1) % 256 ≡ c.args.slot + 2 ^ (c.args.depth - 1) = ap (λ n. c.args.slot + n) (one_shl (c.args.depth - 1) 8 (omega (arith, c.requires.shallow))) in
    surveyed_halves c.args.depth (g.R.Region.bits c.args.region.now) (g.R.Region.bits c.half-low.result) (g.R.Region.bits c.half-high.result) c.args.slot (c.args.slot + 1 * 2 ^ (c.args.depth - 1) % 256)
    (g.R.Region.answers c.args.region.now) (g.R.Region.answers c.half-low.result) (g.R.Region.answers c.half-high.result) c.args.survey.now c.add_slots.new.survey c.add_slots-2.new.survey c.args.hops.now c.add_slots.new.hops c.add_slots-2.new.hops
    some w e c.half-low.ensures.bits c.half-low.ensures.answers c.half-high.ensures.bits c.half-high.ensures.answers c.add_slots.ensures.slots c.add_slots-2.ensures.slots

pub add_halves-returns-clause-few : goal.add_halves-returns-clause-few
add_halves-returns-clause-few g t c =
    let some : c.args.depth ≢ 0 = omega (arith, c.requires.some) in
    let w = halved c.args.depth some in
    let e = one_shl (c.args.depth - 1) 8 (omega (arith, c.requires.shallow)) in
    omega (arith, w, e, c.add_slots-2.ensures.few)

pub add_slots-returns-then-depth-eq0-clause-slots : goal.add_slots-returns-then-depth-eq0-clause-slots
add_slots-returns-then-depth-eq0-clause-slots g t c = λ e r a i.
    let none = part_node c.args.depth (g.R.Region.bits c.args.region.now) e c.args.slot (g.R.Region.answers c.args.region.now) r c.if-depth-eq0.true c.in-None.ensures.differ a in
    let one : c.args.slot + 1 ≡ c.args.slot + 2 ^ c.args.depth = ap (λ n. c.args.slot + 2 ^ n) (sym c.if-depth-eq0.true) in
    subst (λ (x : ℕ). IsSurveyed c.add_node.new.survey c.args.hops.now (λ u. one_answer e (r u)) x) one (c.add_node.ensures.node (λ u. one_answer e (r u)) c.args.hops.now none i)

pub add_slots-returns-in-Some-clause-slots : goal.add_slots-returns-in-Some-clause-slots
add_slots-returns-in-Some-clause-slots g t c = λ e r a i.
    c.add_leaves.ensures.leaves (λ u. one_answer e (r u)) (2 ^ c.args.depth) (pow_pos c.args.depth) c.requires.slots (parts_alike c.args.depth (g.R.Region.bits c.args.region.now) c.in-Some.hop.0 e c.args.slot (g.R.Region.answers c.args.region.now) r c.in-Some.ensures.one a) i
