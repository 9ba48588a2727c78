use Rattle.std.proofs.Common.{rules, ◌≡◌, ℕ, ◌-◌, ◌^◌, arith, suc, length, ap}
use Rattle.fib_addr.proofs.OneAnswer.{mixed_bits}
use Rattle.poptrie_build.proofs.Slotting.{double, slots_same, slots_none, slots_halves}
use Rattle.poptrie_build.proofs.slots.+ask.Goals as goal

pub returns-then-depth-eq0 : goal.returns-then-depth-eq0
returns-then-depth-eq0 g t c = slots_none c.args.depth (g.R.Region.bits c.args.region.now) (g.R.Region.answers c.args.region.now) c.args.slots.now c.in-None.ensures.differ c.if-depth-eq0.true c.requires.many

pub half-requires : goal.half-requires
half-requires g t c = mixed_bits (g.R.Region.bits c.args.region.now) (g.R.Region.answers c.args.region.now) c.in-None.ensures.differ

pub ask-requires : goal.ask-requires
ask-requires g t c κs within =
    let e : suc (c.args.depth - 1) ≡ c.args.depth = omega arith in
    let w = ap (λ (n : ℕ). 2 ^ n) e in
    let h : length c.split_at_mut-low.result.0.now ≡ 2 ^ (c.args.depth - 1) = omega (arith, c.split_at_mut-low.ensures.front_len, c.requires.many, double (c.args.depth - 1), w) in
    search (rules, h)

pub ask-requires-in-None : goal.ask-requires-in-None
ask-requires-in-None g t c κs within =
    let e : suc (c.args.depth - 1) ≡ c.args.depth = omega arith in
    let w = ap (λ (n : ℕ). 2 ^ n) e in
    let h : length c.split_at_mut-low.result.1.now ≡ 2 ^ (c.args.depth - 1) = omega (arith, c.split_at_mut-low.ensures.front_len, c.split_at_mut-low.ensures.back_len, c.requires.many, double (c.args.depth - 1), w) in
    search (rules, h)

pub returns-after-loop-slot : goal.returns-after-loop-slot
returns-after-loop-slot g t c = slots_same c.args.depth (g.R.Region.bits c.args.region.now) c.in-Some.hop.0 (g.R.Region.answers c.args.region.now) c.loop-slot.slots c.in-Some.ensures.one (λ v l. c.loop-slot.invariant v (omega (arith, c.loop-slot-test.false, c.requires.many, l)))

pub returns-else-depth-eq0 : goal.returns-else-depth-eq0
returns-else-depth-eq0 g t c =
    let e : suc (c.args.depth - 1) ≡ c.args.depth = omega arith in
    let w = ap (λ (n : ℕ). 2 ^ n) e in
    let h : length c.ask.new.slots ≡ 2 ^ (c.args.depth - 1) = omega (arith, c.ask.auto.slots, c.split_at_mut-low.ensures.front_len, c.requires.many, double (c.args.depth - 1), w) in
    slots_halves c.args.depth (g.R.Region.bits c.args.region.now) (g.R.Region.bits c.half.result) (g.R.Region.bits c.half-in-None.result) (g.R.Region.answers c.args.region.now) (g.R.Region.answers c.half.result) (g.R.Region.answers c.half-in-None.result) c.ask.new.slots c.ask-in-None.new.slots
    c.if-depth-eq0.false h c.half.ensures.bits c.half-in-None.ensures.bits c.half.ensures.answers c.half-in-None.ensures.answers c.ask.ensures c.ask-in-None.ensures
