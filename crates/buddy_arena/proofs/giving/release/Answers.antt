use Rattle.std.proofs.Common.{◌≡◌, ℕ, length, take, refl, arith, subst}
use Rattle.std.proofs.lemmas.List.{length-take-le}
use Rattle.buddy_arena.specs.Blocks.{GivesBack, IsCut, blocks_of, retired_of}
use Rattle.buddy_arena.proofs.Released.{releases_start, releases_out, releases_next, released_gives, cut_end, cut_stop, front_read, front_gone}
use Rattle.buddy_arena.proofs.giving.release.Goals as goal

pub loop-given-init : goal.loop-given-init
loop-given-init g c = (releases_start (take c.args.retired c.args.aside.now.items) c.args.since c.args.arena.now c.requires.sized c.requires.out, refl)

pub give-requires : goal.give-requires
give-requires g c =
    let len : length (take c.args.retired c.args.aside.now.items) ≡ c.args.retired = length-take-le c.args.retired c.args.aside.now.items c.requires.many in
    let is = front_read c.args.aside.now.items c.loop-given.aside.items c.args.retired c.loop-given.given c.index-oldest.result.now c.loop-given.invariant.1 c.loop-given-test.true c.index-oldest.ensures in
    releases_out (take c.args.retired c.args.aside.now.items) c.args.since c.args.arena.now c.loop-given.arena c.loop-given.given c.index-oldest.result.now c.index-oldest.result.now is (omega (arith, len)) c.loop-given.invariant.0

pub loop-given-preserved : goal.loop-given-preserved
loop-given-preserved g c =
    let len : length (take c.args.retired c.args.aside.now.items) ≡ c.args.retired = length-take-le c.args.retired c.args.aside.now.items c.requires.many in
    let is = front_read c.args.aside.now.items c.loop-given.aside.items c.args.retired c.loop-given.given c.index-oldest.result.now c.loop-given.invariant.1 c.loop-given-test.true c.index-oldest.ensures in (
      releases_next (take c.args.retired c.args.aside.now.items) c.args.since c.args.arena.now c.loop-given.arena c.loop-given.given c.index-oldest.result.now c.index-oldest.result.now is (omega (arith, len)) c.loop-given.invariant.0 c.if-oldest-since.false c.give.new.self c.give.ensures.free c.give.ensures.kept.0 c.give.ensures.kept.1 c.give.ensures.kept.2,
      front_gone c.args.aside.now.items c.loop-given.aside.items c.pop_front.new.self.items c.loop-given.given c.loop-given.invariant.1 c.pop_front.ensures.rest,
    )

pub returns-then-oldest-since-clause-cut : goal.returns-then-oldest-since-clause-cut
returns-then-oldest-since-clause-cut g c =
    let len : length (take c.args.retired c.args.aside.now.items) ≡ c.args.retired = length-take-le c.args.retired c.args.aside.now.items c.requires.many in
    let is = front_read c.args.aside.now.items c.loop-given.aside.items c.args.retired c.loop-given.given c.index-oldest.result.now c.loop-given.invariant.1 c.loop-given-test.true c.index-oldest.ensures in
    cut_stop (take c.args.retired c.args.aside.now.items) c.args.since c.args.arena.now c.loop-given.arena c.loop-given.given (omega (arith, len)) c.loop-given.invariant.0 c.index-oldest.result.now c.index-oldest.result.now is (omega (arith, len)) c.if-oldest-since.true c.requires.in_order

pub returns-then-oldest-since-clause-gives : goal.returns-then-oldest-since-clause-gives
returns-then-oldest-since-clause-gives g c =
    let len : length (take c.args.retired c.args.aside.now.items) ≡ c.args.retired = length-take-le c.args.retired c.args.aside.now.items c.requires.many in
    released_gives (take c.args.retired c.args.aside.now.items) c.args.since c.args.arena.now c.loop-given.arena c.loop-given.given (omega (arith, len)) c.loop-given.invariant.0

pub returns-clause-cut : goal.returns-clause-cut
returns-clause-cut g c =
    let len : length (take c.args.retired c.args.aside.now.items) ≡ c.args.retired = length-take-le c.args.retired c.args.aside.now.items c.requires.many in
    let e : c.loop-given.given ≡ c.args.retired = omega (arith, c.loop-given-test.false, c.loop-given.auto.given-end) in
    subst (λ (n : ℕ). IsCut (take c.args.retired c.args.aside.now.items) c.args.since n) e (cut_end (take c.args.retired c.args.aside.now.items) c.args.since c.args.arena.now c.loop-given.arena c.loop-given.given (omega (arith, len)) c.loop-given.invariant.0 (omega (arith, len)))

pub returns-clause-gives : goal.returns-clause-gives
returns-clause-gives g c =
    let len : length (take c.args.retired c.args.aside.now.items) ≡ c.args.retired = length-take-le c.args.retired c.args.aside.now.items c.requires.many in
    let e : c.loop-given.given ≡ c.args.retired = omega (arith, c.loop-given-test.false, c.loop-given.auto.given-end) in
    subst (λ (n : ℕ). GivesBack (blocks_of (retired_of (take n (take c.args.retired c.args.aside.now.items)))) c.args.arena.now c.loop-given.arena) e (released_gives (take c.args.retired c.args.aside.now.items) c.args.since c.args.arena.now c.loop-given.arena c.loop-given.given (omega (arith, len)) c.loop-given.invariant.0)
