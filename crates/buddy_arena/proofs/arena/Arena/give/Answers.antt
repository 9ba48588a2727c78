use Rattle.std.proofs.Common.{◌≡◌, ◌^◌, List, Bool, true, false, length, ap, sym, subst, arith}
use Rattle.buddy_arena.specs.Space.{marked}
use Rattle.buddy_arena.proofs.Others.{given_still}
use Rattle.buddy_arena.proofs.Spans.{marked_len}
use Rattle.buddy_arena.proofs.Totals.{given_total, total_le, small_pow}
use Rattle.buddy_arena.proofs.arena.Arena.give.Goals as goal

pub whole_mask-requires : goal.whole_mask-requires
whole_mask-requires g c = omega (arith, c.requires.small, c.give.ensures.sized.small, ap (λ s. s.order) c.self.view_is)

pub overflow_add-self : goal.overflow_add-self
overflow_add-self g c =
    let p = c.self.inside.places in
    let e = ap (λ s. s.order) c.self.view_is in
    let t = given_total c.args.block.place (2 ^ c.args.block.order) p.free c.give.new.self.free (omega (arith, c.give.ensures.sized.places, c.requires.within, ap (λ s. 2 ^ s.order) c.self.view_is)) (subst (λ (f : List Bool). marked c.args.block.place (2 ^ c.args.block.order) false f ≡ f) (sym (ap (λ s. s.free) c.self.view_is)) c.requires.out) c.give.ensures.free in
    omega (arith, t, c.whole_mask.ensures, c.self.invariant.1, ap length c.give.ensures.free, marked_len c.args.block.place (2 ^ c.args.block.order) true p.free, total_le c.give.new.self.free, c.give.ensures.sized.places, small_pow p.order c.self.invariant.3)

pub invariant_of-self : goal.invariant_of-self
invariant_of-self g c =
    let p = c.self.inside.places in
    let t = given_total c.args.block.place (2 ^ c.args.block.order) p.free c.give.new.self.free (omega (arith, c.give.ensures.sized.places, c.requires.within, ap (λ s. 2 ^ s.order) c.self.view_is)) (subst (λ (f : List Bool). marked c.args.block.place (2 ^ c.args.block.order) false f ≡ f) (sym (ap (λ s. s.free) c.self.view_is)) c.requires.out) c.give.ensures.free in
    let e = ap (λ n. 2 ^ n) c.give.ensures.kept in
    (omega (arith, e, c.self.invariant.0), omega (arith, t, c.whole_mask.ensures, c.self.invariant.1), omega (arith, e, c.self.invariant.2), omega (arith, c.give.ensures.kept, c.self.invariant.3))

pub returns-clause-still : goal.returns-clause-still
returns-clause-still g c =
    let p = c.self.inside.places in
    rw (← c.self.view_is) (λ q k o a. given_still p.order c.give.new.self.order p.free c.give.new.self.free c.args.block.place c.args.block.order q k c.give.ensures.kept c.give.ensures.free a o)
