use Rattle.std.proofs.Common.{◌^◌, false, length, ap, sym, ◌∙◌, arith}
use Rattle.buddy_arena.proofs.Calls.{len_padded}
use Rattle.buddy_arena.proofs.Kept.{take_says}
use Rattle.buddy_arena.proofs.Spans.{marked_len}
use Rattle.buddy_arena.proofs.Totals.{few_free}
use Rattle.buddy_arena.proofs.arena.Arena.take.Goals as goal

pub whole_mask-requires : goal.whole_mask-requires
whole_mask-requires g c =
    let p = c.self.inside.places in
    let s = take_says p.order p.free c.take.new.self.free c.in-Ok.block.place c.args.order c.in-Ok.ensures.sized.places c.in-Ok.ensures.ok.1 in
    omega (arith, s.small, c.in-Ok.ensures.sized.small)

pub overflow_sub-self : goal.overflow_sub-self
overflow_sub-self g c =
    let p = c.self.inside.places in
    let s = take_says p.order p.free c.take.new.self.free c.in-Ok.block.place c.args.order c.in-Ok.ensures.sized.places c.in-Ok.ensures.ok.1 in
    omega (arith, s.total, c.whole_mask.ensures, c.self.invariant.1)

pub invariant_of-self : goal.invariant_of-self
invariant_of-self g c =
    let p = c.self.inside.places in
    let s = take_says p.order p.free c.take.new.self.free c.in-Ok.block.place c.args.order c.in-Ok.ensures.sized.places c.in-Ok.ensures.ok.1 in
    let e = ap (λ n. 2 ^ n) c.in-Ok.ensures.kept in
    (omega (arith, e, c.self.invariant.0), omega (arith, s.total, c.whole_mask.ensures, c.self.invariant.1), omega (arith, e, c.self.invariant.2), omega (arith, c.in-Ok.ensures.kept, c.self.invariant.3))

pub returns-in-Ok-clause-out : goal.returns-in-Ok-clause-out
returns-in-Ok-clause-out g c =
    let p = c.self.inside.places in
    let s = take_says p.order p.free c.take.new.self.free c.in-Ok.block.place c.args.order c.in-Ok.ensures.sized.places c.in-Ok.ensures.ok.1 in
    rw c.in-Ok.ensures.kept s.out

pub returns-in-Ok-clause-fresh : goal.returns-in-Ok-clause-fresh
returns-in-Ok-clause-fresh g c =
    let p = c.self.inside.places in
    let s = take_says p.order p.free c.take.new.self.free c.in-Ok.block.place c.args.order c.in-Ok.ensures.sized.places c.in-Ok.ensures.ok.1 in
    rw (← c.self.view_is, c.in-Ok.ensures.kept) s.fresh

pub returns-in-Ok-clause-left : goal.returns-in-Ok-clause-left
returns-in-Ok-clause-left g c =
    let p = c.self.inside.places in
    let s = take_says p.order p.free c.take.new.self.free c.in-Ok.block.place c.args.order c.in-Ok.ensures.sized.places c.in-Ok.ensures.ok.1 in
    rw (← c.self.view_is) s.total

pub returns-in-Ok-clause-apart : goal.returns-in-Ok-clause-apart
returns-in-Ok-clause-apart g c =
    let p = c.self.inside.places in
    let s = take_says p.order p.free c.take.new.self.free c.in-Ok.block.place c.args.order c.in-Ok.ensures.sized.places c.in-Ok.ensures.ok.1 in
    rw (← c.self.view_is) s.apart

pub returns-in-Ok-clause-still : goal.returns-in-Ok-clause-still
returns-in-Ok-clause-still g c =
    let p = c.self.inside.places in
    let s = take_says p.order p.free c.take.new.self.free c.in-Ok.block.place c.args.order c.in-Ok.ensures.sized.places c.in-Ok.ensures.ok.1 in
    rw (← c.self.view_is, c.in-Ok.ensures.kept) s.still

pub returns-in-Ok-clause-sized : goal.returns-in-Ok-clause-sized
returns-in-Ok-clause-sized g c =
    let p = c.self.inside.places in
    let e = ap (λ n. 2 ^ n) c.in-Ok.ensures.kept in
    record {
      small = omega (arith, c.in-Ok.ensures.kept, c.in-Ok.ensures.sized.small);
      places = ap length c.in-Ok.ensures.ok.1.free ∙ (marked_len c.in-Ok.block.place (2 ^ c.args.order) false p.free ∙ (c.in-Ok.ensures.sized.places ∙ sym e));
      cells = len_padded (2 ^ c.take.new.self.order) c.self.inside.fill c.self.inside.cells.items (omega (arith, e, c.self.invariant.0));
    }

pub returns-in-Err-clause-fresh : goal.returns-in-Err-clause-fresh
returns-in-Err-clause-fresh g c = rw (← c.self.view_is, c.in-Err.ensures.err) (λ o. o)

pub returns-in-Err-clause-few : goal.returns-in-Err-clause-few
returns-in-Err-clause-few g c =
    let p = c.self.inside.places in
    rw (← c.self.view_is) (λ o. few_free p.order c.args.order p.free c.in-Err.ensures.sized.places c.in-Err.ensures.full.1 o)

pub returns-in-Err-clause-sized : goal.returns-in-Err-clause-sized
returns-in-Err-clause-sized g c =
    let p = c.self.inside.places in
    rw c.in-Err.ensures.err (record {
      small = c.in-Err.ensures.sized.small;
      places = c.in-Err.ensures.sized.places;
      cells = len_padded (2 ^ p.order) c.self.inside.fill c.self.inside.cells.items c.self.invariant.0;
    })
