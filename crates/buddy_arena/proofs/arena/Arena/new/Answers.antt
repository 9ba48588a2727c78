use Rattle.std.proofs.Common.{◌^◌, true, replicate, length, ap, sym, ◌∙◌, arith}
use Rattle.buddy_arena.specs.Space.{free_count}
use Rattle.buddy_arena.proofs.Others.{one_whole}
use Rattle.buddy_arena.proofs.Totals.{total_whole}
use Rattle.buddy_arena.proofs.arena.Arena.new.Goals as goal

pub invariant_of-result : goal.invariant_of-result
invariant_of-result g c =
    let e = ap (λ n. 2 ^ n) c.in_ok-places.ensures.order in (
      omega (arith, ap length c.in_ok-cells.ensures.items),
      c.whole_mask-left.ensures ∙ sym (ap free_count c.in_ok-places.ensures.free ∙ total_whole (2 ^ c.args.order)),
      omega (arith, e, c.in_ok-cells.ensures.exact, c.whole_mask-left.ensures),
      omega (arith, c.in_ok-places.ensures.order, c.requires),
    )

pub returns-clause-fresh : goal.returns-clause-fresh
returns-clause-fresh g c = one_whole c.in_ok-places.places.order c.in_ok-places.places.free (c.in_ok-places.ensures.free ∙ ap (λ n. replicate (2 ^ n) true) (sym c.in_ok-places.ensures.order))
