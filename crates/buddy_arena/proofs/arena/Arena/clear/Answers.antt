use Rattle.std.proofs.Common.{◌^◌, length, ap, sym, ◌∙◌, arith}
use Rattle.buddy_arena.specs.Space.{free_count}
use Rattle.buddy_arena.proofs.Totals.{total_whole}
use Rattle.buddy_arena.proofs.arena.Arena.clear.Goals as goal

pub invariant_of-self : goal.invariant_of-self
invariant_of-self g c =
    let p = c.self.inside.places in
    let e = ap (λ n. 2 ^ n) c.clear.ensures.order in (
      omega (arith, ap length c.clear-2.ensures.items),
      c.whole_mask-self-inside.ensures ∙ (ap (λ n. 2 ^ n) (c.order.ensures.order ∙ c.clear.ensures.order) ∙ sym (ap free_count c.clear.ensures.free ∙ total_whole (2 ^ p.order))),
      omega (arith, e, c.clear-2.ensures.capacity, c.self.invariant.2),
      omega (arith, c.clear.ensures.order, c.self.invariant.3),
    )
