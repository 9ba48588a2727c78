use Rattle.std.proofs.Common.{◌+◌, ap, sym, ◌∙◌}
use Rattle.buddy_arena.proofs.Kept.{is_map}
use Rattle.buddy_arena.proofs.Masks.{ord_is}
use Rattle.buddy_arena.proofs.free.FreePlaces.order.Goals as goal

pub returns-clause-order : goal.returns-clause-order
returns-clause-order c = sym (ord_is c.self.inside.base c.self.inside.height) ∙ ap (λ s. s.order) c.self.view_is

pub returns-clause-sized : goal.returns-clause-sized
returns-clause-sized c =
    let a = c.self.inside in
    rw (← c.self.view_is) (is_map a.fresh a.base a.height (a.base + a.height) a.masks.items a.places (sym (ord_is a.base a.height)) c.self.invariant.1)
