use Rattle.std.proofs.Common.{refl}
use Rattle.buddy_arena.specs.Masks.{ord}
use Rattle.buddy_arena.proofs.Kept.{is_map}
use Rattle.buddy_arena.proofs.free.FreePlaces.give.Goals as goal

pub returns-clause-sized : goal.returns-clause-sized
returns-clause-sized c =
    let a = c.self.inside in
    rw (← c.self.view_is) (is_map a.fresh a.base a.height (ord a.base a.height) a.masks.items a.places refl c.self.invariant.1)
