use Rattle.std.proofs.Common.{refl, ◌∙◌}
use Rattle.buddy_arena.specs.Masks.{ord}
use Rattle.buddy_arena.proofs.Kept.{is_map}
use Rattle.buddy_arena.proofs.Others.{lent_all}
use Rattle.buddy_arena.proofs.free.FreePlaces.take.Goals as goal

pub returns-clause-ok : goal.returns-clause-ok
returns-clause-ok c =
    let a = c.self.inside in
    let same = lent_all a.masks.len c.take_from.new.masks a.masks.items (c.take_from.auto.masks ∙ c.deref_mut.ensures.len) in
    rw (← c.self.view_is, c.if-self.false, same, ← c.deref_mut.ensures.value) c.take_from.ensures.ok

pub returns-clause-sized : goal.returns-clause-sized
returns-clause-sized c =
    let a = c.self.inside in
    rw (← c.self.view_is) (is_map a.fresh a.base a.height (ord a.base a.height) a.masks.items a.places refl c.self.invariant.1)
