use Rattle.std.proofs.Common.{◌^◌, true, replicate, ap, sym, ◌∙◌}
use Rattle.buddy_arena.proofs.Kept.{all_fresh}
use Rattle.buddy_arena.proofs.Others.{lent_all}
use Rattle.buddy_arena.proofs.free.FreePlaces.clear.Goals as goal

pub invariant_of-self : goal.invariant_of-self
invariant_of-self c =
    let a = c.self.inside in
    let same = lent_all a.masks.len c.leave_bare.new.masks a.masks.items (c.leave_bare.auto.masks ∙ c.deref_mut.ensures.len) in
    let n = c.order-whole.ensures.order ∙ sym (ap (λ s. s.order) c.self.view_is) in
    (c.self.invariant.0, c.self.invariant.1, rw same (all_fresh c.order-whole.result a.base a.height c.leave_bare.new.masks c.keep_whole.new.places n c.self.invariant.1 c.leave_bare.ensures.right c.leave_bare.ensures.bare c.keep_whole.ensures.long c.keep_whole.ensures.whole c.keep_whole.ensures.none).0)

pub returns-clause-free : goal.returns-clause-free
returns-clause-free c =
    let a = c.self.inside in
    let n = c.order-whole.ensures.order ∙ sym (ap (λ s. s.order) c.self.view_is) in
    (all_fresh c.order-whole.result a.base a.height c.leave_bare.new.masks c.keep_whole.new.places n c.self.invariant.1 c.leave_bare.ensures.right c.leave_bare.ensures.bare c.keep_whole.ensures.long c.keep_whole.ensures.whole c.keep_whole.ensures.none).1
    ∙ ap (λ s. replicate (2 ^ s.order) true) c.self.view_is
