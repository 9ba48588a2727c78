use Rattle.std.proofs.Common.{◌≡◌, ◌∙◌, ◌+◌, ◌^◌, ◌++◌, ◌∷◌, [], List, suc, ap, arith}
use Rattle.buddy_arena.specs.Blocks.{Held, with_replaced}
use Rattle.buddy_arena.specs.declared.blocks.Aside.{Aside}
use Rattle.buddy_arena.proofs.Queue.{queue_aside, seen_aside}
use Rattle.buddy_arena.proofs.Beside.{counted_aside}
use Rattle.buddy_arena.proofs.blocks.Blocks.set_aside.Goals as goal

pub invariant_of-self-2 : goal.invariant_of-self-2
invariant_of-self-2 c =
    let next : c.self.inside.time + 1 ≡ suc c.self.inside.time = omega arith in
    let items = c.push_back_reserved.ensures.items ∙ ap (λ (x : List Aside). x ++ record { end = c.self.inside.time + 1; block = c.args.block } ∷ []) c.reserve.ensures.items in (
      queue_aside c.self.inside.aside.items c.push_back_reserved.new.self.items c.args.block c.self.inside.retired c.self.inside.time (c.self.inside.time + 1) next items c.self.invariant.0,
      counted_aside c.self.inside.taken.items c.self.inside.aside.items c.push_back_reserved.new.self.items c.args.block c.self.inside.retired (c.self.inside.time + 1) c.self.inside.taken_places c.self.inside.replaced_places c.self.inside.retired_places c.saturating_add-self-inside.result c.places.result c.self.invariant.0.many items c.places.ensures c.saturating_add-self-inside.ensures c.self.invariant.1,
    )

pub returns-clause-ok : goal.returns-clause-ok
returns-clause-ok c =
    seen_aside c.self.inside.taken.items c.self.inside.aside.items c.push_back_reserved.new.self.items c.args.block c.self.inside.retired c.self.inside.time (c.self.inside.time + 1) c.self.invariant.0.many (c.push_back_reserved.ensures.items ∙ ap (λ (x : List Aside). x ++ record { end = c.self.inside.time + 1; block = c.args.block } ∷ []) c.reserve.ensures.items)
    ∙ ap (λ (h : Held). with_replaced h (c.args.block.place, 2 ^ c.args.block.order)) c.self.view_is
