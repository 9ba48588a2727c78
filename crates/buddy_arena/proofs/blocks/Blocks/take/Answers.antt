use Rattle.std.proofs.Common.{◌∙◌, ◌^◌, ◌++◌, ◌∷◌, [], List, ℕ, refl, sym, ap, subst}
use Rattle.buddy_arena.specs.Space.{IsOut, TakesBlock}
use Rattle.buddy_arena.specs.declared.arena.Block.{Block}
use Rattle.buddy_arena.specs.Places.{is_out}
use Rattle.buddy_arena.specs.Blocks.{Held, AreHeldIn, with_taken}
use Rattle.buddy_arena.proofs.Queue.{seen_taken, held_taken}
use Rattle.buddy_arena.proofs.Beside.{counted_taken}
use Rattle.buddy_arena.proofs.blocks.Blocks.take.Goals as goal

pub returns-in-Ok-clause-taken : goal.returns-in-Ok-clause-taken
returns-in-Ok-clause-taken g c =
    seen_taken c.self.inside.taken.items c.push_reserved.new.self.items c.in-Ok.block c.self.inside.aside.items c.self.inside.retired c.self.inside.time (c.push_reserved.ensures.items ∙ ap (λ (x : List Block). x ++ c.in-Ok.block ∷ []) c.reserve.ensures.items)
    ∙ ap (λ (h : Held). with_taken h (c.in-Ok.block.place, 2 ^ c.in-Ok.block.order)) c.self.view_is

pub returns-in-Ok-clause-held : goal.returns-in-Ok-clause-held
returns-in-Ok-clause-held g c =
    λ held.
    let is = seen_taken c.self.inside.taken.items c.push_reserved.new.self.items c.in-Ok.block c.self.inside.aside.items c.self.inside.retired c.self.inside.time (c.push_reserved.ensures.items ∙ ap (λ (x : List Block). x ++ c.in-Ok.block ∷ []) c.reserve.ensures.items)
    ∙ ap (λ (h : Held). with_taken h (c.in-Ok.block.place, 2 ^ c.in-Ok.block.order)) c.self.view_is in
    let takes = subst (λ (k : ℕ). TakesBlock c.args.arena.now.order c.args.arena.now.free c.take.new.self.free c.in-Ok.block.place k) (sym c.in-Ok.ensures.ok.0) c.in-Ok.ensures.ok.1 in
    let out = subst (λ (k : ℕ). IsOut c.take.new.self.order c.take.new.self.free c.in-Ok.block.place k) (sym c.in-Ok.ensures.ok.0) c.in-Ok.ensures.out in
    subst (λ (h : Held). AreHeldIn (is_out c.take.new.self.free) h) (sym is) (held_taken c.args.arena.now c.take.new.self c.args.self.now c.in-Ok.block.place c.in-Ok.block.order (2 ^ c.in-Ok.block.order) c.take.ensures.sized takes out refl held)

pub invariant_of-self-in-Ok : goal.invariant_of-self-in-Ok
invariant_of-self-in-Ok g c = (
  c.self.invariant.0,
  counted_taken c.self.inside.taken.items c.push_reserved.new.self.items c.in-Ok.block c.self.inside.aside.items c.self.inside.retired c.self.inside.taken_places c.self.inside.replaced_places c.self.inside.retired_places c.saturating_add-self-inside.result c.places.result (c.push_reserved.ensures.items ∙ ap (λ (x : List Block). x ++ c.in-Ok.block ∷ []) c.reserve.ensures.items) c.places.ensures c.saturating_add-self-inside.ensures c.self.invariant.1,
)
