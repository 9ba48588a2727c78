use Rattle.std.proofs.Common.{◌∙◌, ◌++◌, List, ap, sym, subst}
use Rattle.buddy_arena.specs.declared.arena.Block.{Block}
use Rattle.buddy_arena.specs.Arrays.{AreApart}
use Rattle.buddy_arena.specs.Places.{is_out}
use Rattle.buddy_arena.specs.Blocks.{Held, cancelled, arrays_of, blocks_of, AreHeldIn, GivesBack}
use Rattle.buddy_arena.proofs.Parting.{part_left}
use Rattle.buddy_arena.proofs.Queue.{seen, queue_cancelled, seen_cancelled, held_cancelled}
use Rattle.buddy_arena.proofs.Beside.{counted_cancelled}
use Rattle.buddy_arena.proofs.blocks.Blocks.cancel.Goals as goal

pub give_all-requires-clause-out : goal.give_all-requires-clause-out
give_all-requires-clause-out g c =
    let held = subst (λ (h : Held). AreApart (is_out c.args.arena.now.free) h.taken) (sym c.self.view_is) (part_left (is_out c.args.arena.now.free) c.args.self.now.taken (blocks_of c.args.self.now.retired) c.requires.held) in
    subst (λ (x : List Block). AreApart (is_out c.args.arena.now.free) (arrays_of x)) (sym c.deref.ensures.value) held

pub invariant_of-self : goal.invariant_of-self
invariant_of-self g c = (
  queue_cancelled c.self.inside.aside.items c.truncate.new.self.items c.self.inside.retired c.self.inside.time c.truncate.ensures.items c.self.invariant.0,
  counted_cancelled c.clear.new.self.items c.self.inside.taken.items c.self.inside.aside.items c.truncate.new.self.items c.self.inside.retired c.self.inside.taken_places c.self.inside.replaced_places c.self.inside.retired_places c.clear.ensures.items c.truncate.ensures.items c.self.invariant.0.many c.self.invariant.1,
)

pub returns-clause-gives : goal.returns-clause-gives
returns-clause-gives g c = subst (λ (h : Held). GivesBack h.taken c.args.arena.now c.give_all.new.arena) c.self.view_is (subst (λ (x : List Block). GivesBack (arrays_of x) c.args.arena.now c.give_all.new.arena) c.deref.ensures.value c.give_all.ensures.gives)

pub returns-clause-held : goal.returns-clause-held
returns-clause-held g c =
    let gives : GivesBack (arrays_of c.self.inside.taken.items) c.args.arena.now c.give_all.new.arena = subst (λ (x : List Block). GivesBack (arrays_of x) c.args.arena.now c.give_all.new.arena) c.deref.ensures.value c.give_all.ensures.gives in
    subst (λ (h : Held). AreHeldIn (is_out c.give_all.new.arena.free) h) (sym (seen_cancelled c.clear.new.self.items c.self.inside.taken.items c.self.inside.aside.items c.truncate.new.self.items c.self.inside.retired c.self.inside.time c.clear.ensures.items c.truncate.ensures.items c.self.invariant.0))
    (held_cancelled c.args.arena.now c.give_all.new.arena (seen c.self.inside.taken.items c.self.inside.aside.items c.self.inside.retired c.self.inside.time) gives (subst (λ (h : Held). AreApart (is_out c.args.arena.now.free) (h.taken ++ blocks_of h.retired)) (sym c.self.view_is) c.requires.held))

pub returns-clause-cancelled : goal.returns-clause-cancelled
returns-clause-cancelled g c = seen_cancelled c.clear.new.self.items c.self.inside.taken.items c.self.inside.aside.items c.truncate.new.self.items c.self.inside.retired c.self.inside.time c.clear.ensures.items c.truncate.ensures.items c.self.invariant.0 ∙ ap cancelled c.self.view_is
