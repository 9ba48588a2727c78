use Rattle.std.proofs.Common.{◌≤◌, ◌∙◌, ap, sym, subst, ◌++◌, ◌≡◌}
use Rattle.buddy_arena.specs.Arrays.{AreApart}
use Rattle.buddy_arena.specs.Places.{is_out}
use Rattle.buddy_arena.specs.Blocks.{Held, released, blocks_of, early, AreHeldIn, GivesBack, late}
use Rattle.buddy_arena.proofs.Parting.{part_right}
use Rattle.buddy_arena.proofs.Queue.{take_ascends, queue_released, seen_released, held_released, all_released, cut_parts}
use Rattle.buddy_arena.proofs.Beside.{counted_released}
use Rattle.buddy_arena.proofs.blocks.Blocks.release.Goals as goal

pub release-given-requires-clause-out : goal.release-given-requires-clause-out
release-given-requires-clause-out g c = subst (λ (h : Held). AreApart (is_out c.args.arena.now.free) (blocks_of h.retired)) (sym c.self.view_is) (part_right (is_out c.args.arena.now.free) c.args.self.now.taken (blocks_of c.args.self.now.retired) c.requires.held.with_taken)

pub release-given-requires-clause-in_order : goal.release-given-requires-clause-in_order
release-given-requires-clause-in_order g c = take_ascends c.self.inside.retired c.self.inside.aside.items c.self.invariant.0.in_order

pub invariant_of-self : goal.invariant_of-self
invariant_of-self g c = (
  queue_released c.self.inside.aside.items c.release-given.new.aside.items c.self.inside.retired c.release-given.result c.self.inside.time c.release-given.ensures.few c.release-given.ensures.rest c.self.invariant.0,
  counted_released c.args.arena.now c.release-given.new.arena c.self.inside.taken.items c.self.inside.aside.items c.release-given.new.aside.items c.self.inside.retired c.release-given.result c.self.inside.taken_places c.self.inside.replaced_places c.self.inside.retired_places c.saturating_sub-self-inside.result c.free_total-free.result c.free_total.result c.requires.sized
      (subst (λ (h : Held). AreApart (is_out c.args.arena.now.free) (blocks_of h.retired)) (sym c.self.view_is) (part_right (is_out c.args.arena.now.free) c.args.self.now.taken (blocks_of c.args.self.now.retired) c.requires.held.with_taken))
      c.release-given.ensures.few c.release-given.ensures.rest c.release-given.ensures.gives c.free_total-free.ensures c.free_total.ensures c.saturating_sub-self-inside.ensures c.self.invariant.1,
)

pub returns-clause-gives : goal.returns-clause-gives
returns-clause-gives g c = subst (λ (h : Held). GivesBack (blocks_of (early c.args.since h.retired)) c.args.arena.now c.release-given.new.arena) c.self.view_is (subst (λ x. GivesBack (blocks_of x) c.args.arena.now c.release-given.new.arena) (sym c.release-given.ensures.cut.gone) c.release-given.ensures.gives)

pub returns-clause-held : goal.returns-clause-held
returns-clause-held g c =
    subst (λ (h : Held). AreHeldIn (is_out c.release-given.new.arena.free) h) (sym (seen_released c.self.inside.taken.items c.self.inside.aside.items c.release-given.new.aside.items c.self.inside.retired c.release-given.result c.self.inside.time c.args.since c.release-given.ensures.few c.release-given.ensures.rest c.release-given.ensures.cut))
    (held_released c.args.arena.now c.release-given.new.arena c.self.inside.taken.items c.self.inside.aside.items c.self.inside.retired c.release-given.result c.self.inside.time c.args.since c.release-given.ensures.cut c.release-given.ensures.gives (subst (λ (h : Held). AreHeldIn (is_out c.args.arena.now.free) h) (sym c.self.view_is) c.requires.held))

pub returns-clause-released : goal.returns-clause-released
returns-clause-released g c = seen_released c.self.inside.taken.items c.self.inside.aside.items c.release-given.new.aside.items c.self.inside.retired c.release-given.result c.self.inside.time c.args.since c.release-given.ensures.few c.release-given.ensures.rest c.release-given.ensures.cut ∙ ap (released c.args.since) c.self.view_is

pub returns-clause-all : goal.returns-clause-all
returns-clause-all g c = λ l.
    ap (λ (h : Held). h.retired) (seen_released c.self.inside.taken.items c.self.inside.aside.items c.release-given.new.aside.items c.self.inside.retired c.release-given.result c.self.inside.time c.args.since c.release-given.ensures.few c.release-given.ensures.rest c.release-given.ensures.cut)
    ∙ all_released c.self.inside.taken.items c.self.inside.aside.items c.self.inside.retired c.self.inside.time c.args.since (subst (λ (h : Held). h.time ≤ c.args.since) (sym c.self.view_is) l) c.self.invariant.0

pub returns-clause-first : goal.returns-clause-first
returns-clause-first g c = subst (λ (h : Held). h.retired ≡ early c.args.since h.retired ++ late c.args.since h.retired) c.self.view_is (cut_parts _ c.args.since c.release-given.result c.release-given.ensures.cut)
