use Rattle.std.proofs.Common.{◌≡◌, Option, None, ap, sym, subst, ◌∙◌}
use Rattle.std.specs.Prelude.{option_map}
use Rattle.table_model.specs.Address.{Prefix}
use Rattle.fib_addr.specs.Views.{prefix_as}
use Rattle.orig_tree.specs.Views.{Labels}
use Rattle.smalta_keep.specs.KnownBelow.{IsKnown}
use Rattle.smalta_keep.specs.Known.{IsKnownHeld, held_place}
use Rattle.fib_addr.specs.declared.prefix.Prefix as code_prefix
use Rattle.fib_addr.specs.declared.entry.Hop as code_hop
use Rattle.smalta_keep.specs.declared.routes.Former.{Former}
use Rattle.smalta_keep.specs.Routes.{undone_in}
use Rattle.smalta_keep.specs.Views.{place_in, with_planned}
use Rattle.smalta_keep.proofs.Planned.{tells, planned, places, nothing_planned, nothing_told}
use Rattle.smalta_keep.proofs.Knowing.{known_after, known_more}
use Rattle.smalta_keep.proofs.Holding.{held_as, held_family, held_kept, known_noted}
use Rattle.smalta_keep.proofs.keep.Keep.plan.Goals as goal

pub invariant_of-self : goal.invariant_of-self
invariant_of-self c =
    let k = c.self.inside.tree in
    let l = c.plan_moves.new.tree in
    let m = c.plan_moves.ensures.keeps in
    let route = c.args.route in
    let due = c.args.snapshot in
    let fewest = c.args.fewest in
    let u = c.keep.new.self.tree in
    let t = c.expect.new.self.tree in
    let v = c.plan_moves.new.dirty.tree in
    let known : IsKnown k t = known_more k u t c.expect.ensures (held_kept (option_map prefix_as c.self.inside.held) k c.self.inside.dirty.tree u c.keep.ensures c.self.invariant) in
    let is : option_map prefix_as c.prefix_held-self-inside.result ≡ held_place due fewest (place_in route) =
    ap (option_map prefix_as) c.prefix_held-self-inside.ensures ∙ (held_as due fewest c.planned_prefix-at.result ∙ ap (held_place due fewest) (places route c.planned_prefix-at.result c.planned_prefix-at.ensures))
    in
    subst (λ (at : Option Prefix). IsKnownHeld at l v) (sym is) (known_noted due fewest route k l t v c.family-family.ensures.order.0 (λ r e. c.requires.family r e ∙ sym (ap (λ (l : Labels). l.family) c.self.view_is)) c.in-Ok.ensures.marked known m.family c.in-Ok.ensures.set.routes m.entries)

pub keep-requires : goal.keep-requires
keep-requires c = held_family c.self.inside.held c.self.inside.tree c.self.inside.dirty.tree c.self.invariant

pub returns-in-Ok-clause-planned : goal.returns-in-Ok-clause-planned
returns-in-Ok-clause-planned c = planned c.plan_moves.new.tree c.args.fewest (place_in c.args.route) c.args.snapshot c.in-Ok.repair c.in-Ok.ensures.moved c.in-Ok.ensures.set.held

pub returns-in-Ok-clause-moved : goal.returns-in-Ok-clause-moved
returns-in-Ok-clause-moved c = tells c.plan_moves.new.tree c.args.fewest (place_in c.args.route) c.args.snapshot c.in-Ok.repair c.in-Ok.ensures.moved

pub returns-then-changes_nothing-clause-routes : goal.returns-then-changes_nothing-clause-routes
returns-then-changes_nothing-clause-routes c = ap (λ (r : Option (code_prefix.Prefix × code_hop.Hop)). with_planned r c.args.self.now.routes) (sym (c.changes_nothing.ensures.route c.if-changes_nothing.true))

pub returns-then-changes_nothing-clause-planned : goal.returns-then-changes_nothing-clause-planned
returns-then-changes_nothing-clause-planned c =
    let n = c.nothing.ensures in
    nothing_planned c.args.self.now c.nothing.result n.former n.reach n.due n.repair n.snapshot

pub returns-then-changes_nothing-clause-moved : goal.returns-then-changes_nothing-clause-moved
returns-then-changes_nothing-clause-moved c =
    let n = c.nothing.ensures in
    let x = c.changes_nothing.ensures in
    let t = c.if-changes_nothing.true in
    nothing_told c.args.self.now c.args.fewest c.args.route c.args.snapshot c.nothing.result (x.route t) (x.snapshot t) n.repair n.snapshot

pub returns-then-changes_nothing-clause-undone : goal.returns-then-changes_nothing-clause-undone
returns-then-changes_nothing-clause-undone c = ap (λ (o : Option Former). undone_in o c.args.self.now.routes) c.nothing.ensures.former

pub plan_moves-requires-clause-known : goal.plan_moves-requires-clause-known
plan_moves-requires-clause-known c =
    let k = c.self.inside.tree in
    let u = c.keep.new.self.tree in
    known_more k u c.expect.new.self.tree c.expect.ensures (held_kept (option_map prefix_as c.self.inside.held) k c.self.inside.dirty.tree u c.keep.ensures c.self.invariant)

pub invariant_of-self-in-Err : goal.invariant_of-self-in-Err
invariant_of-self-in-Err c =
    let k = c.self.inside.tree in
    let u = c.keep.new.self.tree in
    let t = c.expect.new.self.tree in
    let v = c.plan_moves.new.dirty.tree in
    let known : IsKnown k t = known_more k u t c.expect.ensures (held_kept (option_map prefix_as c.self.inside.held) k c.self.inside.dirty.tree u c.keep.ensures c.self.invariant) in
    known_after None k c.trim_at.new.tree v (c.trim_at.ensures.family ∙ c.plan_moves.ensures.keeps.family) (c.trim_at.ensures.routes ∙ c.in-Err.ensures.err) (c.trim_at.ensures.entries ∙ c.plan_moves.ensures.keeps.entries) (known_more k t v c.in-Err.ensures.dirty known)
