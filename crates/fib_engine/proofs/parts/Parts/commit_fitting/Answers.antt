use Rattle.std.proofs.Common.{map, ap, ◌∙◌}
use Rattle.fib_delta.specs.Views.{change_as}
use Rattle.fib_prefix.specs.declared.event.Elem.{Elem}
use Rattle.fib_engine.specs.declared.fitting.FittingPlan.{FittingPlan}
use Rattle.fib_engine.specs.declared.parts.Chosen.{Chosen}
use Rattle.fib_engine.specs.declared.parts.Waiting.{Waiting}
use Rattle.fib_engine.specs.declared.tables.EventChanges.{EventChanges}
use Rattle.fib_engine.proofs.Carrying.{carried}
use Rattle.fib_engine.proofs.Staging.{made_changes, made_first, made_sound, made_takes}
use Rattle.fib_engine.proofs.parts.Parts.commit_fitting.Goals as goal

abbrev waiting : Elem → Chosen → FittingPlan → Waiting
waiting e c f = record { elem = e; chosen = c; fitting = f }

pub returns-clause-sound : goal.returns-clause-sound
returns-clause-sound c =
    made_sound (waiting c.args.elem.now c.args.chosen.now c.args.fitting) c.args.self.now c.requires c.carry.new.self.candidates c.number_hop.new.hops.list c.commit-changes.new.self (carried _ _ _ _ c.requires.in_room c.carry.ensures.candidates) c.number_hop.ensures c.commit-changes.ensures.routes c.commit-changes.ensures.v4 c.commit-changes.ensures.v6

pub returns-clause-takes : goal.returns-clause-takes
returns-clause-takes c =
    made_takes (waiting c.args.elem.now c.args.chosen.now c.args.fitting) c.args.self.now c.requires c.carry.new.self.candidates c.number_hop.new.hops.list c.commit-changes.new.self (carried _ _ _ _ c.requires.in_room c.carry.ensures.candidates) c.number_hop.ensures c.commit-changes.ensures.routes c.commit-changes.ensures.v4 c.commit-changes.ensures.v6
    c.commit-changes.result.first c.moves_made-self.result (ap (λ (e : EventChanges). e.first) c.commit-changes.ensures.changes) c.moves_made-self.ensures

pub returns-clause-changes : goal.returns-clause-changes
returns-clause-changes c =
    ap (λ (e : EventChanges). map change_as e.changes.items) c.commit-changes.ensures.changes
    ∙ (c.requires.changes
    ∙ made_changes (waiting c.args.elem.now c.args.chosen.now c.args.fitting) c.args.self.now c.requires c.carry.new.self.candidates c.number_hop.new.hops.list c.commit-changes.new.self (carried _ _ _ _ c.requires.in_room c.carry.ensures.candidates) c.number_hop.ensures c.commit-changes.ensures.routes c.commit-changes.ensures.v4 c.commit-changes.ensures.v6)

pub returns-clause-first : goal.returns-clause-first
returns-clause-first c =
    ap (λ (e : EventChanges). e.first) c.commit-changes.ensures.changes
    ∙ (c.requires.first
    ∙ made_first (waiting c.args.elem.now c.args.chosen.now c.args.fitting) c.args.self.now c.requires c.carry.new.self.candidates c.number_hop.new.hops.list c.commit-changes.new.self (carried _ _ _ _ c.requires.in_room c.carry.ensures.candidates) c.number_hop.ensures c.commit-changes.ensures.routes c.commit-changes.ensures.v4 c.commit-changes.ensures.v6)
