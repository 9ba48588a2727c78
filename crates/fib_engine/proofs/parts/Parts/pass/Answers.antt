use Rattle.fib_engine.proofs.Carrying.{carried}
use Rattle.fib_engine.proofs.Staging.{passed_changes, passed_first, passed_sound, passed_takes}
use Rattle.fib_engine.proofs.parts.Parts.pass.Goals as goal

pub returns-clause-sound : goal.returns-clause-sound
returns-clause-sound c = passed_sound c.args.elem.now c.args.chosen.now c.args.self.now c.requires.chosen c.none.result c.requires.route c.requires.due c.none.ensures.changes c.none.ensures.first c.carry.new.self.candidates c.number_hop.new.hops.list (carried _ _ _ _ c.requires.chosen.in_room c.carry.ensures.candidates) c.number_hop.ensures

pub returns-clause-takes : goal.returns-clause-takes
returns-clause-takes c = passed_takes c.args.elem.now c.args.chosen.now c.args.self.now c.requires.chosen c.none.result c.requires.route c.requires.due c.none.ensures.changes c.none.ensures.first c.carry.new.self.candidates c.number_hop.new.hops.list (carried _ _ _ _ c.requires.chosen.in_room c.carry.ensures.candidates) c.number_hop.ensures

pub returns-clause-changes : goal.returns-clause-changes
returns-clause-changes c = passed_changes c.args.elem.now c.args.chosen.now c.args.self.now c.requires.chosen c.none.result c.requires.route c.requires.due c.none.ensures.changes c.none.ensures.first c.carry.new.self.candidates c.number_hop.new.hops.list (carried _ _ _ _ c.requires.chosen.in_room c.carry.ensures.candidates) c.number_hop.ensures

pub returns-clause-first : goal.returns-clause-first
returns-clause-first c = passed_first c.args.elem.now c.args.chosen.now c.args.self.now c.requires.chosen c.none.result c.requires.route c.requires.due c.none.ensures.changes c.none.ensures.first c.carry.new.self.candidates c.number_hop.new.hops.list (carried _ _ _ _ c.requires.chosen.in_room c.carry.ensures.candidates) c.number_hop.ensures
