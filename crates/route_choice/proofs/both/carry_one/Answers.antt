use Rattle.route_choice.specs.Paths.{key_in, attrs_in}
use Rattle.adj_rib_in.proofs.Parts.{over_offers, over_apart}
use Rattle.route_choice.proofs.Spaces.{no_slot_there}
use Rattle.route_choice.proofs.both.carry_one.Goals as goal

pub returns-in-None-clause-apart : goal.returns-in-None-clause-apart
returns-in-None-clause-apart c = let e = c.args.plan.now.elem in over_apart _ c.args.paths.now.entries _ (key_in e) (attrs_in e) c.requires.apart (no_slot_there c.args.flat.now c.args.plan.now c.in-None.is c.requires.space) c.carry_out.ensures.offers

pub returns-in-None-clause-offers : goal.returns-in-None-clause-offers
returns-in-None-clause-offers c = let e = c.args.plan.now.elem in over_offers _ c.args.paths.now.entries _ (key_in e) (attrs_in e) (no_slot_there c.args.flat.now c.args.plan.now c.in-None.is c.requires.space) c.carry_out.ensures.offers
