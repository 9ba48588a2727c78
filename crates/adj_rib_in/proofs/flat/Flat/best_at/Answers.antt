use Rattle.std.proofs.Common.{◌∙◌, ap}
use Rattle.adj_rib_in.specs.Bests.{candidate_on, best_step}
use Rattle.adj_rib_in.proofs.BestSlots.{step_there}
use Rattle.adj_rib_in.proofs.flat.Flat.best_at.Goals as goal

pub returns-in-Some-clause-best : goal.returns-in-Some-clause-best
returns-in-Some-clause-best c = c.better_slot.ensures.best ∙ step_there c.args.self.now.peers.keys c.args.self.now.hops.keys c.args.row c.args.but.now _ c.in-Some.slot (candidate_on c.args.self.now c.args.best) c.in-Some.ensures.slot c.in-Some.ensures.row

pub returns-in-None-clause-best : goal.returns-in-None-clause-best
returns-in-None-clause-best c = ap (λ o. best_step c.args.self.now.peers.keys c.args.self.now.hops.keys c.args.row c.args.but.now o (candidate_on c.args.self.now c.args.best)) c.in-None.ensures.slot
