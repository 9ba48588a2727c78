use Rattle.std.proofs.Common.{◌∙◌, sym}
use Rattle.std.proofs.lemmas.Result.{on_ok_weaker}
use Rattle.adj_rib_in.proofs.Gathers.{way_of_slot, no_slot_way}
use Rattle.adj_rib_in.proofs.flat.Flat.add_at.Goals as goal

pub returns-in-Some : goal.returns-in-Some
returns-in-Some c = on_ok_weaker c.add_way.result (λ h v. h v ∙ way_of_slot c.args.self.now.peers.keys c.args.self.now.hops.keys c.args.row _ c.in-Some.slot v _ (sym c.in-Some.ensures.slot) c.in-Some.ensures.row) c.add_way.ensures

pub returns-in-None : goal.returns-in-None
returns-in-None c = λ v. no_slot_way c.args.self.now.peers.keys c.args.self.now.hops.keys c.args.row _ v _ (sym c.in-None.ensures.slot)
