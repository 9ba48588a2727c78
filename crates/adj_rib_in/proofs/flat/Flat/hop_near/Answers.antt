use Rattle.std.proofs.Common.{sym}
use Rattle.adj_rib_in.proofs.Flats.{near_hop}
use Rattle.adj_rib_in.proofs.flat.Flat.hop_near.Goals as goal

pub returns : goal.returns
returns c = near_hop c.args.hop.now c.in_ok-near.near.now c.args.self.now.hops.keys c.in_ok-slot.slot.hop (sym c.in_ok-near.ensures.key) c.if-ne.ensures
