use Rattle.std.proofs.Common.{sym}
use Rattle.adj_rib_in.proofs.Flats.{near_number}
use Rattle.adj_rib_in.proofs.flat.Flat.number_near.Goals as goal

pub returns : goal.returns
returns c = near_number c.args.peer.now c.in_ok-near.near.now c.args.self.now.peers.keys c.in_ok-next.next.peer (sym c.in_ok-near.ensures.key) c.if-ne.ensures
