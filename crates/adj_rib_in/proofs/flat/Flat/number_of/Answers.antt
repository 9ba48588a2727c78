use Rattle.adj_rib_in.proofs.Flats.{number_told}
use Rattle.adj_rib_in.proofs.flat.Flat.number_of.Goals as goal

pub returns-in-None : goal.returns-in-None
returns-in-None c = number_told c.args.peer.now c.args.self.now.peers.keys c.get_index_of.result c.get_index_of.ensures.index
