use Rattle.adj_rib_in.proofs.Sessions.{no_walk}
use Rattle.adj_rib_in.proofs.flat.Flat.add_paths_of.Goals as goal

pub returns-in-None : goal.returns-in-None
returns-in-None c = no_walk c.args.self.now c.args.peer.now _ c.in-None.ensures
