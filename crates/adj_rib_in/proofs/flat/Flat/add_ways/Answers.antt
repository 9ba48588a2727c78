use Rattle.adj_rib_in.proofs.Gathers.{no_ways}
use Rattle.adj_rib_in.proofs.flat.Flat.add_ways.Goals as goal

pub returns-in-None : goal.returns-in-None
returns-in-None c = no_ways c.args.self.now c.args.prefix.now c.args.ways.now c.in-None.ensures
