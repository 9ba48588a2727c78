use Rattle.adj_rib_in.proofs.Betters.{best_none}
use Rattle.adj_rib_in.proofs.flat.Flat.best.Goals as goal

pub returns-in-None : goal.returns-in-None
returns-in-None c = best_none c.args.self.now c.args.prefix.now c.args.but c.args.other c.in-None.ensures
