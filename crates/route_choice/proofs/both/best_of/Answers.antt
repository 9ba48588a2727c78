use Rattle.std.proofs.Common.{sym}
use Rattle.route_choice.proofs.Best.{best_is}
use Rattle.route_choice.proofs.both.best_of.Goals as goal

pub returns : goal.returns
returns c = c.best.ensures c.args.paths.now.entries c.requires.apart (best_is c.args.paths.now.entries c.args.ranks.now.keys c.args.prefix.now c.args.but c.requires.indexed c.best_but-other.ensures.ordered c.best_but-other.result (sym c.best_but-other.ensures.first))
