use Rattle.moves_model.proofs.Told.{shortest_both}
use Rattle.moves_model.proofs.router_laws.both_law.Goals as goal

pub returns : goal.returns
returns c R T steady r t = shortest_both R T r t steady
