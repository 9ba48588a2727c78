use Rattle.moves_model.proofs.Both.{shortest_in_both}
use Rattle.moves_model.proofs.router_laws.parts_law.Goals as goal

pub returns : goal.returns
returns c R T xs ys r t x y low high = shortest_in_both R T r t xs ys x y low high
