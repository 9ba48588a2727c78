use Rattle.moves_model.proofs.Nearest.{nearest_placed, nearest_shortest}
use Rattle.moves_model.proofs.feed_laws.nearest_law.Goals as goal

pub returns : goal.returns
returns c = record {
  placed = λ f R T p s. nearest_placed f R T (p, s);
  shortest = λ f R T p s. nearest_shortest f R T (p, s);
}
