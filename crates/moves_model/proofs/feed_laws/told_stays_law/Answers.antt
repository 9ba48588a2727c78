use Rattle.std.proofs.Common.{false}
use Rattle.moves_model.proofs.Reported.{table_from_stays, told_from_stays, moves_from_stay}
use Rattle.moves_model.proofs.feed_laws.told_stays_law.Goals as goal

pub returns : goal.returns
returns c = record {
  table = λ fewest every n hops more held T elems a. table_from_stays fewest false every hops more n held T elems a;
  told = λ fewest steady every n hops more held T elems a. told_from_stays fewest steady every hops more n held T elems a;
  moves = λ fewest every n hops more held T elems a. moves_from_stay fewest false every hops more n held T elems a;
}
