use Rattle.moves_model.proofs.Reported.{event_sum}
use Rattle.moves_model.proofs.Meanwhile.{event_answers}
use Rattle.moves_model.proofs.feed_laws.event_law.Goals as goal

pub returns : goal.returns
returns c = record {
  sum = λ fewest steady every hops n held T elem e p s. event_sum fewest steady every hops n held T elem e (p, s);
  answers = λ fewest every hops n held T elem h e p s a. event_answers fewest every hops n held T elem e (p, s) h a;
}
