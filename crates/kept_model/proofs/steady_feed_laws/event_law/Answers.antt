use Rattle.std.proofs.Common.{true}
use Rattle.kept_model.proofs.Told.{event_sum}
use Rattle.kept_model.proofs.Events.{event_answers}
use Rattle.kept_model.proofs.steady_feed_laws.event_law.Goals as goal

pub returns : goal.returns
returns c = record {
  sum = λ every hops n held T elem e p s. event_sum true every hops n held T elem e (p, s);
  answers = λ every hops n held T elem h e p s a. event_answers every hops n held T elem e (p, s) h a;
}
