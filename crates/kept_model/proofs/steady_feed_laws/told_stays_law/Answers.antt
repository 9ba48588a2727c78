use Rattle.kept_model.proofs.Told.{events_stay, load_told_stays}
use Rattle.kept_model.proofs.steady_feed_laws.told_stays_law.Goals as goal

pub returns : goal.returns
returns c = record {
  load = load_told_stays;
  events = λ steady every n hops more held T elems a. events_stay steady every hops more n held T elems a;
}
