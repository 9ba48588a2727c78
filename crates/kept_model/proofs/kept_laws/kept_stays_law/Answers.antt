use Rattle.kept_model.proofs.FeedStays.{kept_stays, kept_changes_stay, load_stays}
use Rattle.kept_model.proofs.kept_laws.kept_stays_law.Goals as goal

pub returns : goal.returns
returns c = record {
  load = load_stays;
  table = λ every n hops more held T elems a. kept_stays every hops more n held T elems a;
  changes = λ every n hops more held T elems a. kept_changes_stay every hops more n held T elems a;
}
