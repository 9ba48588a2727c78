use Rattle.kept_model.proofs.Tables.{load, later, all}
use Rattle.kept_model.proofs.feed_laws.feed_sum_law.Goals as goal

pub returns : goal.returns
returns c = record { load = load; later = later; all = all }
