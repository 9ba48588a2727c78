use Rattle.moves_model.proofs.Whole.{near_shortest, near_count}
use Rattle.moves_model.proofs.cert_laws.cert_near_law.Goals as goal

pub returns : goal.returns
returns c = record { proved = near_shortest; count = near_count }
