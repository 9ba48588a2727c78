use Rattle.moves_model.proofs.Whole.{are_shortest, just_so_many}
use Rattle.moves_model.proofs.cert_laws.soundness_law.Goals as goal

pub returns : goal.returns
returns c = record { shortest = are_shortest; reached = just_so_many }
