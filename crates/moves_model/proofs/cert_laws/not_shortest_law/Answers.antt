use Rattle.moves_model.proofs.Whole.{not_shortest_law}
use Rattle.moves_model.proofs.cert_laws.not_shortest_law.Goals as goal

pub returns : goal.returns
returns c = not_shortest_law
