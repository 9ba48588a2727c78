use Rattle.moves_model.proofs.Changes.{changes_dist}
use Rattle.moves_model.proofs.cert_laws.count_law.Goals as goal

pub returns : goal.returns
returns c = changes_dist
