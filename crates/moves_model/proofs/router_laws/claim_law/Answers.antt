use Rattle.moves_model.proofs.Claims.{claim_law}
use Rattle.moves_model.proofs.router_laws.claim_law.Goals as goal

pub returns : goal.returns
returns c = claim_law
