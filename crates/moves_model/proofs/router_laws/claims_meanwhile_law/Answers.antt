use Rattle.moves_model.proofs.Told.{steadily_both}
use Rattle.moves_model.proofs.router_laws.claims_meanwhile_law.Goals as goal

pub returns : goal.returns
returns c = steadily_both
