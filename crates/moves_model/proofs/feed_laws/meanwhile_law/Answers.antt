use Rattle.moves_model.proofs.Meanwhile.{meanwhile}
use Rattle.moves_model.proofs.feed_laws.meanwhile_law.Goals as goal

pub returns : goal.returns
returns c = meanwhile
