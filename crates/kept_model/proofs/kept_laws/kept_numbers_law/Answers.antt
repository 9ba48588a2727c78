use Rattle.kept_model.proofs.FeedSteps.{numbered_along}
use Rattle.kept_model.proofs.kept_laws.kept_numbers_law.Goals as goal

pub returns : goal.returns
returns c = numbered_along
