use Rattle.poptrie_update.proofs.Opened.{kept_fits}
use Rattle.poptrie_update.proofs.laws.step_law.Goals as goal

pub returns : goal.returns
returns c = kept_fits
