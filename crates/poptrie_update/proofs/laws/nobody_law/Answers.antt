use Rattle.poptrie_update.proofs.Opened.{none_fits}
use Rattle.poptrie_update.proofs.laws.nobody_law.Goals as goal

pub returns : goal.returns
returns c = none_fits
