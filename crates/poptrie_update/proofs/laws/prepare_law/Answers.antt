use Rattle.poptrie_update.proofs.Opened.{since_fits}
use Rattle.poptrie_update.proofs.laws.prepare_law.Goals as goal

pub returns : goal.returns
returns c = since_fits
