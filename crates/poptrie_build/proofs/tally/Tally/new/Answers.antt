use Rattle.std.proofs.Common.{refl}
use Rattle.poptrie_build.proofs.Tallying.{tally_start}
use Rattle.poptrie_build.proofs.tally.Tally.new.Goals as goal

pub returns-clause-tally : goal.returns-clause-tally
returns-clause-tally c = λ g N L. tally_start _ g N L refl refl refl refl refl
