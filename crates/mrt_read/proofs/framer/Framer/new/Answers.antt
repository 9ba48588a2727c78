use Rattle.std.proofs.Common.{[], refl}
use Rattle.wire_model.proofs.More.{starts_so}
use Rattle.mrt_read.proofs.FramerStanding.{stands_on}
use Rattle.mrt_read.proofs.framer.Framer.new.Goals as goal

pub returns-clause-stands : goal.returns-clause-stands
returns-clause-stands c = stands_on [] [] _ refl refl (rw c.new.ensures.items refl) (rw c.new.ensures.items starts_so)
