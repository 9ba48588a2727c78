use Rattle.std.proofs.Common.{refl}
use Rattle.mrt_read.proofs.Standing.{stands_at_start}
use Rattle.mrt_read.proofs.reader.Reader.new.Goals as goal

pub returns-clause-stands : goal.returns-clause-stands
returns-clause-stands c = stands_at_start _ refl c.new.ensures.nothing refl refl refl refl
