use Rattle.mrt_write.proofs.Held.{said_again}
use Rattle.mrt_write.proofs.saved_laws.replay_law.Goals as goal

pub returns : goal.returns
returns c = said_again
