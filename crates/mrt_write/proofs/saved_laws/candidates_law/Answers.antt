use Rattle.mrt_write.proofs.Held.{held_again}
use Rattle.mrt_write.proofs.saved_laws.candidates_law.Goals as goal

pub returns : goal.returns
returns c = held_again
