use Rattle.mrt_write.proofs.Records.{checkpoint_read}
use Rattle.mrt_write.proofs.saved_laws.reading_law.Goals as goal

pub returns : goal.returns
returns c = checkpoint_read
