use Rattle.made_input.proofs.MadeReading.{dump_read, updates_read}
use Rattle.made_input.proofs.made_laws.reading_law.Goals as goal

pub returns : goal.returns
returns c = record { dump = dump_read; updates = updates_read }
