use Rattle.std.proofs.Common.{refl}
use Rattle.fib_run.proofs.AskReading.{reader_starts}
use Rattle.fib_run.proofs.asks.AskReader.new.Goals as goal

pub returns : goal.returns
returns c = reader_starts _ c.new.ensures.items c.new-2.ensures.items refl
