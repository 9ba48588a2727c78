use Rattle.fib_same.proofs.Told.{next_told}
use Rattle.fib_same.proofs.texts_laws.next_law.Goals as goal

pub returns : goal.returns
returns c = next_told
