use Rattle.fib_same.proofs.Told.{all_before}
use Rattle.fib_same.proofs.texts_laws.least_law.Goals as goal

pub returns : goal.returns
returns c = all_before
