use Rattle.fib_same.proofs.Told.{all_alike}
use Rattle.fib_same.proofs.texts_laws.alike_law.Goals as goal

pub returns : goal.returns
returns c = all_alike
