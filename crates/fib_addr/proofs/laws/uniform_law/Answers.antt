use Rattle.fib_addr.proofs.UniformLemmas.{halves, joined, once, apart}
use Rattle.fib_addr.proofs.laws.uniform_law.Goals as goal

pub returns : goal.returns
returns c = record { halves = halves; joined = joined; once = once; apart = apart }
