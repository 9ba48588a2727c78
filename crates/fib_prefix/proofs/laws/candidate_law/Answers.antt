use Rattle.fib_prefix.proofs.Cands.{of_octets}
use Rattle.fib_prefix.proofs.laws.candidate_law.Goals as goal

pub returns : goal.returns
returns c = of_octets
