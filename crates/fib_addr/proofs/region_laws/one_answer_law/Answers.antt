use Rattle.fib_addr.proofs.OneAnswer.{one_answer_is, one_answer_from}
use Rattle.fib_addr.proofs.Differing.{differ_from, differ_none}
use Rattle.fib_addr.proofs.region_laws.one_answer_law.Goals as goal

pub returns : goal.returns
returns c = record { one = λ d f h. (one_answer_is d f h, one_answer_from d f h); none = λ d f. (differ_from d f, differ_none d f) }
