use Rattle.fib_addr.proofs.OneAnswer.{one_answer_part}
use Rattle.fib_addr.proofs.region_laws.part_law.Goals as goal

pub returns : goal.returns
returns c = one_answer_part
