use Rattle.fib_addr.proofs.Prefixes.{all_one, two_none}
use Rattle.fib_addr.proofs.region_laws.table_law.Goals as goal

pub returns : goal.returns
returns c = record { one = all_one; none = two_none }
