use Rattle.fib_addr.proofs.Numbers.{IsReadTo}
use Rattle.fib_addr.proofs.text.read_digits.Given as goal

abbrev pub invariant-loop-octet : goal.invariant-loop-octet
invariant-loop-octet l = IsReadTo l.text l.octet-index l.number
