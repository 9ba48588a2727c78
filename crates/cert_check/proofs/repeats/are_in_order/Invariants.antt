use Rattle.cert_check.proofs.Later.{InOrderTo}
use Rattle.cert_check.proofs.repeats.are_in_order.Given as goal

abbrev pub invariant-loop-i : goal.invariant-loop-i
invariant-loop-i l = InOrderTo l.entries l.i
