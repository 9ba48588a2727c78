use Rattle.std.proofs.Common.{arith}
use Rattle.fib_rov.proofs.More.{too_short}
use Rattle.fib_rov.proofs.line.is_maxlen.Goals as goal

pub returns-else-prefix-maxlen : goal.returns-else-prefix-maxlen
returns-else-prefix-maxlen c = too_short c.args.prefix.now c.args.maxlen (omega (arith, c.if-prefix-maxlen.false))
