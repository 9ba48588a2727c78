use Rattle.std.proofs.Common.{◌≤◌, arith, decimal, length}
use Rattle.std.proofs.lemmas.Fmt.{length-decimal-le}
use Rattle.fib_addr.proofs.text.put_octet.Goals as goal

pub write_digits-requires : goal.write_digits-requires
write_digits-requires c =
    let short : length (decimal c.from.result) ≤ 3 = length-decimal-le 3 c.from.result (omega arith) (omega arith) (omega arith) in
    (omega (arith, short), omega arith)

pub returns-clause-start : goal.returns-clause-start
returns-clause-start c =
    let short : length (decimal c.from.result) ≤ 3 = length-decimal-le 3 c.from.result (omega arith) (omega arith) (omega arith) in
    omega (arith, short)
