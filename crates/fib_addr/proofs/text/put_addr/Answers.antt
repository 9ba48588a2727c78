use Rattle.std.proofs.Common.{ap, ◌∙◌, ◌++◌, drop, refl}
use Rattle.fib_addr.proofs.Octets.{address_written}
use Rattle.fib_addr.proofs.text.put_addr.Goals as goal

pub returns-in-V4-clause-text : goal.returns-in-V4-clause-text
returns-in-V4-clause-text c =
    c.put_ipv4.ensures.text
    ∙ ap (λ xs. xs ++ drop c.args.end c.args.out.now) (address_written c.args.addr.now.family c.args.addr.now.bits _ _ c.in-V4.is c.to_be_bytes.ensures refl)
