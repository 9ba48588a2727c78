use Rattle.std.proofs.Common.{ap, ◌∙◌, Some}
use Rattle.fib_addr.proofs.GroupTexts.{address_of_hex, no_hex}
use Rattle.fib_addr.proofs.ipv6.read_ipv6.Goals as goal

pub returns-in-Ok : goal.returns-in-Ok
returns-in-Ok c = ap Some c.v6.ensures ∙ address_of_hex c.args.text.now c.in-Ok.addr c.to_bits.result c.requires c.in-Ok.ensures c.to_bits.ensures

pub returns-in-Err : goal.returns-in-Err
returns-in-Err c = no_hex c.args.text.now c.in-Err.ensures
