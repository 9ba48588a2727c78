use Rattle.std.proofs.Common.{◌∙◌}
use Rattle.fib_addr.proofs.HopLemmas.{same_is}
use Rattle.fib_engine.proofs.Numbering.{same_told}
use Rattle.fib_engine.proofs.numbers.is_same.Goals as goal

pub returns-in-Some-Some : goal.returns-in-Some-Some
returns-in-Some-Some c = same_told c.args.before.now c.args.after.now c.in-Some-Some.before c.in-Some-Some.after c.eq.result c.in-Some-Some.is-0 c.in-Some-Some.is-1 (c.eq.ensures ∙ same_is c.in-Some-Some.before c.in-Some-Some.after)
