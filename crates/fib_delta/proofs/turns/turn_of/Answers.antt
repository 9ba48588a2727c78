use Rattle.std.proofs.Common.{◌∙◌}
use Rattle.fib_delta.proofs.Turned.{set_is, remove_is}
use Rattle.fib_delta.proofs.turns.turn_of.Goals as goal

pub returns-in-Add : goal.returns-in-Add
returns-in-Add c = rw c.in-Add.is (c.set_turn.ensures ∙ set_is c.in-Add.prefix)

pub returns-in-Replace : goal.returns-in-Replace
returns-in-Replace c = rw c.in-Replace.is (c.set_turn-in-Replace.ensures ∙ set_is c.in-Replace.prefix)

pub returns-in-Remove : goal.returns-in-Remove
returns-in-Remove c = rw c.in-Remove.is (c.remove_turn.ensures ∙ remove_is c.in-Remove.prefix)
