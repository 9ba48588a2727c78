use Rattle.std.proofs.Common.{◌≡◌, drop}
use Rattle.fib_io.specs.Held.{held_under}
use Rattle.fib_io.proofs.memory_inputs.find_octets.Given as goal

abbrev pub invariant-loop-key : goal.invariant-loop-key
invariant-loop-key l = held_under (drop l.key-index l.names) l.name ≡ held_under l.names l.name
