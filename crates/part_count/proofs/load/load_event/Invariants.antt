use Rattle.std.proofs.Common.{◌≡◌, false}
use Rattle.part_count.proofs.load.load_event.Given as goal

abbrev pub invariant-loop-elem : goal.invariant-loop-elem
invariant-loop-elem l = l.engine.loaded ≡ false
