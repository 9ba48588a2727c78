use Rattle.std.proofs.Common.{◌≡◌, false}
use Rattle.part_count.proofs.load.load_events.Given as goal

abbrev pub invariant-loop-event : goal.invariant-loop-event
invariant-loop-event l = l.engine.loaded ≡ false
