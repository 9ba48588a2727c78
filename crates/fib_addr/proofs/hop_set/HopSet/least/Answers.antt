use Rattle.std.proofs.Common.{ap, ◌∙◌}
use Rattle.std.specs.List.{slice_get}
use Rattle.fib_addr.proofs.Merging.{least_is}
use Rattle.fib_addr.proofs.hop_set.HopSet.least.Goals as goal

pub returns-in-Some : goal.returns-in-Some
returns-in-Some c = least_is c.in-Some.hop.now c.args.self.now c.as_slice.ensures.order (c.in-Some.ensures.value ∙ ap (λ z. slice_get z 0) c.as_slice.ensures.value)
