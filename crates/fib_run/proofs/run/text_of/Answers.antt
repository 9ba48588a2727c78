use Rattle.std.proofs.Common.{ap}
use Rattle.std.specs.Prelude.{option_map}
use Rattle.fib_run.proofs.run.text_of.Goals as goal

pub text_of_load-requires-clause-alone : goal.text_of_load-requires-clause-alone
text_of_load-requires-clause-alone g c = ap (option_map (λ name. name.now)) c.in-None.is
