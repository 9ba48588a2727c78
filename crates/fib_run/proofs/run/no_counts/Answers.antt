use Rattle.std.proofs.Common.{ap, map, refl}
use Rattle.fib_report.specs.Views.{invalid_as}
use Rattle.fib_run.proofs.run.no_counts.Goals as goal

pub returns : goal.returns
returns c = record { records = refl; skipped = refl; treated = refl; events = refl; invalid = ap (map invalid_as) c.new.ensures.items }
