use Rattle.std.proofs.Common.{◌≡◌, map}
use Rattle.table_model.specs.declared.family.Family.{Family}
use Rattle.table_model.specs.declared.family.Family.TheVariants.{V4, V6}
use Rattle.table_model.specs.Entries.{in_order}
use Rattle.fib_addr.specs.Views.{entry_as}
use Rattle.fib_engine.specs.Tables.{Both, labels_of, only}
use Rattle.fib_engine.proofs.tables.Tables.load.Goals as goal

pub returns-clause-given : goal.returns-clause-given
returns-clause-given c = by
  where
    by : (f : Family) → (labels_of f (let b : Both = record { v4 = c.in_ok-v4.v4; v6 = c.in_ok-v6.v6 } in b)).routes ≡ in_order (only f (map entry_as c.args.routes.now))
    by V4 = c.in_ok-v4.ensures.routes
    by V6 = c.in_ok-v6.ensures.routes
