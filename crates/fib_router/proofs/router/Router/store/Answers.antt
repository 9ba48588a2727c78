use Rattle.std.proofs.Common.{subst}
use Rattle.table_model.specs.declared.family.Family.{Family}
use Rattle.poptrie_update.specs.Cells.{KeepsAllReached}
use Rattle.fib_router.specs.Lives.{live_of}
use Rattle.fib_router.specs.Router.{Routing}
use Rattle.fib_router.proofs.Stepping.{each_by, reached_self}
use Rattle.fib_router.proofs.router.Router.store.Goals as goal

pub returns-in-Some-clause-cells : goal.returns-in-Some-clause-cells
returns-in-Some-clause-cells c =
    subst (λ (r : Routing). (f : Family) → KeepsAllReached 0 (live_of f r.lives) (live_of f c.store.new.self)) c.self.view_is
    (each_by (KeepsAllReached 0) (reached_self 0) _ c.self.inside.lives c.store.new.self c.store.ensures.cells c.store.ensures.other)
