use Rattle.kept_model.specs.Between.{between}
use Rattle.kept_model.proofs.Places.{in_places}
use Rattle.fib_run.proofs.order.order_event.Goals as goal

pub returns-then-steady-clause-told : goal.returns-then-steady-clause-told
returns-then-steady-clause-told c = λ T U V e l.
    rw c.if-steady.true (c.put_event_in_steady_order.ensures.steady (between T U) (between U V) e l (in_places T U) (in_places U V))
