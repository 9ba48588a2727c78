use Rattle.router_example.proofs.Keeping.{none_open}
use Rattle.router_example.proofs.lookups.Lookups.new.Goals as goal

pub returns : goal.returns
returns c = λ r t4 t6. none_open r (record { v4 = c.in_ok-v4.v4; v6 = c.in_ok-v6.v6 }) c.in_ok-v4.ensures.fits c.in_ok-v6.ensures.fits t4 t6
