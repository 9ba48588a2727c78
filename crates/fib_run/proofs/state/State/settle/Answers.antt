use Rattle.std.proofs.Common.{refl}
use Rattle.fib_run.proofs.state.State.settle.Goals as goal

pub returns : goal.returns
returns c = record {
  sizes = c.settle-final_fib.ensures.sizes;
  routes = c.settle-final_fib.ensures.routes;
  table = c.settle-final_fib.ensures.table;
  hops = c.settle-final_fib.ensures.hops;
  changes = refl;
  moves = refl;
}
