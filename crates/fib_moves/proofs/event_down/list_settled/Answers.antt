use Rattle.std.proofs.Common.{refl}
use Rattle.fib_addr.specs.Views.{prefix_as}
use Rattle.fib_moves.proofs.Settled.{settled_listed}
use Rattle.fib_moves.proofs.event_down.list_settled.Goals as goal

pub returns : goal.returns
returns c =
    settled_listed c.args.region.now c.args.inherited.had c.args.inherited.gets c.requires.table c.requires.right (prefix_as c.args.prefix) c.settled_hop.result c.args.out.now
    (record { had = c.args.out.now.had; gets = c.push_entry.new.out }) c.settled_hop.ensures refl c.in_ok-push_entry.ensures
