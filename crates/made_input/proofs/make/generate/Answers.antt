use Rattle.std.proofs.Common.{length, ap, arith}
use Rattle.made_input.proofs.Following.{routes_count, updates_made}
use Rattle.made_input.proofs.make.generate.Goals as goal

pub make_updates-requires : goal.make_updates-requires
make_updates-requires c = omega (arith, ap length c.deref.ensures.value, routes_count c.new-draws.result.state c.args.count c.in_ok-dump.routes.items c.in_ok-dump.ensures.routes)

pub returns-clause-updates : goal.returns-clause-updates
returns-clause-updates c =
    updates_made c.new-draws.result.state c.make_dump.new.from.state c.args.seed c.args.count c.deref.result.now c.in_ok-dump.routes.items c.in_ok-updates.updates.items c.new-draws.ensures c.deref.ensures.value c.in_ok-dump.ensures.routes c.in_ok-dump.ensures.state c.in_ok-updates.ensures
