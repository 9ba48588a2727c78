use Rattle.poptrie_update.proofs.Going.{go_fits}
use Rattle.router_example.proofs.lookups.finish.Goals as goal

pub returns-in-Some : goal.returns-in-Some
returns-in-Some c = record { on = go_fits c.args.number c.args.live.now c.loop.lookups c.go.new.self c.requires.showing c.loop.invariant.0 c.loop.invariant.1 c.go.result c.go.ensures.not_open c.go.ensures.is_open c.go.ensures.first c.go.ensures.further }

pub loop-preserved : goal.loop-preserved
loop-preserved c = go_fits c.args.number c.args.live.now c.loop.lookups c.go.new.self c.requires.showing c.loop.invariant.0 c.loop.invariant.1 c.go.result c.go.ensures.not_open c.go.ensures.is_open c.go.ensures.first c.go.ensures.further
