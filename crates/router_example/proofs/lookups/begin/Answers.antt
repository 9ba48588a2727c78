use Rattle.poptrie_update.proofs.Going.{go_fits}
use Rattle.router_example.proofs.lookups.begin.Goals as goal

pub returns-in-None : goal.returns-in-None
returns-in-None c = record { on = go_fits c.in_ok-number.number c.args.live.now c.start.new.self c.go.new.self c.requires.trie.showing c.requires.on.0 (c.start.ensures.fits c.requires.on.0 c.requires.on.1) c.go.result c.go.ensures.not_open c.go.ensures.is_open c.go.ensures.first c.go.ensures.further }

pub returns-in-Some : goal.returns-in-Some
returns-in-Some c = record { on = go_fits c.in_ok-number.number c.args.live.now c.start.new.self c.go.new.self c.requires.trie.showing c.requires.on.0 (c.start.ensures.fits c.requires.on.0 c.requires.on.1) c.go.result c.go.ensures.not_open c.go.ensures.is_open c.go.ensures.first c.go.ensures.further }
