use Rattle.poptrie_update.proofs.Going.{go_fits}
use Rattle.lookup_tests.proofs.cursors.is_right.Goals as goal

pub returns-in-Go : goal.returns-in-Go
returns-in-Go c = go_fits c.in-Go.number c.args.live.now c.args.cursors.now c.go.new.self c.requires.showing c.requires.fits.0 c.requires.fits.1 c.go.result c.go.ensures.not_open c.go.ensures.is_open c.go.ensures.first c.go.ensures.further
