use Rattle.fib_io.proofs.Calls.{went_stands}
use Rattle.fib_io.proofs.files.OpenInput.go_to.Goals as goal

pub returns-in_ok-go_to-clause-stands : goal.returns-in_ok-go_to-clause-stands
returns-in_ok-go_to-clause-stands g c stood = went_stands (g.R.ReadSeek.calls c.args.self.now.reader) (g.R.ReadSeek.calls c.go_to.new.self) c.args.at c.ranges.at.fits c.in_ok-go_to.ensures.met
