use Rattle.poptrie_build.proofs.Widened.{head_v6}
use Rattle.poptrie_build.proofs.key.U128Key.head.Goals as goal

pub returns : goal.returns
returns c = head_v6 c.args.self c.args.count c.ranges.self.fits c.requires
