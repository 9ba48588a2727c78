use Rattle.poptrie_build.proofs.Widened.{rest_v4}
use Rattle.poptrie_build.proofs.key.U32Key.rest.Goals as goal

pub returns : goal.returns
returns c = rest_v4 c.args.self c.args.count
