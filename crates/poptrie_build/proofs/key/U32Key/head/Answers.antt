use Rattle.std.proofs.Common.{◌-◌, ◌/◌, ◌^◌, ap, ◌∙◌}
use Rattle.poptrie_build.proofs.Widened.{head_v4}
use Rattle.poptrie_build.proofs.key.U32Key.head.Goals as goal

pub returns : goal.returns
returns c = ap (λ n. n / 2 ^ (32 - c.args.count)) c.from.ensures ∙ head_v4 c.args.self c.args.count c.ranges.self.fits c.requires
