use Rattle.std.proofs.Common.{◌∙◌, ap, ◌+◌, min}
use Rattle.poptrie_build.proofs.Tallying.{tally_end}
use Rattle.poptrie_build.proofs.tally.Tally.needs.Goals as goal

pub returns : goal.returns
returns c = λ g N L. tally_end c.args.self.now _ g N L (c.saturating_add.ensures ∙ ap (λ x. min (x + c.args.self.now.below.nodes) 18446744073709551615) c.block_size.ensures) (c.saturating_add-2.ensures ∙ ap (λ x. min (x + c.args.self.now.below.leaves) 18446744073709551615) c.block_size-2.ensures)
