use Rattle.std.proofs.Common.{refl}
use Rattle.poptrie_build.proofs.Tallying.{tally_node}
use Rattle.poptrie_build.proofs.tally.Tally.add_node.Goals as goal

pub returns-clause-tally : goal.returns-clause-tally
returns-clause-tally c = λ g N L v. tally_node c.args.self.now _ c.args.need g N L v refl refl refl c.saturating_add.ensures c.saturating_add-2.ensures
