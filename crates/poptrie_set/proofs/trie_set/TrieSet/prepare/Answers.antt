use Rattle.std.proofs.Common.{ap}
use Rattle.table_model.specs.Address.{Prefix}
use Rattle.fib_addr.specs.Views.{prefix_as}
use Rattle.poptrie_set.proofs.Prepared.{quiet_shows}
use Rattle.poptrie_set.proofs.Within.{whole_keeps}
use Rattle.poptrie_set.proofs.trie_set.TrieSet.prepare.Goals as goal

pub prepare_within-requires-clause-outside : goal.prepare_within-requires-clause-outside
prepare_within-requires-clause-outside g c =
    let none = c.arenas_law.ensures.quiet c.requires.quiet in
    let some = c.arenas_law.ensures.shows in
    (some.before, quiet_shows c.args.self.now some.before some.after some.shows none.no_stores none.nodes_taken none.nodes_replaced none.leaves_taken none.leaves_replaced, whole_keeps (prefix_as c.whole.result) some.before (g.R.Region.answers c.args.region.now) (ap (λ (p : Prefix). p.bits) c.whole.ensures))
