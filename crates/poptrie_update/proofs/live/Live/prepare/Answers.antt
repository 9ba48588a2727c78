use Rattle.std.proofs.Common.{ap}
use Rattle.table_model.specs.Address.{Prefix}
use Rattle.fib_addr.specs.Views.{prefix_as}
use Rattle.poptrie_set.proofs.Prepared.{quiet_shows}
use Rattle.poptrie_set.proofs.Within.{whole_keeps}
use Rattle.poptrie_update.proofs.Pair.{quiet_words, shown_words}
use Rattle.poptrie_update.proofs.live.Live.prepare.Goals as goal

pub prepare_within-requires-clause-outside : goal.prepare_within-requires-clause-outside
prepare_within-requires-clause-outside g c =
    let l = c.args.self.now in
    let quiet = quiet_words l.state l.selected.pending c.requires.quiet in
    let keeps = c.arenas_law.ensures.selected in
    let none = keeps.quiet quiet.1 in
    let some = keeps.shows in
    let shown = quiet_shows l.selected some.before some.after some.shows none.no_stores none.nodes_taken none.nodes_replaced none.leaves_taken none.leaves_replaced in
    (some.before, shown_words l.state l.selected l.other some.before some.before quiet.0 shown, whole_keeps (prefix_as c.whole.result) some.before (g.R.Region.answers c.args.region.now) (ap (λ (p : Prefix). p.bits) c.whole.ensures))
