use Rattle.std.proofs.Common.{◌∙◌, ◌∷◌, [], sym, ap}
use Rattle.table_model.specs.declared.family.Family.{Family}
use Rattle.table_model.specs.Entries.{Entries}
use Rattle.fib_addr.specs.Views.{prefix_as}
use Rattle.fib_addr.specs.Answers.{all_answers}
use Rattle.lookup_tests.proofs.Hop_changed.{hop_changed}
use Rattle.lookup_tests.proofs.live.update.Goals as goal

pub returns-in-Ok-clause-shows : goal.returns-in-Ok-clause-shows
returns-in-Ok-clause-shows c =
    let L : Entries = (prefix_as c.args.before.now.prefix, c.args.before.now.hop.0) ∷ [] in
    let M : Entries = (prefix_as c.args.after.now.prefix, c.args.after.now.hop.0) ∷ [] in
    let agree = hop_changed (prefix_as c.args.before.now.prefix) (prefix_as c.args.after.now.prefix) c.args.before.now.hop.0 c.args.after.now.hop.0 (ap prefix_as c.requires.prefix) in
    let ready = c.in-Ok.ensures.shows L M c.requires.shows (c.whole.ensures.answers ∙ ap (λ (f : Family). all_answers f M) (sym c.requires.family)) agree in
    c.finish.ensures.shows L M (c.store-second.ensures.shows L M (c.store-first.ensures.shows L M ready))
