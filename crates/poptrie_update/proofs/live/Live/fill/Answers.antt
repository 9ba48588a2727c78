use Rattle.std.proofs.Common.{◌≡◌, false, sym, ap, ◌∙◌}
use Rattle.fib_addr.specs.Answers.{all_answers}
use Rattle.poptrie_set.proofs.Ready.{ok_map}
use Rattle.poptrie_update.specs.Lives.{Living, is_selecting, is_pending}
use Rattle.poptrie_update.proofs.Pair.{shown_words, quiet_words}
use Rattle.poptrie_update.proofs.live.Live.fill.Goals as goal

pub returns-clause-built : goal.returns-clause-built
returns-clause-built g c =
    let words : is_selecting c.self.inside.state ≡ false = (quiet_words c.self.inside.state c.self.inside.selected.pending (ap is_pending c.self.view_is ∙ c.requires.quiet)).0 in
    ok_map c.fill.result c.fill.ensures.built (λ built. λ L e. shown_words c.self.inside.state c.fill.new.self c.self.inside.other L L words (built L (e ∙ ap (λ (l : Living). all_answers l.selected.family L) (sym c.self.view_is))))
