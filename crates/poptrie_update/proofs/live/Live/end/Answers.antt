use Rattle.std.proofs.Common.{◌≡◌, ◌++◌, ◌∷◌, [], suc, false, sym, ap, ◌∙◌, subst}
use Rattle.poptrie_build.specs.Tries.{node_need, leaf_need}
use Rattle.poptrie_set.specs.Past.{PastIn}
use Rattle.poptrie_update.specs.Lives.{Living, Shows, Past, is_selecting}
use Rattle.poptrie_update.specs.Fits.{Fits}
use Rattle.poptrie_update.specs.Pendings.{IsTokenBy, IsSelectorOf}
use Rattle.poptrie_update.specs.declared.live.Other.{Other}
use Rattle.poptrie_update.specs.declared.live.Other.TheVariants as other
use Rattle.poptrie_update.specs.declared.pending.Stores.{Stores}
use Rattle.poptrie_update.proofs.Pair.{words_shown, shown_words, fits_ended, fits_retired, is_replaced}
use Rattle.poptrie_update.specs.Cells.{KeepsAllReached}
use Rattle.poptrie_update.proofs.Unreached.{reached_ended, reached_retired, pair_of}
use Rattle.poptrie_update.proofs.live.Live.end.Goals as goal

pub returns-in-Ok-clause-shows : goal.returns-in-Ok-clause-shows
returns-in-Ok-clause-shows c = λ L M sh.
    let token = subst (λ (x : Stores). IsTokenBy x c.args.self.now) c.in-Words.is c.requires.token in
    let words : is_selecting c.self.inside.state ≡ false = ap (λ (l : Living). is_selecting l.state) c.self.view_is ∙ token.1 in
    shown_words c.self.inside.state c.end.new.self c.tick.new.self M M words (c.in-Ok.ensures.shows L M (words_shown c.self.inside.state c.self.inside.selected c.self.inside.other L M words (subst (λ (l : Living). Shows l L M) (sym c.self.view_is) sh)))

pub returns-in-Ok-clause-fits : goal.returns-in-Ok-clause-fits
returns-in-Ok-clause-fits c = λ os f.
    let token = subst (λ (x : Stores). IsTokenBy x c.args.self.now) c.in-Words.is c.requires.token in
    let words : is_selecting c.self.inside.state ≡ false = ap (λ (l : Living). is_selecting l.state) c.self.view_is ∙ token.1 in
    fits_ended c.self.inside.selected c.end.new.self c.self.inside.other c.tick.new.self c.self.inside.state c.self.inside.number words c.in-Ok.ensures.fits c.tick.ensures.nodes c.tick.ensures.leaves c.tick.ensures.time os (subst (λ (l : Living). Fits l os) (sym c.self.view_is) f)

pub returns-in-Ok-clause-past : goal.returns-in-Ok-clause-past
returns-in-Ok-clause-past c = λ L M ns ls sh p.
    let token = subst (λ (x : Stores). IsTokenBy x c.args.self.now) c.in-Words.is c.requires.token in
    let words : is_selecting c.self.inside.state ≡ false = ap (λ (l : Living). is_selecting l.state) c.self.view_is ∙ token.1 in
    subst (λ (l : Living). PastIn c.end.new.self (ns ++ node_need l.selected.family l.selected.direct_bits L ∷ []) (ls ++ leaf_need l.selected.family l.selected.direct_bits L ∷ [])) c.self.view_is
    (c.in-Ok.ensures.past L M ns ls (words_shown c.self.inside.state c.self.inside.selected c.self.inside.other L M words (subst (λ (l : Living). Shows l L M) (sym c.self.view_is) sh)) (subst (λ (l : Living). Past l ns ls) (sym c.self.view_is) p))

pub returns-else-not-stored-clause-fits : goal.returns-else-not-stored-clause-fits
returns-else-not-stored-clause-fits c = λ os f.
    let s = c.self.inside.selected in
    let o = c.self.inside.other in
    let n = c.self.inside.number in
    let token : IsSelectorOf c.in-Selector.stored c.self.inside.state = subst (λ (x : Stores). IsTokenBy x (record { selected = s; other = o; state = c.self.inside.state; number = n })) c.in-Selector.is (subst (λ (l : Living). IsTokenBy c.args.pending.stores l) (sym c.self.view_is) c.requires.token) in
    let replaced : c.self.inside.state ≡ other.Replaced = is_replaced c.in-Selector.stored c.self.inside.state token c.if-not-stored.false in
    let before : Fits (record { selected = s; other = o; state = other.Replaced; number = n }) os = subst (λ (x : Other). Fits (record { selected = s; other = o; state = x; number = n }) os) replaced (subst (λ (l : Living). Fits l os) (sym c.self.view_is) f) in
    fits_retired s c.tick-in-Selector.new.self o c.tick-in-Selector-2.new.self n c.time.result c.tick-in-Selector.ensures.fits c.tick-in-Selector-2.ensures.nodes c.tick-in-Selector-2.ensures.leaves c.tick-in-Selector-2.ensures.time (c.time.ensures ∙ (c.tick-in-Selector.ensures.time ∙ ap suc (sym c.self.invariant.times))) os before

pub returns-in-Ok-clause-cells : goal.returns-in-Ok-clause-cells
returns-in-Ok-clause-cells c = subst (λ (l : Living). KeepsAllReached 0 l (pair_of c.end.new.self c.tick.new.self c.self.inside.state c.self.inside.number)) c.self.view_is (reached_ended c.self.inside.selected c.end.new.self c.self.inside.other c.tick.new.self c.self.inside.state c.self.inside.number c.in-Ok.ensures.cells c.tick.ensures.nodes c.tick.ensures.leaves)

pub returns-else-not-stored-clause-cells : goal.returns-else-not-stored-clause-cells
returns-else-not-stored-clause-cells c =
    let s = c.self.inside.selected in
    let o = c.self.inside.other in
    let n = c.self.inside.number in
    let token : IsSelectorOf c.in-Selector.stored c.self.inside.state = subst (λ (x : Stores). IsTokenBy x (pair_of s o c.self.inside.state n)) c.in-Selector.is (subst (λ (l : Living). IsTokenBy c.args.pending.stores l) (sym c.self.view_is) c.requires.token) in
    let replaced : c.self.inside.state ≡ other.Replaced = is_replaced c.in-Selector.stored c.self.inside.state token c.if-not-stored.false in
    let m = pair_of c.tick-in-Selector.new.self c.tick-in-Selector-2.new.self (other.Retired c.time.result) n in
    subst (λ (l : Living). KeepsAllReached 0 l m) c.self.view_is
    (subst (λ (x : Other). KeepsAllReached 0 (pair_of s o x n) m) (sym replaced)
    (reached_retired s c.tick-in-Selector.new.self o c.tick-in-Selector-2.new.self n c.time.result c.tick-in-Selector.ensures.cells c.tick-in-Selector-2.ensures.nodes c.tick-in-Selector-2.ensures.leaves (c.time.ensures ∙ c.tick-in-Selector.ensures.time)))
