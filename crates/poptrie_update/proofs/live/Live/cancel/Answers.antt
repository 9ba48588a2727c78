use Rattle.std.proofs.Common.{◌≡◌, false, sym, ap, ◌∙◌, subst}
use Rattle.poptrie_update.specs.Lives.{Living, Shows, is_selecting}
use Rattle.poptrie_update.specs.Fits.{Fits}
use Rattle.poptrie_update.specs.Pendings.{IsTokenBy, IsSelectorOf}
use Rattle.poptrie_update.specs.declared.live.Other.{Other}
use Rattle.poptrie_update.specs.declared.live.Other.TheVariants as other
use Rattle.poptrie_update.specs.declared.pending.Stores.{Stores}
use Rattle.poptrie_update.proofs.Pair.{words_shown, shown_words, fits_selected, fits_freed, is_built}
use Rattle.poptrie_update.specs.Cells.{KeepsAllReached}
use Rattle.poptrie_update.proofs.Unreached.{reached_selected, reached_forgotten, pair_of}
use Rattle.poptrie_update.specs.Undone.{IsReadyAfter}
use Rattle.poptrie_update.proofs.As_before.{words_back, selector_back}
use Rattle.poptrie_update.proofs.live.Live.cancel.Goals as goal
use Rattle.poptrie_update.proofs.live.Live.cancel.Goals.{in-Ok, in-Err}

pub returns-after-cancel-clause-shows : goal.returns-after-cancel-clause-shows
returns-after-cancel-clause-shows c =
    let token = subst (λ (x : Stores). IsTokenBy x c.args.self.now) c.in-Words.is c.requires in
    let words : is_selecting c.self.inside.state ≡ false = ap (λ (l : Living). is_selecting l.state) c.self.view_is ∙ token.1 in
    elim c.match-cancel.branch [
      | in-Ok w ↦ rw w.result-is (λ L M sh. shown_words c.self.inside.state c.cancel.new.self c.self.inside.other L L words (w.in-Ok.ensures.shows L M (words_shown c.self.inside.state c.self.inside.selected c.self.inside.other L M words (subst (λ (l : Living). Shows l L M) (sym c.self.view_is) sh))))
      | in-Err w ↦ rw w.result-is tt
    ]

pub returns-after-cancel-clause-fits : goal.returns-after-cancel-clause-fits
returns-after-cancel-clause-fits c = elim c.match-cancel.branch [
  | in-Ok w ↦ rw w.result-is (λ os f. fits_selected c.self.inside.selected c.cancel.new.self c.self.inside.other c.self.inside.state c.self.inside.number w.in-Ok.ensures.fits os (subst (λ (l : Living). Fits l os) (sym c.self.view_is) f))
  | in-Err w ↦ rw w.result-is tt
]

pub returns-else-stored-clause-fits : goal.returns-else-stored-clause-fits
returns-else-stored-clause-fits c = λ os f.
    let s = c.self.inside.selected in
    let o = c.self.inside.other in
    let n = c.self.inside.number in
    let token : IsSelectorOf c.in-Selector.stored c.self.inside.state = subst (λ (x : Stores). IsTokenBy x (record { selected = s; other = o; state = c.self.inside.state; number = n })) c.in-Selector.is (subst (λ (l : Living). IsTokenBy c.args.pending.stores l) (sym c.self.view_is) c.requires) in
    let built : c.self.inside.state ≡ other.Built = is_built c.in-Selector.stored c.self.inside.state token c.if-stored.false in
    fits_freed s o c.clear.new.self n os (subst (λ (x : Other). Fits (record { selected = s; other = o; state = x; number = n }) os) built (subst (λ (l : Living). Fits l os) (sym c.self.view_is) f))

pub returns-after-cancel-clause-cells : goal.returns-after-cancel-clause-cells
returns-after-cancel-clause-cells c = elim c.match-cancel.branch [
  | in-Ok w ↦ rw w.result-is (subst (λ (l : Living). KeepsAllReached 0 l (pair_of c.cancel.new.self c.self.inside.other c.self.inside.state c.self.inside.number)) c.self.view_is (reached_selected 0 c.self.inside.selected c.cancel.new.self c.self.inside.other c.self.inside.state c.self.inside.number w.in-Ok.ensures.cells))
  | in-Err w ↦ rw w.result-is tt
]

pub returns-else-stored-clause-cells : goal.returns-else-stored-clause-cells
returns-else-stored-clause-cells c =
    let s = c.self.inside.selected in
    let o = c.self.inside.other in
    let n = c.self.inside.number in
    let token : IsSelectorOf c.in-Selector.stored c.self.inside.state = subst (λ (x : Stores). IsTokenBy x (pair_of s o c.self.inside.state n)) c.in-Selector.is (subst (λ (l : Living). IsTokenBy c.args.pending.stores l) (sym c.self.view_is) c.requires) in
    let built : c.self.inside.state ≡ other.Built = is_built c.in-Selector.stored c.self.inside.state token c.if-stored.false in
    subst (λ (l : Living). KeepsAllReached 0 l (pair_of s c.clear.new.self other.Free n)) c.self.view_is
    (subst (λ (x : Other). KeepsAllReached 0 (pair_of s o x n) (pair_of s c.clear.new.self other.Free n)) (sym built) (reached_forgotten s o c.clear.new.self n))

pub returns-after-cancel-clause-before : goal.returns-after-cancel-clause-before
returns-after-cancel-clause-before c =
    let token = subst (λ (x : Stores). IsTokenBy x c.args.self.now) c.in-Words.is c.requires in
    let words : is_selecting c.self.inside.state ≡ false = ap (λ (l : Living). is_selecting l.state) c.self.view_is ∙ token.1 in
    elim c.match-cancel.branch [
      | in-Ok w ↦ rw w.result-is (λ b r. words_back c.self.inside.state b c.self.inside.selected c.cancel.new.self c.self.inside.other c.self.inside.number words c.self.invariant.holds (w.in-Ok.ensures.before b.selected) (subst (λ (l : Living). IsReadyAfter b l) (sym c.self.view_is) r))
      | in-Err w ↦ rw w.result-is tt
    ]

pub returns-else-stored-clause-before : goal.returns-else-stored-clause-before
returns-else-stored-clause-before c = λ b r.
    let s = c.self.inside.selected in
    let o = c.self.inside.other in
    let n = c.self.inside.number in
    let token : IsSelectorOf c.in-Selector.stored c.self.inside.state = subst (λ (x : Stores). IsTokenBy x (pair_of s o c.self.inside.state n)) c.in-Selector.is (subst (λ (l : Living). IsTokenBy c.args.pending.stores l) (sym c.self.view_is) c.requires) in
    let built : c.self.inside.state ≡ other.Built = is_built c.in-Selector.stored c.self.inside.state token c.if-stored.false in
    selector_back b s o c.clear.new.self n c.clear.ensures.none c.clear.ensures.retired (subst (λ (x : Other). IsReadyAfter b (pair_of s o x n)) built (subst (λ (l : Living). IsReadyAfter b l) (sym c.self.view_is) r))
