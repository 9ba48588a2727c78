use Rattle.std.proofs.Common.{◌≡◌, ◌-◌, refl, sym, subst}
use Rattle.poptrie_set.specs.Lives.{Seen}
use Rattle.poptrie_update.specs.Lives.{Living}
use Rattle.poptrie_update.specs.Fits.{Fits}
use Rattle.poptrie_update.specs.Pendings.{IsTokenBy, IsSelectorOf}
use Rattle.poptrie_update.specs.declared.live.Other.{Other}
use Rattle.poptrie_update.specs.declared.live.Other.TheVariants as other
use Rattle.poptrie_update.specs.declared.pending.Stores.{Stores}
use Rattle.poptrie_update.proofs.Pair.{fits_selected, fits_swapped, is_built}
use Rattle.poptrie_update.specs.Cells.{KeepsAllReached}
use Rattle.poptrie_update.proofs.Unreached.{reached_selected, reached_swapped, pair_of}
use Rattle.poptrie_update.proofs.live.Live.store.Goals as goal

pub returns-in-Words-clause-fits : goal.returns-in-Words-clause-fits
returns-in-Words-clause-fits c = λ os f. fits_selected c.self.inside.selected c.store.new.self c.self.inside.other c.self.inside.state c.self.inside.number c.store.ensures.fits os (subst (λ (l : Living). Fits l os) (sym c.self.view_is) f)

pub returns-else-stored-clause-fits : goal.returns-else-stored-clause-fits
returns-else-stored-clause-fits c = λ os f.
    let s = c.self.inside.selected in
    let o = c.self.inside.other in
    let n = c.self.inside.number in
    let token : IsSelectorOf c.in-Selector.stored c.self.inside.state = subst (λ (x : Stores). IsTokenBy x (record { selected = s; other = o; state = c.self.inside.state; number = n })) c.in-Selector.is (subst (λ (l : Living). IsTokenBy c.args.pending.now.stores l) (sym c.self.view_is) c.requires) in
    let built : c.self.inside.state ≡ other.Built = is_built c.in-Selector.stored c.self.inside.state token c.if-stored.false in
    let before : Fits (record { selected = s; other = o; state = other.Built; number = n }) os = subst (λ (x : Other). Fits (record { selected = s; other = o; state = x; number = n }) os) built (subst (λ (l : Living). Fits l os) (sym c.self.view_is) f) in
    subst (λ (x : Seen). Fits (record { selected = x; other = c.swap.new.y; state = other.Replaced; number = 1 - n }) os) (sym c.swap.ensures.x_after)
    (subst (λ (x : Seen). Fits (record { selected = o; other = x; state = other.Replaced; number = 1 - n }) os) (sym c.swap.ensures.y_after)
    (fits_swapped s o n (1 - n) c.self.invariant.few refl os before))

pub returns-in-Words-clause-cells : goal.returns-in-Words-clause-cells
returns-in-Words-clause-cells c = subst (λ (l : Living). KeepsAllReached 0 l (pair_of c.store.new.self c.self.inside.other c.self.inside.state c.self.inside.number)) c.self.view_is (reached_selected 0 c.self.inside.selected c.store.new.self c.self.inside.other c.self.inside.state c.self.inside.number c.store.ensures.cells)

pub returns-else-stored-clause-cells : goal.returns-else-stored-clause-cells
returns-else-stored-clause-cells c =
    let s = c.self.inside.selected in
    let o = c.self.inside.other in
    let n = c.self.inside.number in
    let token : IsSelectorOf c.in-Selector.stored c.self.inside.state = subst (λ (x : Stores). IsTokenBy x (pair_of s o c.self.inside.state n)) c.in-Selector.is (subst (λ (l : Living). IsTokenBy c.args.pending.now.stores l) (sym c.self.view_is) c.requires) in
    let built : c.self.inside.state ≡ other.Built = is_built c.in-Selector.stored c.self.inside.state token c.if-stored.false in
    subst (λ (l : Living). KeepsAllReached 0 l (pair_of c.swap.new.x c.swap.new.y other.Replaced (1 - n))) c.self.view_is
    (subst (λ (x : Other). KeepsAllReached 0 (pair_of s o x n) (pair_of c.swap.new.x c.swap.new.y other.Replaced (1 - n))) (sym built)
    (subst (λ (x : Seen). KeepsAllReached 0 (pair_of s o other.Built n) (pair_of x c.swap.new.y other.Replaced (1 - n))) (sym c.swap.ensures.x_after)
    (subst (λ (x : Seen). KeepsAllReached 0 (pair_of s o other.Built n) (pair_of o x other.Replaced (1 - n))) (sym c.swap.ensures.y_after)
    (reached_swapped s o n (1 - n) c.self.invariant.few refl))))
