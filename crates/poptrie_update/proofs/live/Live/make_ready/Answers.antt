use Rattle.std.proofs.Common.{◌≡◌, ◌∙◌, ℕ, false, cond, sym, ap, subst}
use Rattle.table_model.specs.declared.family.Family.{Family}
use Rattle.fib_addr.specs.Answers.{all_answers}
use Rattle.fib_addr.specs.Views.{prefix_as}
use Rattle.poptrie_set.specs.Prepares.{MergesSlots, StoresJust}
use Rattle.poptrie_set.specs.Lives.{Seen, ShowsIn}
use Rattle.poptrie_set.proofs.Ready.{err_map, if_err_map, both_ok, ok_map}
use Rattle.poptrie_update.specs.Lives.{Living, Shows, ShowsBy, is_selecting, is_pending, made_of}
use Rattle.poptrie_update.specs.Fits.{Fits}
use Rattle.poptrie_update.specs.Pendings.{IsTokenOf, is_of_selector}
use Rattle.poptrie_update.specs.Prepares.{IsBeside, IsNotBeside, IsShort}
use Rattle.poptrie_update.specs.declared.live.Other.{Other}
use Rattle.poptrie_update.specs.declared.pending.Stores.{Stores}
use Rattle.poptrie_update.proofs.Pair.{fits_selected, quiet_words, words_shown, shown_words}
use Rattle.poptrie_update.proofs.Rebuilt.{if_ok_both, if_ok_all, selector_token, run_out_moved, short_moved, not_beside_moved, back_sizes}
use Rattle.poptrie_update.specs.Cells.{KeepsAllReached}
use Rattle.poptrie_update.proofs.Unreached.{reached_selected, reached_both, pair_of}
use Rattle.poptrie_update.specs.Undone.{IsReadyAfter, IsAsItWas}
use Rattle.poptrie_update.proofs.As_before.{words_ready, selector_ready, err_both_on}
use Rattle.poptrie_set.specs.Undone.{IsAsBefore}
use Rattle.poptrie_update.proofs.live.Live.make_ready.Goals as goal

pub returns-in-Ok-clause-fits : goal.returns-in-Ok-clause-fits
returns-in-Ok-clause-fits g c = λ os f. fits_selected c.self.inside.selected c.prepare_within.new.self c.self.inside.other c.self.inside.state c.self.inside.number c.prepare_within.ensures.fits os (subst (λ (l : Living). Fits l os) (sym c.self.view_is) f)

pub returns-in-Err-clause-token : goal.returns-in-Err-clause-token
returns-in-Err-clause-token g c = if_ok_both c.rebuild.result _ (λ p. IsTokenOf p c.rebuild.new.self × (made_of c.rebuild.new.self ≡ 0)) c.rebuild.ensures.free c.rebuild.ensures.token (λ p a e. selector_token p c.rebuild.new.self e a.1)

pub returns-in-Err-clause-shows : goal.returns-in-Err-clause-shows
returns-in-Err-clause-shows g c =
    let words : is_selecting c.self.inside.state ≡ false = (quiet_words c.self.inside.state c.self.inside.selected.pending (ap is_pending c.self.view_is ∙ c.requires.quiet)).0 in
    both_ok c.rebuild.result c.rebuild.ensures.free c.rebuild.ensures.built
    (λ a built. λ L M sh e agree.
    let first : ShowsIn c.self.inside.selected L L = words_shown c.self.inside.state c.self.inside.selected c.self.inside.other L L words (subst (λ (l : Living). Shows l L L) (sym c.self.view_is) sh) in
    let second : ShowsIn c.rebuild.new.self.selected L L = subst (λ (x : Seen). ShowsIn x L L) (sym c.rebuild.ensures.selected) (c.in-Err.ensures.still L L first) in
    let e2 = e ∙ ap (λ (f : Family). all_answers f M) (ap (λ (l : Living). l.selected.family) (sym c.self.view_is) ∙ sym c.prepare_within.ensures.shape.0) in
    subst (λ (x : Other). ShowsBy x c.rebuild.new.self.selected c.rebuild.new.self.other L M) (sym a.1) (second, built M e2))

pub returns-in-Err-clause-made : goal.returns-in-Err-clause-made
returns-in-Err-clause-made g c =
    let words : is_selecting c.self.inside.state ≡ false = (quiet_words c.self.inside.state c.self.inside.selected.pending (ap is_pending c.self.view_is ∙ c.requires.quiet)).0 in
    let s = c.self.inside.selected in
    let t = c.prepare_within.new.self in
    if_ok_all c.rebuild.result _ _ c.rebuild.ensures.free c.rebuild.ensures.short c.rebuild.ensures.token
    (λ p a b is. λ L M sh e agree.
    let first : ShowsIn s L L = words_shown c.self.inside.state s c.self.inside.other L L words (subst (λ (l : Living). Shows l L L) (sym c.self.view_is) sh) in
    let e2 = e ∙ ap (λ (l : Living). all_answers l.selected.family M) (sym c.self.view_is) in
    let out = c.in-Err.ensures.refused L M first e2 agree in
    let short = b L M (run_out_moved s t c.prepare_within.ensures.shape c.in-Err.ensures.free.0 c.in-Err.ensures.free.1 L M c.in-Err.why out) in
    let back : IsShort s L M = (short.0, short_moved t s (back_sizes s t c.prepare_within.ensures.shape) (sym c.in-Err.ensures.free.0) (sym c.in-Err.ensures.free.1) L M short.0 short.1) in
    subst (λ (x : Stores). IsBeside x c.args.self.now c.rebuild.new.self L M) (sym is)
    (ap (λ (l : Living). l.state) (sym c.self.view_is) ∙ a.0, subst (λ (l : Living). IsShort l.selected L M) c.self.view_is back))

pub returns-in-Err-clause-refused : goal.returns-in-Err-clause-refused
returns-in-Err-clause-refused g c =
    let words : is_selecting c.self.inside.state ≡ false = (quiet_words c.self.inside.state c.self.inside.selected.pending (ap is_pending c.self.view_is ∙ c.requires.quiet)).0 in
    let s = c.self.inside.selected in
    let t = c.prepare_within.new.self in
    if_err_map c.rebuild.result _ _ c.rebuild.ensures.refused
    (λ why refused. λ L M sh e agree.
    let first : ShowsIn s L L = words_shown c.self.inside.state s c.self.inside.other L L words (subst (λ (l : Living). Shows l L L) (sym c.self.view_is) sh) in
    let e2 = e ∙ ap (λ (l : Living). all_answers l.selected.family M) (sym c.self.view_is) in
    let out = run_out_moved s t c.prepare_within.ensures.shape c.in-Err.ensures.free.0 c.in-Err.ensures.free.1 L M c.in-Err.why (c.in-Err.ensures.refused L M first e2 agree) in
    let told = refused L M (e2 ∙ ap (λ (f : Family). all_answers f M) (sym c.prepare_within.ensures.shape.0)) out in
    subst (λ (l : Living). IsNotBeside c.args.oldest why l L M) c.self.view_is
    (not_beside_moved t s (back_sizes s t c.prepare_within.ensures.shape) (sym c.in-Err.ensures.free.0) (sym c.in-Err.ensures.free.1) L M c.args.oldest c.self.inside.state c.self.inside.number c.self.inside.other why told))

pub returns-in-Err-clause-still : goal.returns-in-Err-clause-still
returns-in-Err-clause-still g c =
    let words : is_selecting c.self.inside.state ≡ false = (quiet_words c.self.inside.state c.self.inside.selected.pending (ap is_pending c.self.view_is ∙ c.requires.quiet)).0 in
    err_map c.rebuild.result c.rebuild.ensures.still
    (λ same. λ L M sh.
    let first : ShowsIn c.self.inside.selected L M = words_shown c.self.inside.state c.self.inside.selected c.self.inside.other L M words (subst (λ (l : Living). Shows l L M) (sym c.self.view_is) sh) in
    shown_words c.rebuild.new.self.state c.rebuild.new.self.selected c.rebuild.new.self.other L M (ap is_selecting same ∙ words) (subst (λ (x : Seen). ShowsIn x L M) (sym c.rebuild.ensures.selected) (c.in-Err.ensures.still L M first)))

pub returns-in-Err-clause-fits : goal.returns-in-Err-clause-fits
returns-in-Err-clause-fits g c = λ os f. c.rebuild.ensures.fits os (fits_selected c.self.inside.selected c.prepare_within.new.self c.self.inside.other c.self.inside.state c.self.inside.number c.prepare_within.ensures.fits os (subst (λ (l : Living). Fits l os) (sym c.self.view_is) f))

pub returns-in-Ok-clause-cells : goal.returns-in-Ok-clause-cells
returns-in-Ok-clause-cells g c = subst (λ (l : Living). KeepsAllReached 0 l (pair_of c.prepare_within.new.self c.self.inside.other c.self.inside.state c.self.inside.number)) c.self.view_is (reached_selected 0 c.self.inside.selected c.prepare_within.new.self c.self.inside.other c.self.inside.state c.self.inside.number c.prepare_within.ensures.cells)

pub returns-in-Err-clause-cells : goal.returns-in-Err-clause-cells
returns-in-Err-clause-cells g c =
    let m = pair_of c.prepare_within.new.self c.self.inside.other c.self.inside.state c.self.inside.number in
    subst (λ (l : Living). KeepsAllReached 0 l c.rebuild.new.self) c.self.view_is
    (reached_both 0 (pair_of c.self.inside.selected c.self.inside.other c.self.inside.state c.self.inside.number) m c.rebuild.new.self c.prepare_within.ensures.kept.1 (reached_selected 0 c.self.inside.selected c.prepare_within.new.self c.self.inside.other c.self.inside.state c.self.inside.number c.prepare_within.ensures.cells) c.rebuild.ensures.cells)

pub returns-in-Ok-clause-ready : goal.returns-in-Ok-clause-ready
returns-in-Ok-clause-ready g c =
    let words : is_selecting c.self.inside.state ≡ false = (quiet_words c.self.inside.state c.self.inside.selected.pending (ap is_pending c.self.view_is ∙ c.requires.quiet)).0 in
    subst (λ (l : Living). IsReadyAfter l (pair_of c.prepare_within.new.self c.self.inside.other c.self.inside.state c.self.inside.number)) c.self.view_is
    (words_ready c.self.inside.state c.self.inside.selected c.prepare_within.new.self c.self.inside.other c.self.inside.number words c.in-Ok.ensures.ready)

pub returns-in-Err-clause-ready : goal.returns-in-Err-clause-ready
returns-in-Err-clause-ready g c =
    let b = pair_of c.self.inside.selected c.self.inside.other c.self.inside.state c.self.inside.number in
    ok_map c.rebuild.result c.rebuild.ensures.free
    (λ a. subst (λ (l : Living). IsReadyAfter l c.rebuild.new.self) c.self.view_is
    (selector_ready b c.rebuild.new.self a.0 a.1 c.rebuild.ensures.number (subst (λ (x : Seen). IsAsBefore c.self.inside.selected x) (sym c.rebuild.ensures.selected) c.in-Err.ensures.back)))

pub returns-in-Err-clause-back : goal.returns-in-Err-clause-back
returns-in-Err-clause-back g c =
    err_both_on c.rebuild.result c.rebuild.ensures.still c.rebuild.ensures.other
    (λ still other. subst (λ (l : Living). IsAsItWas l c.rebuild.new.self) c.self.view_is
    (record { number = c.rebuild.ensures.number; state = still; selected = subst (λ (x : Seen). IsAsBefore c.self.inside.selected x) (sym c.rebuild.ensures.selected) c.in-Err.ensures.back; other = other }))

pub returns-in-Err-clause-merged : goal.returns-in-Err-clause-merged
returns-in-Err-clause-merged g c =
    let words : is_selecting c.self.inside.state ≡ false = (quiet_words c.self.inside.state c.self.inside.selected.pending (ap is_pending c.self.view_is ∙ c.requires.quiet)).0 in
    if_ok_all c.rebuild.result _ _ c.rebuild.ensures.free c.rebuild.ensures.built c.rebuild.ensures.token
    (λ p a built is. λ L M N sh e merges.
    let first : ShowsIn c.self.inside.selected L L = words_shown c.self.inside.state c.self.inside.selected c.self.inside.other L L words (subst (λ (l : Living). Shows l L L) (sym c.self.view_is) sh) in
    let second : ShowsIn c.rebuild.new.self.selected L L = subst (λ (x : Seen). ShowsIn x L L) (sym c.rebuild.ensures.selected) (c.in-Err.ensures.still L L first) in
    let e2 = e ∙ ap (λ (f : Family). all_answers f M) (ap (λ (l : Living). l.selected.family) (sym c.self.view_is) ∙ sym c.prepare_within.ensures.shape.0) in
    subst (λ (x : Stores). Shows c.rebuild.new.self L (cond (is_of_selector x) M N)) (sym is)
    (subst (λ (x : Other). ShowsBy x c.rebuild.new.self.selected c.rebuild.new.self.other L M) (sym a.1) (second, built M e2)))

pub prepare_within-requires-clause-outside : goal.prepare_within-requires-clause-outside
prepare_within-requires-clause-outside g c =
    let words : is_selecting c.self.inside.state ≡ false = (quiet_words c.self.inside.state c.self.inside.selected.pending (ap is_pending c.self.view_is ∙ c.requires.quiet)).0 in
    let L = c.requires.outside.0 in
    (L, words_shown c.self.inside.state c.self.inside.selected c.self.inside.other L L words (subst (λ (l : Living). Shows l L L) (sym c.self.view_is) c.requires.outside.1), c.requires.outside.2)

pub returns-in-Ok-clause-merged : goal.returns-in-Ok-clause-merged
returns-in-Ok-clause-merged g c = λ L M N sh e merges.
    let words : is_selecting c.self.inside.state ≡ false = (quiet_words c.self.inside.state c.self.inside.selected.pending (ap is_pending c.self.view_is ∙ c.requires.quiet)).0 in
    let first : ShowsIn c.self.inside.selected L L = words_shown c.self.inside.state c.self.inside.selected c.self.inside.other L L words (subst (λ (l : Living). Shows l L L) (sym c.self.view_is) sh) in
    let e2 = e ∙ ap (λ (l : Living). all_answers l.selected.family M) (sym c.self.view_is) in
    shown_words c.self.inside.state c.prepare_within.new.self c.self.inside.other L N words (c.in-Ok.ensures.merged L M N first e2 (subst (λ (l : Living). MergesSlots (prefix_as c.args.prefix.now) l.selected.direct_bits L M N) (sym c.self.view_is) merges))

pub returns-in-Ok-clause-changes : goal.returns-in-Ok-clause-changes
returns-in-Ok-clause-changes g c = λ L M sh e agree.
    let words : is_selecting c.self.inside.state ≡ false = (quiet_words c.self.inside.state c.self.inside.selected.pending (ap is_pending c.self.view_is ∙ c.requires.quiet)).0 in
    let first : ShowsIn c.self.inside.selected L L = words_shown c.self.inside.state c.self.inside.selected c.self.inside.other L L words (subst (λ (l : Living). Shows l L L) (sym c.self.view_is) sh) in
    let e2 = e ∙ ap (λ (l : Living). all_answers l.selected.family M) (sym c.self.view_is) in
    let t = c.prepare_within.new.self in
    subst (λ (f : Family). StoresJust f t.direct_bits L M t.stores) (sym c.prepare_within.ensures.shape.0)
    (subst (λ (d : ℕ). StoresJust c.self.inside.selected.family d L M t.stores) (sym c.prepare_within.ensures.shape.1) (c.in-Ok.ensures.changes L M first e2 agree))
