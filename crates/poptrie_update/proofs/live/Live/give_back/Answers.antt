use Rattle.std.proofs.Common.{◌≡◌, ◌<◌, ◌≤◌, Bool, true, cond, sym, ap, ◌∙◌, subst, arith}
use Rattle.poptrie_set.specs.Fits.{until}
use Rattle.poptrie_set.specs.declared.trie_set.Oldest.{Oldest}
use Rattle.poptrie_update.specs.Lives.{Living, Shows, Past, is_pending, freed}
use Rattle.poptrie_set.specs.Lives.{HasSizesOf}
use Rattle.poptrie_set.specs.Prepares.{GaveBack}
use Rattle.poptrie_update.specs.Fits.{Fits}
use Rattle.poptrie_update.specs.Prepares.{IsAtRest}
use Rattle.poptrie_update.specs.declared.live.Other.{Other}
use Rattle.poptrie_update.specs.declared.live.Other.TheVariants as other
use Rattle.poptrie_update.proofs.Pair.{at_rest, fits_given, fits_other_given, freed_same, quiet_words, words_shown, shown_words}
use Rattle.poptrie_update.specs.Cells.{KeepsAllReached}
use Rattle.poptrie_update.proofs.Unreached.{reached_selected, reached_freed, pair_of}
use Rattle.poptrie_update.specs.Undone.{IsGivenBack}
use Rattle.poptrie_update.proofs.As_before.{given_freed, given_kept, held_same}
use Rattle.poptrie_update.proofs.live.Live.give_back.Goals as goal
use Rattle.poptrie_update.proofs.live.Live.give_back.Goals.{in-Nobody, in-Started}

pub returns-then-end-since-clause-fits : goal.returns-then-end-since-clause-fits
returns-then-end-since-clause-fits c = λ os who f.
    let e : until c.args.oldest c.self.inside.selected.time ≡ c.match-oldest.since = elim c.match-oldest.branch [
      | in-Nobody w ↦ ap (λ (o : Oldest). until o c.self.inside.selected.time) w.in-Nobody.is ∙ sym (w.since-is ∙ (w.time-since.ensures ∙ c.give_back.ensures.kept.2))
      | in-Started w ↦ ap (λ (o : Oldest). until o c.self.inside.selected.time) w.in-Started.is ∙ sym w.since-is
    ] in
    let low : c.in-Retired.end ≤ until c.args.oldest c.self.inside.selected.time = omega (arith, c.if-end-since.true, e) in
    fits_other_given c.self.inside.selected c.give_back.new.self c.self.inside.other c.clear.new.self c.self.inside.number c.args.oldest c.self.inside.selected.time c.in-Retired.end low c.give_back.ensures.fits os who
    (subst (λ (x : Other). Fits (record { selected = c.self.inside.selected; other = c.self.inside.other; state = x; number = c.self.inside.number }) os) c.in-Retired.is (subst (λ (l : Living). Fits l os) (sym c.self.view_is) f))

pub returns-else-end-since-clause-fits : goal.returns-else-end-since-clause-fits
returns-else-end-since-clause-fits c = λ os who f. fits_given c.self.inside.selected c.give_back.new.self c.self.inside.other c.self.inside.other c.self.inside.number c.args.oldest c.self.inside.state c.give_back.ensures.fits os who (subst (λ (l : Living). Fits l os) (sym c.self.view_is) f)

pub returns-then-end-since-clause-rest : goal.returns-then-end-since-clause-rest
returns-then-end-since-clause-rest c = subst IsAtRest c.self.view_is (at_rest c.self.inside.state c.self.inside.selected c.self.inside.other c.self.inside.number c.self.invariant.holds c.give_back.ensures.still)

pub returns-else-end-since-clause-rest : goal.returns-else-end-since-clause-rest
returns-else-end-since-clause-rest c = subst IsAtRest c.self.view_is (at_rest c.self.inside.state c.self.inside.selected c.self.inside.other c.self.inside.number c.self.invariant.holds c.give_back.ensures.still)

pub returns-in_default : goal.returns-in_default
returns-in_default c =
    let s = c.self.inside.selected in
    let t = c.give_back.new.self in
    let o = c.self.inside.other in
    let state = c.self.inside.state in
    let words = quiet_words state s.pending (ap is_pending c.self.view_is ∙ c.requires) in
    record {
      shape = subst (λ (l : Living). HasSizesOf l.selected t) c.self.view_is c.give_back.ensures.shape;
      kept = subst (λ (l : Living). (t.words ≡ l.selected.words) × (t.time ≡ l.selected.time)) c.self.view_is (c.give_back.ensures.kept.0, c.give_back.ensures.kept.2);
      quiet = ap (λ (b : Bool). cond b true t.pending) words.0 ∙ c.give_back.ensures.kept.1;
      other = subst (λ (l : Living). state ≡ freed (until c.args.oldest l.selected.time) l.state) c.self.view_is (freed_same (until c.args.oldest s.time) state c.in_default.not-Retired);
      rest = subst IsAtRest c.self.view_is (at_rest c.self.inside.state c.self.inside.selected c.self.inside.other c.self.inside.number c.self.invariant.holds c.give_back.ensures.still);
      given = subst (λ (l : Living). GaveBack (until c.args.oldest l.selected.time) l.selected t.nodes.space t.leaves.space) c.self.view_is c.give_back.ensures.given;
      just = λ nodes leaves g. c.give_back.ensures.just nodes leaves (subst (λ (l : Living). GaveBack (until c.args.oldest l.selected.time) l.selected nodes leaves) (sym c.self.view_is) g);
      back = subst (λ (l : Living). IsGivenBack (until c.args.oldest l.selected.time) l (pair_of t o state c.self.inside.number)) c.self.view_is (given_kept (until c.args.oldest s.time) s o t state c.self.inside.number (freed_same (until c.args.oldest s.time) state c.in_default.not-Retired) c.give_back.ensures.shape c.give_back.ensures.kept.0 c.give_back.ensures.kept.2 c.give_back.ensures.given c.give_back.ensures.nodes c.give_back.ensures.leaves);
      all = λ e. (c.give_back.ensures.all e, c.in_default.not-Retired);
      cells = subst (λ (l : Living). KeepsAllReached (until c.args.oldest l.selected.time) l (pair_of t o state c.self.inside.number)) c.self.view_is (reached_selected (until c.args.oldest s.time) s t o state c.self.inside.number c.give_back.ensures.cells);
      shows = λ L M sh. shown_words state t o L M words.0 (c.give_back.ensures.shows L M (words_shown state s o L M words.0 (subst (λ (l : Living). Shows l L M) (sym c.self.view_is) sh)));
      fits = λ os who f. fits_given s t o o c.self.inside.number c.args.oldest state c.give_back.ensures.fits os who (subst (λ (l : Living). Fits l os) (sym c.self.view_is) f);
      past = λ ns ls p. c.give_back.ensures.past ns ls (subst (λ (l : Living). Past l ns ls) (sym c.self.view_is) p);
    }

pub returns-then-end-since-clause-cells : goal.returns-then-end-since-clause-cells
returns-then-end-since-clause-cells c =
    let e : until c.args.oldest c.self.inside.selected.time ≡ c.match-oldest.since = elim c.match-oldest.branch [
      | in-Nobody w ↦ ap (λ (o : Oldest). until o c.self.inside.selected.time) w.in-Nobody.is ∙ sym (w.since-is ∙ (w.time-since.ensures ∙ c.give_back.ensures.kept.2))
      | in-Started w ↦ ap (λ (o : Oldest). until o c.self.inside.selected.time) w.in-Started.is ∙ sym w.since-is
    ] in
    let low : c.in-Retired.end ≤ until c.args.oldest c.self.inside.selected.time = omega (arith, c.if-end-since.true, e) in
    let m = pair_of c.give_back.new.self c.clear.new.self other.Free c.self.inside.number in
    subst (λ (l : Living). KeepsAllReached (until c.args.oldest l.selected.time) l m) c.self.view_is
    (subst (λ (x : Other). KeepsAllReached (until c.args.oldest c.self.inside.selected.time) (pair_of c.self.inside.selected c.self.inside.other x c.self.inside.number) m) (sym c.in-Retired.is)
    (reached_freed (until c.args.oldest c.self.inside.selected.time) c.in-Retired.end c.self.inside.selected c.give_back.new.self c.self.inside.other c.clear.new.self c.self.inside.number low c.give_back.ensures.cells))

pub returns-else-end-since-clause-cells : goal.returns-else-end-since-clause-cells
returns-else-end-since-clause-cells c =
    let s = c.self.inside.selected in
    subst (λ (l : Living). KeepsAllReached (until c.args.oldest l.selected.time) l (pair_of c.give_back.new.self c.self.inside.other c.self.inside.state c.self.inside.number)) c.self.view_is
    (reached_selected (until c.args.oldest s.time) s c.give_back.new.self c.self.inside.other c.self.inside.state c.self.inside.number c.give_back.ensures.cells)

pub returns-then-end-since-clause-back : goal.returns-then-end-since-clause-back
returns-then-end-since-clause-back c =
    let e : until c.args.oldest c.self.inside.selected.time ≡ c.match-oldest.since = elim c.match-oldest.branch [
      | in-Nobody w ↦ ap (λ (o : Oldest). until o c.self.inside.selected.time) w.in-Nobody.is ∙ sym (w.since-is ∙ (w.time-since.ensures ∙ c.give_back.ensures.kept.2))
      | in-Started w ↦ ap (λ (o : Oldest). until o c.self.inside.selected.time) w.in-Started.is ∙ sym w.since-is
    ] in
    let low : c.in-Retired.end ≤ until c.args.oldest c.self.inside.selected.time = omega (arith, c.if-end-since.true, e) in
    let s = c.self.inside.selected in
    let m = pair_of c.give_back.new.self c.clear.new.self other.Free c.self.inside.number in
    subst (λ (l : Living). IsGivenBack (until c.args.oldest l.selected.time) l m) c.self.view_is
    (given_freed (until c.args.oldest s.time) c.in-Retired.end s c.self.inside.other c.give_back.new.self c.clear.new.self c.self.inside.state c.self.inside.number c.in-Retired.is low c.give_back.ensures.shape c.give_back.ensures.kept.0 c.give_back.ensures.kept.2 c.give_back.ensures.given c.give_back.ensures.nodes c.give_back.ensures.leaves)

pub returns-else-end-since-clause-back : goal.returns-else-end-since-clause-back
returns-else-end-since-clause-back c =
    let e : until c.args.oldest c.self.inside.selected.time ≡ c.match-oldest.since = elim c.match-oldest.branch [
      | in-Nobody w ↦ ap (λ (o : Oldest). until o c.self.inside.selected.time) w.in-Nobody.is ∙ sym (w.since-is ∙ (w.time-since.ensures ∙ c.give_back.ensures.kept.2))
      | in-Started w ↦ ap (λ (o : Oldest). until o c.self.inside.selected.time) w.in-Started.is ∙ sym w.since-is
    ] in
    let high : until c.args.oldest c.self.inside.selected.time < c.in-Retired.end = omega (arith, c.if-end-since.false, e) in
    let s = c.self.inside.selected in
    let m = pair_of c.give_back.new.self c.self.inside.other c.self.inside.state c.self.inside.number in
    subst (λ (l : Living). IsGivenBack (until c.args.oldest l.selected.time) l m) c.self.view_is
    (given_kept (until c.args.oldest s.time) s c.self.inside.other c.give_back.new.self c.self.inside.state c.self.inside.number (held_same (until c.args.oldest s.time) c.in-Retired.end c.self.inside.state c.in-Retired.is high) c.give_back.ensures.shape c.give_back.ensures.kept.0 c.give_back.ensures.kept.2 c.give_back.ensures.given c.give_back.ensures.nodes c.give_back.ensures.leaves)

pub returns-then-end-since-clause-just : goal.returns-then-end-since-clause-just
returns-then-end-since-clause-just c = λ nodes leaves g. c.give_back.ensures.just nodes leaves (subst (λ (l : Living). GaveBack (until c.args.oldest l.selected.time) l.selected nodes leaves) (sym c.self.view_is) g)

pub returns-else-end-since-clause-just : goal.returns-else-end-since-clause-just
returns-else-end-since-clause-just c = λ nodes leaves g. c.give_back.ensures.just nodes leaves (subst (λ (l : Living). GaveBack (until c.args.oldest l.selected.time) l.selected nodes leaves) (sym c.self.view_is) g)
