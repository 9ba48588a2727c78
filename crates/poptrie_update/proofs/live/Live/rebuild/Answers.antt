use Rattle.std.proofs.Common.{rules, ◌≡◌, ◌≤◌, sym, ap, ◌∙◌, subst, arith, refl}
use Rattle.poptrie_update.specs.Lives.{Living, IsSetPair}
use Rattle.poptrie_update.specs.Fits.{Fits}
use Rattle.poptrie_update.specs.Prepares.{RunsShort, refusal_in}
use Rattle.poptrie_update.specs.declared.live.Other.{Other}
use Rattle.poptrie_update.specs.declared.live.Other.TheVariants as other
use Rattle.poptrie_update.proofs.Pair.{fits_built, fits_empty}
use Rattle.poptrie_update.proofs.Short.{short_of_nodes, short_of_leaves, order_low}
use Rattle.poptrie_update.specs.Cells.{KeepsAllReached}
use Rattle.poptrie_update.proofs.Unreached.{reached_free, pair_of}
use Rattle.poptrie_update.proofs.As_before.{same_other}
use Rattle.poptrie_update.specs.Undone.{IsSameOther}
use Rattle.poptrie_update.proofs.live.Live.rebuild.Goals as goal
use Rattle.poptrie_update.proofs.live.Live.rebuild.Goals.{in-NodesOut, in-LeavesOut}

pub returns-in-Ok-clause-fits : goal.returns-in-Ok-clause-fits
returns-in-Ok-clause-fits g c = λ os f.
    let free : c.self.inside.state ≡ other.Free = search rules in
    fits_built c.self.inside.selected c.self.inside.other c.fill.new.self c.self.inside.number os (subst (λ (x : Other). Fits (record { selected = c.self.inside.selected; other = c.self.inside.other; state = x; number = c.self.inside.number }) os) free (subst (λ (l : Living). Fits l os) (sym c.self.view_is) f))

pub returns-in-Err-clause-fits : goal.returns-in-Err-clause-fits
returns-in-Err-clause-fits g c = λ os f.
    let free : c.self.inside.state ≡ other.Free = search rules in
    subst (λ (x : Other). Fits (record { selected = c.self.inside.selected; other = c.fill.new.self; state = x; number = c.self.inside.number }) os) (sym free)
    (fits_empty c.self.inside.selected c.self.inside.other c.fill.new.self c.self.inside.number os (subst (λ (x : Other). Fits (record { selected = c.self.inside.selected; other = c.self.inside.other; state = x; number = c.self.inside.number }) os) free (subst (λ (l : Living). Fits l os) (sym c.self.view_is) f)))

pub returns-in-Retired-Started-clause-refused : goal.returns-in-Retired-Started-clause-refused
returns-in-Retired-Started-clause-refused g c = λ L M e out.
    let s = c.args.self.now.selected in
    let all : (c.match-why.arena.0 ≤ 1) × RunsShort s L M s.nodes.space s.leaves.space (refusal_in c.match-why.arena.0 c.match-why.arena.1) = elim c.match-why.branch [
      | in-NodesOut w ↦ rw w.arena-is (omega arith, short_of_nodes s L M c.args.why _ w.in-NodesOut.is out)
      | in-LeavesOut w ↦ rw w.arena-is (omega arith, short_of_leaves s L M c.args.why _ w.in-LeavesOut.is out)
    ] in
    let low = order_low s L M (subst (λ (l : Living). l.selected.nodes.space.order ≤ 26) c.self.view_is c.self.invariant.nodes_small) (subst (λ (l : Living). l.selected.leaves.space.order ≤ 26) c.self.view_is c.self.invariant.leaves_small) c.match-why.arena.0 c.match-why.arena.1 all.1 in (
      c.match-why.arena.1,
      refl,
      (c.in-Retired-Started.since, c.in-Retired-Started.end, c.in-Retired-Started.is-1, ap (λ (l : Living). l.state) (sym c.self.view_is) ∙ c.in-Retired-Started.is-0),
      all.0,
      c.places.ensures low,
      all.1,
    )

pub returns-in-Ok-clause-cells : goal.returns-in-Ok-clause-cells
returns-in-Ok-clause-cells g c =
    let free : c.self.inside.state ≡ other.Free = search rules in
    let m = pair_of c.self.inside.selected c.fill.new.self other.Built c.self.inside.number in
    subst (λ (l : Living). KeepsAllReached 0 l m) c.self.view_is
    (subst (λ (x : Other). KeepsAllReached 0 (pair_of c.self.inside.selected c.self.inside.other x c.self.inside.number) m) (sym free) (reached_free c.self.inside.selected c.self.inside.other c.fill.new.self other.Built c.self.inside.number))

pub returns-in-Err-clause-cells : goal.returns-in-Err-clause-cells
returns-in-Err-clause-cells g c =
    let free : c.self.inside.state ≡ other.Free = search rules in
    subst (λ (l : Living). KeepsAllReached 0 l (pair_of c.self.inside.selected c.fill.new.self c.self.inside.state c.self.inside.number)) c.self.view_is
    (subst (λ (x : Other). KeepsAllReached 0 (pair_of c.self.inside.selected c.self.inside.other x c.self.inside.number) (pair_of c.self.inside.selected c.fill.new.self x c.self.inside.number)) (sym free) (reached_free c.self.inside.selected c.self.inside.other c.fill.new.self other.Free c.self.inside.number))

pub returns-in-Err-clause-other : goal.returns-in-Err-clause-other
returns-in-Err-clause-other g c =
    let free : c.self.inside.state ≡ other.Free = search rules in
    subst (λ (l : Living). IsSameOther l.state l.other c.fill.new.self) c.self.view_is
    (subst (λ (x : Other). IsSameOther x c.self.inside.other c.fill.new.self) (sym free) (c.in-Err.ensures.none, c.fill.ensures.retired))

pub returns-in-Memory-clause-pair : goal.returns-in-Memory-clause-pair
returns-in-Memory-clause-pair g c = subst (λ (l : Living). IsSetPair l.selected l.other l.state l.number) c.self.view_is c.self.invariant

pub returns-in-Memory-clause-other : goal.returns-in-Memory-clause-other
returns-in-Memory-clause-other g c = subst (λ (l : Living). IsSameOther l.state l.other l.other) c.self.view_is (same_other c.self.inside.state c.self.inside.selected c.self.inside.other c.self.invariant.holds)

pub returns-in-TooMuch-clause-pair : goal.returns-in-TooMuch-clause-pair
returns-in-TooMuch-clause-pair g c = subst (λ (l : Living). IsSetPair l.selected l.other l.state l.number) c.self.view_is c.self.invariant

pub returns-in-TooMuch-clause-other : goal.returns-in-TooMuch-clause-other
returns-in-TooMuch-clause-other g c = subst (λ (l : Living). IsSameOther l.state l.other l.other) c.self.view_is (same_other c.self.inside.state c.self.inside.selected c.self.inside.other c.self.invariant.holds)

pub returns-in-Retired-Started-clause-pair : goal.returns-in-Retired-Started-clause-pair
returns-in-Retired-Started-clause-pair g c = subst (λ (l : Living). IsSetPair l.selected l.other l.state l.number) c.self.view_is c.self.invariant

pub returns-in-Retired-Started-clause-other : goal.returns-in-Retired-Started-clause-other
returns-in-Retired-Started-clause-other g c = subst (λ (l : Living). IsSameOther l.state l.other l.other) c.self.view_is (same_other c.self.inside.state c.self.inside.selected c.self.inside.other c.self.invariant.holds)
