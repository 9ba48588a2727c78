use Rattle.std.proofs.Common.{◌≡◌, ℕ, ◌+◌, ◌<◌, List, [], ◌∷◌, ◌++◌, Bool, true, false, cond, length, get_or, take, take_all, nat_eq, eq-eqb, sym, ap, subst, ◌∙◌, arith, append-nil}
use Rattle.std.proofs.lemmas.Bool.{ne_eqb}
use Rattle.std.proofs.lemmas.List.{get_or_read}
use Rattle.std.proofs.lemmas.List.Elements.{filter_more}
use Rattle.table_model.specs.Sets.{common, is_in}
use Rattle.cert_check.proofs.sets.common_hops.Goals.{then-index-stamp+in_ok-push, else-index-stamp}
use Rattle.cert_check.proofs.sets.common_hops.Goals as goal

-- one more hop is kept exactly where the other set has it
kept_more : (low high : List ℕ) (i hop : ℕ) (old new : List ℕ) (t : Bool) → i < length low → hop ≡ get_or low i 0 → is_in hop high ≡ t → old ≡ common (take i low) high → new ≡ old ++ cond t (hop ∷ []) [] → new ≡ common (take (i + 1) low) high
kept_more low high i hop old new t lt is test so_far grown =
    grown
    ∙ (ap (λ kept. kept ++ cond t (hop ∷ []) []) so_far
    ∙ (ap (λ b. common (take i low) high ++ cond b (hop ∷ []) []) (sym test)
    ∙ (ap (λ g. common (take i low) high ++ cond (is_in g high) (g ∷ []) []) is ∙ sym (filter_more (λ h. is_in h high) low i 0 lt))))

pub loop-hop-preserved : goal.loop-hop-preserved
loop-hop-preserved c =
    let low = c.args.low.now in
    let high = c.args.high.now in
    let i = c.loop-hop.hop-index in
    let hop = c.from.result in
    let marks = c.mark.new.marks.items in
    let few : hop < 65536 = omega (arith, c.from.ensures, c.type_inv.low i) in
    let read : c.index.result.now ≡ get_or marks hop 0 = get_or_read marks _ _ (subst (λ (n : ℕ). hop < n) (sym c.mark.ensures.marks.0) few) c.index.ensures 0 in
    let marked : nat_eq (get_or marks hop 0) c.args.stamp ≡ is_in hop high = c.mark.ensures.marked hop few in
    elim c.if-index-stamp.branch [
      | then-index-stamp+in_ok-push w ↦
          kept_more low high i hop _ _ true c.loop-hop-test.true c.from.ensures (sym marked ∙ eq-eqb _ _ (sym read ∙ w.if-index-stamp.true)) c.loop-hop.invariant
          (ap (λ v. v.items) w.both-is ∙ (w.in_ok-push.ensures.ok ∙ ap (λ g. c.loop-hop.both.items ++ g ∷ []) (sym c.from.ensures)))
      | else-index-stamp w ↦
          kept_more low high i hop _ _ false c.loop-hop-test.true c.from.ensures (sym marked ∙ ne_eqb _ _ (λ e. w.if-index-stamp.false (read ∙ e))) c.loop-hop.invariant
          (ap (λ v. v.items) w.both-is ∙ sym (append-nil c.loop-hop.both.items))
    ]

pub returns : goal.returns
returns c = record {
  marks = c.mark.ensures.marks;
  common = c.loop-hop.invariant ∙ ap (λ low. common low c.args.high.now) (take_all c.loop-hop.hop-index c.args.low.now c.loop-hop-test.false);
}
