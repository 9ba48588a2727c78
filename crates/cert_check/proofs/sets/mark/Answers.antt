use Rattle.std.proofs.Common.{◌≡◌, ℕ, ◌+◌, ◌<◌, List, Bool, true, false, length, get_or, set, take, take_all, nat_eq, eq-eqb, refl, sym, ap, subst, ◌∙◌, arith, length-set}
use Rattle.std.specs.Prelude.{◌||◌}
use Rattle.std.proofs.lemmas.Bool.{eqb-true, eqb-false, or_right}
use Rattle.std.proofs.lemmas.List.{get_or-set_same, get_or-set_other}
use Rattle.std.proofs.lemmas.List.Folds.{list_any_more}
use Rattle.table_model.specs.Sets.{is_in}
use Rattle.cert_check.specs.Marks.{AreMarks}
use Rattle.cert_check.proofs.sets.mark.Goals as goal

-- all marks are below the number still
still_marks : (marks : List ℕ) (hop stamp : ℕ) → AreMarks (stamp + 1) marks → hop < length marks → AreMarks (stamp + 1) (set marks hop stamp)
still_marks marks hop stamp are fits = (length-set marks hop stamp ∙ are.0, λ h. by_test h (nat_eq hop h) refl)
  where
    by_test : (h : ℕ) (t : Bool) → nat_eq hop h ≡ t → get_or (set marks hop stamp) h 0 < stamp + 1
    by_test h true e =
        let put : get_or (set marks hop stamp) h 0 ≡ stamp = ap (λ j. get_or (set marks hop stamp) j 0) (sym (eqb-true hop h e)) ∙ get_or-set_same marks hop stamp 0 fits in
        omega (arith, put)
    by_test h false e = subst (λ (m : ℕ). m < stamp + 1) (sym (get_or-set_other marks hop h stamp 0 (λ s. eqb-false hop h e (sym s)))) (are.1 h)

or_no : (b : Bool) → (b || false) ≡ b
or_no true = refl
or_no false = refl

-- one more hop of the set is marked
marked_more : (hops marks : List ℕ) (i stamp hop h : ℕ) → i < length hops → hop ≡ get_or hops i 0 → h < length marks → nat_eq (get_or marks h 0) stamp ≡ is_in h (take i hops)
    → nat_eq (get_or (set marks hop stamp) h 0) stamp ≡ is_in h (take (i + 1) hops)
marked_more hops marks i stamp hop h lt is few so_far = by_test (nat_eq hop h) refl
  where
    more : is_in h (take (i + 1) hops) ≡ (is_in h (take i hops) || nat_eq hop h)
    more = list_any_more (λ g. nat_eq g h) hops i 0 lt ∙ ap (λ g. is_in h (take i hops) || nat_eq g h) (sym is)

    by_test : (t : Bool) → nat_eq hop h ≡ t → nat_eq (get_or (set marks hop stamp) h 0) stamp ≡ is_in h (take (i + 1) hops)
    by_test true e =
        let put : get_or (set marks hop stamp) h 0 ≡ stamp = ap (λ j. get_or (set marks j stamp) h 0) (eqb-true hop h e) ∙ get_or-set_same marks h stamp 0 few in
        eq-eqb _ stamp put ∙ sym (more ∙ or_right (is_in h (take i hops)) (nat_eq hop h) e)
    by_test false e =
        let kept : get_or (set marks hop stamp) h 0 ≡ get_or marks h 0 = get_or-set_other marks hop h stamp 0 (λ s. eqb-false hop h e (sym s)) in
        ap (λ m. nat_eq m stamp) kept ∙ (so_far ∙ sym (more ∙ (ap (λ t. is_in h (take i hops) || t) e ∙ or_no (is_in h (take i hops)))))

pub loop-hop-preserved : goal.loop-hop-preserved
loop-hop-preserved c =
    let marks = c.loop-hop.marks.items in
    let so_far = c.loop-hop.invariant in
    let fits : c.from.result < length marks = omega (arith, so_far.0.0, c.from.ensures, c.type_inv.hops c.loop-hop.hop-index) in (
      still_marks marks c.from.result c.args.stamp so_far.0 fits,
      λ h few. marked_more c.args.hops.now marks c.loop-hop.hop-index c.args.stamp c.from.result h c.loop-hop-test.true c.from.ensures (subst (λ (n : ℕ). h < n) (sym so_far.0.0) few) (so_far.1 h few),
    )

pub returns : goal.returns
returns c = record {
  marks = c.loop-hop.invariant.0;
  marked = λ h few. c.loop-hop.invariant.1 h few ∙ ap (is_in h) (take_all c.loop-hop.hop-index c.args.hops.now c.loop-hop-test.false);
}
