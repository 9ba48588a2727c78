use Rattle.std.proofs.Common.{◌≡◌, ◌-◌, length, map, get_or, min, sym, ap, subst, refl, ◌∙◌, arith}
use Rattle.std.specs.Prelude.{position}
use Rattle.fib_addr.specs.Views.{prefix_as}
use Rattle.fib_rov.specs.Rov.{covers_route, decided, matches}
use Rattle.fib_rov.specs.Views.{vrp_as, allows}
use Rattle.fib_rov.specs.declared.numbered.Numbered.{Numbered}
use Rattle.fib_rov.specs.Index.{place_at, vrp_of}
use Rattle.fib_rov.proofs.Same.{is_prefix}
use Rattle.fib_rov.proofs.Least.{Least, covering, matching, least_start, least_further, least_taken, least_passed, least_end, matching_is, only_covering, only_matching, place_is}
use Rattle.fib_rov.proofs.vrps.decide.Goals as goal
use Rattle.fib_rov.proofs.vrps.decide.Goals.{then-allows, else-allows}

pub loop-at-init : goal.loop-at-init
loop-at-init c =
    let p = prefix_as c.args.prefix.now in
    let list = c.args.list.now in
    let sorted = c.args.sorted.now in
    let last = c.last_covering-at.ensures in
    record {
      few = last.few;
      covers = last.passes;
      covering = least_further (covering p) list sorted p _ _ _ (only_covering p) last (least_start (covering p) list sorted);
      matching = least_further (matching p c.args.origin) list sorted p _ _ _ (only_matching p c.args.origin) last (least_start (matching p c.args.origin) list sorted);
    }

pub loop-at-preserved : goal.loop-at-preserved
loop-at-preserved c =
    let p = prefix_as c.args.prefix.now in
    let origin = c.args.origin in
    let list = c.args.list.now in
    let sorted = c.args.sorted.now in
    let at = c.loop-at.at in
    let r = c.index-sorted-at.result in
    let here : Numbered = get_or sorted (at - 1) r in
    let met = c.loop-at.invariant in
    let on = met.covers r c.loop-at-test.true in
    let next = c.covering_before-at.ensures p r (is_prefix c.args.prefix.now) on in
    let number : r.number ≡ here.number = ap (λ (x : Numbered). x.number) c.index-sorted-at.is in
    let test : matching p origin (vrp_of here) ≡ c.allows.result =
    matching_is c.args.prefix.now origin here on ∙ (ap (allows c.args.prefix.now.len origin) (sym (c.vrp.ensures ∙ ap vrp_of c.index-sorted-at.is)) ∙ sym c.allows.ensures) in
    record {
      few = omega (arith, met.few, next.few);
      covers = next.passes;
      covering =
          subst (Least (covering p) list sorted c.covering_before-at.result) (sym (c.min-covering.ensures ∙ ap (min c.loop-at.covering) number))
          (least_further (covering p) list sorted p _ _ _ (only_covering p) next (least_taken (covering p) list sorted at c.loop-at.covering r c.requires.same c.loop-at-test.true met.few on met.covering));
      matching =
          least_further (matching p origin) list sorted p (at - 1) c.covering_before-at.result c.if-allows.matching (only_matching p origin) next (elim c.if-allows.branch [
            | then-allows w ↦ subst (Least (matching p origin) list sorted (at - 1)) (sym (w.matching-is ∙ (w.min-matching.ensures ∙ ap (min c.loop-at.matching) number)))
                (least_taken (matching p origin) list sorted at c.loop-at.matching r c.requires.same c.loop-at-test.true met.few (test ∙ w.if-allows.true) met.matching)
            | else-allows w ↦ subst (Least (matching p origin) list sorted (at - 1)) (sym w.matching-is)
                (least_passed (matching p origin) list sorted at c.loop-at.matching r c.loop-at-test.true met.few (test ∙ w.if-allows.false) met.matching)
          ]);
    }

pub loop-at-smaller : goal.loop-at-smaller
loop-at-smaller c =
    let next = c.covering_before-at.ensures (prefix_as c.args.prefix.now) c.index-sorted-at.result (is_prefix c.args.prefix.now) (c.loop-at.invariant.covers c.index-sorted-at.result c.loop-at-test.true) in
    omega (arith, next.few, c.loop-at-test.true)

pub returns : goal.returns
returns c =
    let p = prefix_as c.args.prefix.now in
    let origin = c.args.origin in
    let list = c.args.list.now in
    let sorted = c.args.sorted.now in
    let met = c.loop-at.invariant in
    let all : c.loop-at.at ≡ 0 = omega (arith, c.loop-at-test.false) in
    let covered = least_end (covering p) list sorted c.loop-at.covering c.requires.same (subst (λ n. Least (covering p) list sorted n c.loop-at.covering) all met.covering) in
    let matched = least_end (matching p origin) list sorted c.loop-at.matching c.requires.same (subst (λ n. Least (matching p origin) list sorted n c.loop-at.matching) all met.matching) in
    c.state.ensures ∙ (ap (λ o. decided o (place_at c.loop-at.covering (length list))) (place_is (matches p origin) vrp_as list c.loop-at.matching (length list) matched refl)
    ∙ ap (decided (position (matches p origin) (map vrp_as list))) (place_is (covers_route p) vrp_as list c.loop-at.covering (length list) covered refl))
