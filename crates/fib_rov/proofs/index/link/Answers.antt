use Rattle.std.proofs.Common.{◌-◌, get_or, sym, ap, subst, ◌∙◌, arith}
use Rattle.table_model.specs.Address.{same_prefix}
use Rattle.table_model.proofs.SamePrefix.{same_prefix_is}
use Rattle.fib_addr.specs.Views.{prefix_as}
use Rattle.fib_addr.specs.declared.prefix.Prefix as code
use Rattle.fib_rov.specs.declared.numbered.Numbered.{Numbered}
use Rattle.fib_rov.specs.Index.{IsLast, encloses, vrp_covers, prefix_of, AreUpTo}
use Rattle.fib_rov.proofs.Lasts.{at_place, link_own, link_shared, prefix_at, up_before}
use Rattle.fib_rov.proofs.index.link.Goals as goal
use Rattle.fib_rov.proofs.index.link.Goals.{else-at-gt0-via-then-at-gt0+else-has_prefix_of, else-at-gt0-via-else-at-gt0}

pub last_cover-at-requires-clause-up_to : goal.last_cover-at-requires-clause-up_to
last_cover-at-requires-clause-up_to c =
    subst (λ (p : code.Prefix). AreUpTo (prefix_as p) c.args.sorted.now c.args.place) (sym (c.prefix.ensures ∙ ap prefix_of c.index-sorted-place.is)) (up_before c.args.sorted.now c.args.place c.index-sorted-place.result c.requires.sorted c.requires.within)

pub returns-then-has_prefix_of : goal.returns-then-has_prefix_of
returns-then-has_prefix_of c = λ r.
    let sorted = c.args.sorted.now in
    let q = at_place sorted c.args.place c.index-sorted-place.result in
    let last = subst (λ (p : code.Prefix). IsLast (vrp_covers (prefix_as p)) sorted c.args.place c.last_cover-at.result) (c.prefix.ensures ∙ ap prefix_of c.index-sorted-place.is) c.last_cover-at.ensures in
    subst (λ p. IsLast (encloses p) sorted c.args.place (get_or c.args.links.now (c.last_cover-at.result - 1) 0)) (prefix_at sorted c.args.place c.index-sorted-place.result r c.requires.within)
    (link_shared sorted c.args.links.now c.args.place c.last_cover-at.result q r c.requires.linked c.if-at-gt0.true last
    (λ d. prefix_at sorted (c.last_cover-at.result - 1) d c.index-sorted-at.result (omega (arith, c.if-at-gt0.true, c.last_cover-at.ensures.few, c.requires.within))
    ∙ (ap (λ (x : Numbered). prefix_as (prefix_of x)) (sym c.index-sorted-at.is) ∙ (same_prefix_is (prefix_as (prefix_of c.index-sorted-at.result)) (prefix_as (prefix_of c.index-sorted-place.result)) (sym c.has_prefix_of.ensures ∙ c.if-has_prefix_of.true) ∙ ap (λ (x : Numbered). prefix_as (prefix_of x)) c.index-sorted-place.is))))

pub returns-else-at-gt0 : goal.returns-else-at-gt0
returns-else-at-gt0 c = λ r.
    let sorted = c.args.sorted.now in
    let q = at_place sorted c.args.place c.index-sorted-place.result in
    let last = subst (λ (p : code.Prefix). IsLast (vrp_covers (prefix_as p)) sorted c.args.place c.last_cover-at.result) (c.prefix.ensures ∙ ap prefix_of c.index-sorted-place.is) c.last_cover-at.ensures in
    subst (λ p. IsLast (encloses p) sorted c.args.place c.last_cover-at.result) (prefix_at sorted c.args.place c.index-sorted-place.result r c.requires.within)
    (link_own sorted c.args.place c.last_cover-at.result q last
    (λ d h. elim c.else-at-gt0.branch [
      | else-at-gt0-via-then-at-gt0+else-has_prefix_of w ↦ ap (λ p. same_prefix p q) (prefix_at sorted (c.last_cover-at.result - 1) d w.index-sorted-at.result (omega (arith, h, c.last_cover-at.ensures.few, c.requires.within)) ∙ ap (λ (x : Numbered). prefix_as (prefix_of x)) (sym w.index-sorted-at.is))
          ∙ (ap (same_prefix (prefix_as (prefix_of w.index-sorted-at.result))) (ap (λ (x : Numbered). prefix_as (prefix_of x)) (sym c.index-sorted-place.is)) ∙ (sym w.has_prefix_of.ensures ∙ w.if-has_prefix_of.false))
      | else-at-gt0-via-else-at-gt0 w ↦ absurd (omega (arith, h, w.if-at-gt0.false))
    ]))
