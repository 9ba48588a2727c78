use Rattle.std.proofs.Common.{◌≡◌, ap, sym, refl, ◌∙◌}
use denote.Enum.Bare.{sameb}
use Rattle.table_model.specs.Address.{same_family}
use Rattle.table_model.specs.contracts.family.Family.{the_type}
use Rattle.table_model.specs.declared.family.Family.{Family}
use Rattle.table_model.specs.declared.family.Family.TheVariants.{V4, V6}
use Rattle.cert_check.proofs.Deals.{this_family, other_family}
use Rattle.cert_check.proofs.runs.parts_of.Goals.{then-eq+in_ok-push, else-eq}
use Rattle.cert_check.proofs.runs.parts_of.Goals as goal

test_is : (f g : Family) → sameb the_type f g ≡ same_family g f
test_is V4 V4 = refl
test_is V4 V6 = refl
test_is V6 V4 = refl
test_is V6 V6 = refl

pub loop-entry-preserved : goal.loop-entry-preserved
loop-entry-preserved c =
    let e = c.entry-item.result in
    let test : c.eq.result ≡ same_family c.args.family e.prefix.family = c.eq.ensures ∙ test_is e.prefix.family c.args.family in
    elim c.if-eq.branch [
      | then-eq+in_ok-push w ↦
          this_family c.args.family c.args.entries.now c.loop-entry.entry-index e c.loop-entry.parts.items c.if-eq.parts.items c.loop-entry-test.true c.entry-item.is (sym test ∙ w.if-eq.true) c.loop-entry.invariant
          (ap (λ v. v.items) w.parts-is ∙ w.in_ok-push.ensures.items)
      | else-eq w ↦
          other_family c.args.family c.args.entries.now c.loop-entry.entry-index e c.loop-entry.parts.items c.if-eq.parts.items c.loop-entry-test.true c.entry-item.is (sym test ∙ w.if-eq.false) c.loop-entry.invariant
          (ap (λ v. v.items) w.parts-is)
    ]
