use Rattle.std.proofs.Common.{◌≡◌, ◌<◌, ◌-◌, ◌≤◌, ◌∙◌, sym, refl, length, get_or, arith, true, false}
use Rattle.std.proofs.lemmas.Bool.{not-false, not-true}
use Rattle.std.specs.BTreeSet as set
use Rattle.fib_addr.specs.Order.{code_cmp}
use Rattle.cert_check.proofs.Later.{later_keys, stands_again, stands_once}
use Rattle.cert_check.proofs.repeats.first_again.Goals as goal

pub loop-i-preserved-then-not-branch : goal.loop-i-preserved-then-not-branch
loop-i-preserved-then-not-branch c =
    let es = c.args.entries.now in
    let i = c.loop-i.i in
    let z = c.index-entries-i.result in
    let e = get_or es (i - 1) z in
    let some : 0 < i = c.loop-i-test.true in
    let le : i ≤ length es = c.loop-i.invariant.0 in
    let held = set.contains code_cmp c.loop-i.later e.prefix in
    let yes' : held ≡ true = not-false held (sym c.in_ok-insert.ensures.added ∙ c.if-not-branch.true) in
    (omega (arith, le), (λ q. later_keys es i e z q _ _ some le refl (c.loop-i.invariant.1 q) (c.in_ok-insert.ensures.updates.0 q)), stands_again es i e z held some le refl (c.loop-i.invariant.1 e.prefix) yes')

pub loop-i-preserved : goal.loop-i-preserved
loop-i-preserved c =
    let es = c.args.entries.now in
    let i = c.loop-i.i in
    let z = c.index-entries-i.result in
    let e = get_or es (i - 1) z in
    let some : 0 < i = c.loop-i-test.true in
    let le : i ≤ length es = c.loop-i.invariant.0 in
    let held = set.contains code_cmp c.loop-i.later e.prefix in
    let no' : held ≡ false = not-true held (sym c.in_ok-insert.ensures.added ∙ c.if-not-branch.false) in (
      omega (arith, le),
      (λ q. later_keys es i e z q _ _ some le refl (c.loop-i.invariant.1 q) (c.in_ok-insert.ensures.updates.0 q)),
      stands_once es i e z held _ some le refl (c.loop-i.invariant.1 e.prefix) no' c.loop-i.invariant.2,
    )
