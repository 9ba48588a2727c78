use Rattle.std.proofs.Common.{◌≡◌, ◌<◌, refl, sym, ◌∙◌, ℕ, length, arith, Bool, true, false, not, subst, take}
use Rattle.cert_check.specs.Runs.{last_hop}
use Rattle.cert_check.proofs.Aparts.{ended_second, ended_first, both_go_on}
use Rattle.cert_check.proofs.alike.first_apart.Goals as goal

pub returns-then-i-b : goal.returns-then-i-b
returns-then-i-b c =
    ended_second c.args.a.now c.args.b.now c.loop-i.i c.loop-i.hop _ _ c.requires.first c.loop-i-test.true refl c.if-i-b.true c.loop-i.invariant.0 c.loop-i.invariant.2

not_true : (b : Bool) → not b ≡ true → b ≡ false
not_true true e = cc
not_true false e = refl

pub returns-then-ne : goal.returns-then-ne
returns-then-ne c =
    let lt : c.loop-i.i < length c.args.b.now = omega (arith, c.if-i-b.false, c.loop-i.invariant.1) in
    both_go_on c.args.a.now c.args.b.now c.loop-i.i c.loop-i.hop _ _ _ _ c.next_apart.result c.requires.first c.requires.second c.loop-i-test.true lt refl refl (not_true _ (sym c.ne.ensures ∙ c.if-ne.true)) c.loop-i.invariant.0
    c.loop-i.invariant.2 c.next_apart.ensures

pub returns-then-a-b : goal.returns-then-a-b
returns-then-a-b c =
    let a = c.args.a.now in
    let i : c.loop-i.i ≡ length a = omega (arith, c.loop-i.auto.i-end, c.loop-i-test.false) in
    ended_first a c.args.b.now (length a) c.loop-i.hop _ _ c.requires.second c.if-a-b.true refl refl (subst (λ (j : ℕ). take j a ≡ take j c.args.b.now) i c.loop-i.invariant.0)
    (subst (λ (j : ℕ). c.loop-i.hop ≡ last_hop (take j a)) i c.loop-i.invariant.2)
