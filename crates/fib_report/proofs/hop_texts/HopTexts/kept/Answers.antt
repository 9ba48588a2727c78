use Rattle.std.proofs.Common.{◌≡◌, suc, arith}
use Rattle.fib_report.proofs.Kept.{kept_hop, kept_text}
use Rattle.fib_report.proofs.hop_texts.HopTexts.kept.Goals as goal

pub returns-clause-text : goal.returns-clause-text
returns-clause-text c =
    let number : c.args.hop.0 ≡ suc c.in_ok-place.place = omega (arith, c.in_ok-place.ensures.0, c.in_ok-place.ensures.1, c.from.ensures) in
    rw (← c.self.view_is) (kept_text _ _ c.args.hop.0 c.in_ok-place.place c.get.result c.self.invariant number (rw c.deref.ensures.value at c.get.ensures.lookup.0) (rw c.deref.ensures.value at c.get.ensures.lookup.1))

pub returns-clause-hop : goal.returns-clause-hop
returns-clause-hop c =
    let number : c.args.hop.0 ≡ suc c.in_ok-place.place = omega (arith, c.in_ok-place.ensures.0, c.in_ok-place.ensures.1, c.from.ensures) in
    rw (← c.self.view_is) (kept_hop _ _ c.args.hop.0 c.in_ok-place.place c.get.result c.self.invariant number (rw c.deref.ensures.value at c.get.ensures.lookup.0) (rw c.deref.ensures.value at c.get.ensures.lookup.1))
