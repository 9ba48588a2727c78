use Rattle.std.proofs.Common.{◌≡◌, ℕ, ◌+◌, ◌-◌, ◌/◌, ◌^◌, ◌≤◌, true, not, nat_eq, sym, subst, ◌↔◌}
use Rattle.table_model.specs.Width.{width}
use Rattle.cert_check.proofs.Holding.{past_is}
use Rattle.cert_check.proofs.runs.is_past.Goals as goal

pub returns-then-unused-lt128 : goal.returns-then-unused-lt128
returns-then-unused-lt128 c = λ lt.
    let x = c.args.number in
    let p = c.args.prefix.now in
    subst (λ (w : ℕ). (not (nat_eq (x / 2 ^ (w - p.len)) (p.bits / 2 ^ (w - p.len))) ≡ true) ↔ (p.bits + 2 ^ (width p.family - p.len) ≤ x)) (sym c.width.ensures)
    (past_is x p.bits (width p.family - p.len) lt p.cleared)
