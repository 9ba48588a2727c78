-- An arena in which a block is refused.
use Rattle.std.proofs.Common.{◌≡◌, ℕ, ◌+◌, ◌*◌, ◌-◌, ◌^◌, ◌≤◌, List, Bool, length, ap, arith, inl, inr}
use Rattle.std.proofs.lemmas.Bool.{cases_lt}
use Rattle.std.proofs.Math.Pow.{pow_mono}
use Rattle.std.proofs.Math.Nat.{mul-le-mul}
use Rattle.buddy_arena.specs.Space.{free_count}
use Rattle.buddy_arena.specs.declared.arena.Full.{Full}
use Rattle.buddy_arena.proofs.Totals.{total_le}
use Rattle.poptrie_set.proofs.Ranges.{each_range, spread}
use Rattle.poptrie_set.proofs.Short.{IsShort}

-- what is out then is at most the places of a bound
out_few : (order bound t d r : ℕ) → 2 ^ order ≡ t + d → 2 ^ order + r * t ≤ r * 2 ^ order → r ≤ 64 → d ≤ bound → 2 ^ order ≤ 64 * bound
out_few order bound t d r e h small few =
    let s = spread r t d in
    let x : r * 2 ^ order ≡ r * (t + d) = ap (λ n. r * n) e in
    let m : r * d ≤ 64 * bound = mul-le-mul small few in
    omega (arith, s, x, m, h)

pub crowded : (order asked bound : ℕ) (free : List Bool) (e : Full) → length free ≡ 2 ^ order → IsShort order asked free e → 2 ^ order + asked ≤ bound + free_count free → asked ≤ bound → 2 ^ order ≤ 64 * bound
crowded order asked bound free e long s few enough =
    let t = total_le s.then in
    elim (cases_lt order e.order) [
      | inl a ↦ (let p : 2 ^ order ≤ 2 ^ e.order = pow_mono {i = order} {j = e.order} (omega (arith, a)) in let f = total_le free in let l = s.left in omega (arith, p, l, few, f, long, t, s.long, enough))
      | inr a ↦ out_few order bound (free_count s.then) (2 ^ order - free_count s.then) (2 ^ e.order) (omega (arith, t, s.long)) (each_range order e.order s.then s.long a s.none) s.small (omega (arith, s.left, few, t, s.long))
    ]
