-- One bit of a number, tested.
use Rattle.std.proofs.Common.{◌≡◌, ◌≢◌, ℕ, zero, suc, ◌/◌, ◌^◌, ◌<◌, bit_and, refl, sym, ◌∙◌, arith}
use Rattle.std.specs.Int.{bit_at}
use Rattle.std.proofs.lemmas.Nat.Bits.{shr_and_one, bit_at-lt}

pub zero_bit : (n v : ℕ) → bit_and (n / 2 ^ v) 1 ≡ 0 → bit_at n v ≡ 0
zero_bit n v e = sym (shr_and_one n v) ∙ e

pub one_bit : (n v : ℕ) → bit_and (n / 2 ^ v) 1 ≢ 0 → bit_at n v ≡ 1
one_bit n v h = let e = shr_and_one n v in let l = bit_at-lt n v in by (bit_at n v) l (λ z. h (e ∙ z))
  where
    by : (b : ℕ) → b < 2 → (b ≡ 0 → ⊥) → b ≡ 1
    by zero l n = absurd (n refl)
    by (suc zero) l n = refl
    by (suc (suc b)) l n = absurd (omega arith)
