use Rattle.std.proofs.Common.{◌≡◌, ℕ, ◌+◌, ◌-◌, ◌<◌, ◌≤◌, ◌/◌, ◌%◌, ◌^◌, arith, ap, sym, ◌∙◌, nat_eq}
use Rattle.std.specs.Prelude.{bit_and, min}
use Rattle.std.specs.Int.{bit_at}
use Rattle.std.proofs.lemmas.Nat.{and_mask, shr-shr}
use Rattle.std.proofs.lemmas.Nat.Bits.{bit_at-lt, bit_at_and, bit_at_ones}
use Rattle.orig_tree.proofs.path.bit_at.Goals as goal

-- a number's lowest bits are those of what is left of it
low_bit : (n k i : ℕ) → i < k → bit_at (n % 2 ^ k) i ≡ bit_at n i
low_bit n k i l =
    let e : bit_at (n % 2 ^ k) i ≡ bit_at (bit_and n (2 ^ k - 1)) i = ap (λ x. bit_at x i) (sym (and_mask n k)) in
    let ones : bit_at (2 ^ k - 1) i ≡ 1 = bit_at_ones k i l in
    let both : bit_at (bit_and n (2 ^ k - 1)) i ≡ min (bit_at n i) (bit_at (2 ^ k - 1) i) = bit_at_and n (2 ^ k - 1) i in
    e ∙ omega (arith, both, ones, bit_at-lt n i)

-- and its highest those of the number shifted
high_bit : (n k i : ℕ) → k ≤ i → bit_at (n / 2 ^ k) (i - k) ≡ bit_at n i
high_bit n k i l =
    let e : k + (i - k) ≡ i = omega (arith, l) in
    ap (λ x. x % 2) (shr-shr n k (i - k)) ∙ ap (bit_at n) e

pub returns-then-place-lt64 : goal.returns-then-place-lt64
returns-then-place-lt64 c = c.bit_of.ensures ∙ ap (λ x. nat_eq x 1) (low_bit c.args.bits 64 c.args.place c.if-place-lt64.true)

pub returns : goal.returns
returns c = c.bit_of-2.ensures ∙ ap (λ x. nat_eq x 1) (high_bit c.args.bits 64 c.args.place c.if-place-lt64.false)
