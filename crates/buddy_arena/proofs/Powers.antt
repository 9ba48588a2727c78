-- The least power of two that is at least a number.
use Rattle.std.proofs.Common.{◌≡◌, ℕ, zero, suc, ◌+◌, ◌-◌, ◌*◌, ◌^◌, ◌<◌, ◌≤◌, Bool, true, false, cond, nat_le, refl, sym, ap, arith, subst, inl, inr}
use Rattle.std.specs.Prelude.{◌⊎◌}
use Rattle.std.proofs.lemmas.Bool.Decides.{leb_tells}
use Rattle.std.proofs.lemmas.Bool.{cases_lt}
use Rattle.std.proofs.lemmas.Nat.{pow_pos}
use Rattle.std.proofs.Math.Nat.{pow-succ'}
use Rattle.std.proofs.Math.Pow.{pow_mono}
use Rattle.buddy_arena.specs.Powers.{up, up_from}

pub record IsUp (n m : ℕ) : Type 0 where
  pub place : ℕ
  pub is : m ≡ 2 ^ place
  pub above : n ≤ m
  pub least : (j : ℕ) → n ≤ 2 ^ j → m ≤ 2 ^ j

up_is : (k i n : ℕ) → n ≤ 2 ^ (i + k) → ((j : ℕ) → n ≤ 2 ^ j → i ≤ j) → IsUp n (up_from k (2 ^ i) n)
unfolding up_from
up_is zero i n h low = record {
  place = i;
  is = refl;
  above = (let e : i + zero ≡ i = omega arith in subst (λ (j : ℕ). n ≤ 2 ^ j) e h);
  least = λ j l. pow_mono (low j l);
}
up_is (suc k) i n h low =
    by (λ l. up_is k (suc i) n (let e : i + suc k ≡ suc i + k = omega arith in subst (λ (j : ℕ). n ≤ 2 ^ j) e h)
    (λ j m. next l j m (low j m)))
    (leb_tells n (2 ^ i))
  where
    next : 2 ^ i < n → (j : ℕ) → n ≤ 2 ^ j → i ≤ j → suc i ≤ j
    next l j m le = elim (or_same i j le) [ inl e ↦ absurd (let f : 2 ^ i ≡ 2 ^ j = ap (λ x. 2 ^ x) e in omega arith) | inr s ↦ s ]
      where
        or_same : (a b : ℕ) → a ≤ b → (a ≡ b) ⊎ (suc a ≤ b)
        or_same a b q = grind arith

    by : (2 ^ i < n → IsUp n (up_from k (2 ^ suc i) n)) → ((nat_le n (2 ^ i) ≡ true) × (n ≤ 2 ^ i)) ⊎ ((nat_le n (2 ^ i) ≡ false) × (2 ^ i < n)) → IsUp n (cond (nat_le n (2 ^ i)) (2 ^ i) (up_from k (2 * 2 ^ i) n))
    by more (inl (t, l)) = subst (λ (b : Bool). IsUp n (cond b (2 ^ i) (up_from k (2 * 2 ^ i) n))) (sym t) (record { place = i; is = refl; above = l; least = λ j m. pow_mono (low j m) })
    by more (inr (t, l)) =
        subst (λ (b : Bool). IsUp n (cond b (2 ^ i) (up_from k (2 * 2 ^ i) n))) (sym t)
        (subst (λ (p : ℕ). IsUp n (up_from k p n)) (pow-succ' 2 i) (more l))

below_pow : (n : ℕ) → n ≤ 2 ^ n
below_pow zero = omega (arith, pow_pos 0)
below_pow (suc n) = let h = below_pow n in let p = pow_pos n in let e = pow-succ' 2 n in omega arith

pub up_least : (n : ℕ) → 0 < n → IsUp n (up n)
unfolding up
up_least zero h = absurd (omega arith)
up_least (suc n) h = up_is (suc n) 0 (suc n) (let e : 0 + suc n ≡ suc n = omega arith in subst (λ (j : ℕ). suc n ≤ 2 ^ j) (sym e) (below_pow (suc n))) (λ j l. omega arith)

pub up_zero : up 0 ≡ 0
unfolding up
up_zero = refl

pub up_above : (n : ℕ) → n ≤ up n
unfolding up
up_above zero = omega arith
up_above (suc n) = (up_least (suc n) (omega arith)).above

-- so many doublings as the number before it has bits
pub up_by : (n m : ℕ) → 0 < n → n - 1 < 2 ^ m → 2 ^ m ≤ 2 * (n - 1) + 1 → 2 ^ m ≡ up n
up_by n m h l g =
    let u = up_least n h in
    let low : up n ≤ 2 ^ m = u.least m (omega arith) in
    let high : m ≤ u.place = elim (cases_lt u.place m) [
      | inl a ↦ (let p : 2 ^ suc u.place ≤ 2 ^ m = pow_mono {i = suc u.place} {j = m} (omega arith) in let q = pow-succ' 2 u.place in absurd (omega (arith, u.is, u.above)))
      | inr a ↦ a
    ] in
    let top : 2 ^ m ≤ 2 ^ u.place = pow_mono {i = m} {j = u.place} high in
    omega (arith, u.is)
