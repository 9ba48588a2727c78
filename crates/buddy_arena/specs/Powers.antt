-- The least power of two that is at least a number.
use Rattle.std.specs.Prelude.{ℕ, zero, suc, ◌*◌, cond, nat_le}

-- the first of p, 2 p, 4 p, .. that is at least n, of at most k doublings
unfoldable pub up_from : ℕ → ℕ → ℕ → ℕ
up_from zero p n = p
up_from (suc k) p n = cond (nat_le n p) p (up_from k (2 * p) n)

-- the least power of two that is at least n, 0 for 0
unfoldable pub up : ℕ → ℕ
up zero = 0
up (suc n) = up_from (suc n) 1 (suc n)
