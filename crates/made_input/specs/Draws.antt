-- Draws of a linear congruential generator (Knuth, The Art of Computer Programming, vol. 2, third edition, 3.2.1): the next state is the product with a multiplier and an increment more, modulo 2^64. Multiplier and increment are those of Knuth's MMIX; the multiplier stands in table 1 of 3.3.4.
use Rattle.std.specs.Prelude.{ℕ, zero, suc, ◌+◌, ◌*◌, ◌/◌, ◌%◌, ◌^◌}

unfoldable pub next_state : ℕ → ℕ
next_state x = (6364136223846793005 * x + 1442695040888963407) % 2 ^ 64

-- the state n steps after a state
unfoldable pub state_after : ℕ → ℕ → ℕ
state_after x zero = x
state_after x (suc k) = next_state (state_after x k)

-- Draw k after a state, from 0: the 31 highest bits of the state that it leads to. Lower bits of such states repeat sooner (3.2.1.1).
unfoldable pub draw : ℕ → ℕ → ℕ
draw x k = state_after x (k + 1) / 2 ^ 33
