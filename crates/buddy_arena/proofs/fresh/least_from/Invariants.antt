use Rattle.std.proofs.Common.{◌≡◌, ℕ, ◌<◌, ◌≤◌, None}
use Rattle.buddy_arena.specs.Fresh.{kept_at}
use Rattle.buddy_arena.proofs.fresh.least_from.Given as goal

abbrev pub invariant-loop-at : goal.invariant-loop-at
invariant-loop-at l = (i : ℕ) → l.order ≤ i → i < l.at → kept_at l.places i ≡ None
