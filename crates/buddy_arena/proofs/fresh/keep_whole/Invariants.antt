use Rattle.std.proofs.Common.{◌≡◌, ℕ, ◌<◌, None}
use Rattle.buddy_arena.specs.Fresh.{kept_at}
use Rattle.buddy_arena.proofs.fresh.keep_whole.Given as goal

abbrev pub invariant-loop-place : goal.invariant-loop-place
invariant-loop-place l = (i : ℕ) → i < l.place-index → kept_at l.places i ≡ None
