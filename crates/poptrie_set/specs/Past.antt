-- The needs of the versions so far, which bound what is retired.
use Rattle.std.specs.Prelude.{◌≡◌, ℕ, suc, ◌+◌, ◌≤◌, List, [], ◌∷◌, cond, nat_eq, slice_index_or, length}
use Rattle.buddy_arena.specs.Blocks.{Retired}
use Rattle.poptrie_set.specs.Lives.{Seen}

-- the places of the blocks retired at this end
abbrev pub retired_at : ℕ → List Retired → ℕ
retired_at t [] = 0
retired_at t (r ∷ rest) = cond (nat_eq r.end t) (r.block.1 + retired_at t rest) (retired_at t rest)

-- the list has for each end so far the needs of the version before it: the first end's is its first
pub record PastIn (l : Seen) (node_needs leaf_needs : List ℕ) : Type 0 where
  pub node_ends : length node_needs ≡ l.time
  pub leaf_ends : length leaf_needs ≡ l.time
  pub nodes : (t : ℕ) → retired_at (suc t) l.nodes.retired ≤ slice_index_or node_needs t 0
  pub leaves : (t : ℕ) → retired_at (suc t) l.leaves.retired ≤ slice_index_or leaf_needs t 0
