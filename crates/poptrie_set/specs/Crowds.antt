-- Sums of needs, and a set of which nothing is pending.
use Rattle.std.specs.Prelude.{◌≡◌, ℕ, ◌+◌, List, [], ◌∷◌}
use Rattle.poptrie_set.specs.Lives.{Seen}

unfoldable pub sum : List ℕ → ℕ
sum [] = 0
sum (n ∷ ns) = n + sum ns

-- no block was taken for an update
abbrev pub IsStill : Seen → Type 0
IsStill s = (s.nodes.taken ≡ []) × (s.leaves.taken ≡ [])
