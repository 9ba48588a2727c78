-- What a change of a route costs: the sets that it computes.
use Rattle.std.specs.Prelude.{ℕ, suc, List, [], ◌∷◌, length, Bool, Option, Some, None}
use Rattle.orig_tree.specs.Arena.{cell_at, half_place}
use Rattle.orig_tree.specs.declared.node.Node.{Node}

-- how many nodes are made, or would be, for the path q to be a node, if f says how many there are below a place
abbrev pub new_from : (ℕ → ℕ) → List Bool → Option ℕ → ℕ
new_from f q None = suc (length q)
new_from f q (Some j) = f j

-- the same from place i on
unfoldable pub new_nodes : List Node → List Bool → ℕ → ℕ
new_nodes cells [] i = 0
new_nodes cells (b ∷ q) i = new_from (λ j. new_nodes cells q j) q (half_place (cell_at cells i) b)

-- and from a half on, which may be no node
abbrev pub new_behind : List Node → List Bool → Option ℕ → ℕ
new_behind cells q half = new_from (λ j. new_nodes cells q j) q half
