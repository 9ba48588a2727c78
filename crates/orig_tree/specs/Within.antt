-- How many nodes there are within a prefix.
use Rattle.std.specs.Prelude.{ℕ, ◌^◌, ◌-◌, min, List, Bool, length}
use Rattle.std.specs.List.{filter}
use Rattle.table_model.specs.Bits.{begins}

-- the nodes at p or within p
abbrev pub nodes_in : List Bool → List (List Bool) → ℕ
nodes_in p nodes = length (filter (λ q. begins p q) nodes)

-- a number as it is reported: 2^64 - 1 stands for all that are greater
abbrev pub told : ℕ → ℕ
told n = min n (2 ^ 64 - 1)
