-- Steady order by numbers: each change has a turn, and none comes before one whose turn is earlier.
use Rattle.std.specs.Prelude.{ℕ, ◌+◌, ◌-◌, ◌≤◌, List, [], ◌∷◌, length}
use Rattle.std.specs.List.{AllByRecursion}
use Rattle.std.specs.Ordering.{nat_cmp, ordering_then}
use Rattle.std.specs.declared.cmp.Ordering.{Ordering}
use Rattle.table_model.specs.Width.{width}
use Rattle.table_model.specs.Order.{prefix_cmp}
use Rattle.table_model.specs.declared.family.Family.{Family}
use Rattle.table_model.specs.declared.family.Family.TheVariants.{V4, V6}
use Rattle.table_model.specs.Changes.{Change, Add, Replace, Remove}
use Rattle.kept_model.specs.Between.{place_of}

-- A family has two turns for each length of its prefixes, of which there are one more than an address has bits: 66 are IPv4's, 258 IPv6's. IPv4's come first.
abbrev pub first_turn : Family → ℕ
first_turn V4 = 0
first_turn V6 = 66

-- the turn of what sets an entry at a prefix of n bits, the longest first
abbrev pub set_turn : Family → ℕ → ℕ
set_turn f n = first_turn f + (width f - n)

-- the turn of what removes one, the shortest first
abbrev pub remove_turn : Family → ℕ → ℕ
remove_turn f n = first_turn f + (width f + 1 + n)

-- the turn of a change
abbrev pub turn_of : Change → ℕ
turn_of (Add p h) = set_turn p.family (length p.bits)
turn_of (Replace p h) = set_turn p.family (length p.bits)
turn_of (Remove p) = remove_turn p.family (length p.bits)

-- no change comes before one whose turn is earlier
abbrev pub AreInTurn : List Change → Type 0
AreInTurn [] = Unit {0}
AreInTurn (c ∷ cs) = AllByRecursion (λ d. turn_of c ≤ turn_of d) cs × AreInTurn cs

-- the order of changes by their turns, and of those of one turn by their prefixes
abbrev pub steady_cmp : Change → Change → Ordering
steady_cmp c d = ordering_then (nat_cmp (turn_of c) (turn_of d)) (prefix_cmp (place_of c) (place_of d))
