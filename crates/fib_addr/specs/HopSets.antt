-- Sets of hops as sorted lists.
use Rattle.std.specs.Prelude.{◌≡◌, ℕ, ◌<◌, List, [], ◌∷◌}
use Rattle.std.specs.List.{AllByRecursion}
use Rattle.table_model.specs.Sets.{is_in}

-- each hop once, in the order of their numbers
abbrev pub Ascending : List ℕ → Type 0
Ascending [] = Unit {0}
Ascending (g ∷ S) = AllByRecursion (λ h. g < h) S × Ascending S

-- the two lists have the same hops, in whatever order
abbrev pub SameHops : List ℕ → List ℕ → Type 0
SameHops S T = (h : ℕ) → is_in h S ≡ is_in h T
