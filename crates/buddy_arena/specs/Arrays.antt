-- Arrays in an arena, each as its place and how many places its block has; an array of nothing has no place.
use Rattle.std.specs.Prelude.{◌≡◌, ℕ, ◌+◌, ◌*◌, ◌<◌, ◌≤◌, List, [], ◌∷◌, Bool, true, false, ◌&&◌, ◌||◌, nat_le, nat_lt}
use Rattle.std.specs.List.{AllByRecursion}

abbrev pub Array : Type 0
Array = ℕ × ℕ

-- a place of an array
abbrev pub Has : Array → ℕ → Type 0
Has a i = (a.0 ≤ i) × (i < a.0 + a.1)

-- its places are in N, and it begins at a multiple of how many they are
abbrev pub IsIn : (ℕ → Bool) → Array → Type 0
IsIn N a = ((i : ℕ) → Has a i → N i ≡ true) × ((q : ℕ) × (a.0 ≡ q * a.1))

-- they share no place
abbrev pub Share : Array → Array → Type 0
Share a b = (i : ℕ) → Has a i → Has b i → ⊥

-- the arrays lie in N, and no two share a place: so no array stands twice, and each has one parent
unfoldable pub AreApart : (ℕ → Bool) → List Array → Type 0
AreApart N [] = Unit {0}
AreApart N (a ∷ rest) = IsIn N a × AllByRecursion (Share a) rest × AreApart N rest

-- how many places they have
abbrev pub places_of : List Array → ℕ
places_of [] = 0
places_of (a ∷ rest) = a.1 + places_of rest

-- whether a place is one of an array
abbrev pub has : Array → ℕ → Bool
has a i = nat_le a.0 i && nat_lt i (a.0 + a.1)

-- whether it is one of any of them
abbrev pub among : List Array → ℕ → Bool
among [] i = false
among (a ∷ rest) i = has a i || among rest i
