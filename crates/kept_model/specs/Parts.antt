-- Where two tables differ.
use Rattle.std.specs.Prelude.{◌≡◌, ◌⊎◌, ℕ, List, [], Bool, Option, None}
use Rattle.table_model.specs.Table.{Table, half}
use Rattle.table_model.specs.Regions.{entry_at}
use Rattle.table_model.specs.Sets.{agg}

-- both are given, or neither, and then they are the same
abbrev pub BothOrNeither : Option ℕ → Option ℕ → Option ℕ → Option ℕ → Type 0
BothOrNeither old new o n = ((o ≡ old) × (n ≡ new)) ⊎ ((o ≡ None) × (n ≡ None) × (old ≡ new))

-- O and N have the entries of L and A at each prefix at which these differ, and elsewhere those of both or of neither
abbrev pub ArePart : Table → Table → Table → Table → Type 0
ArePart L A O N = (q : List Bool) → BothOrNeither (entry_at q L) (entry_at q A) (entry_at q O) (entry_at q N)

-- a pass over a region of d more bits with the answers f has entries in no half, and L has none there
abbrev pub HasNoHalves : ℕ → (List Bool → ℕ) → Table → Type 0
HasNoHalves d f L = (b : Bool) (h : ℕ) → (half b L ≡ []) × (half b (agg d f L h) ≡ [])
