-- The entries of a table within a prefix, around it, and at it.
use Rattle.std.specs.Prelude.{◌≡◌, ℕ, List, [], ◌∷◌, ◌++◌, Bool, true, false, not, ◌&&◌, Option, map}
use Rattle.std.specs.List.{AllByRecursion, filter}
use Rattle.std.specs.List.Sorted.{IsStrictlySortedBy}
use Rattle.table_model.specs.Bits.{begins}
use Rattle.table_model.specs.Order.{path_cmp}
use Rattle.table_model.specs.Table.{Table, longest, hop_or, root, cut, here}

-- every entry's prefix is p or within p
abbrev pub IsWithin : List Bool → Table → Type 0
IsWithin p L = AllByRecursion (λ e. begins p e.prefix ≡ true) L

-- the entries that aren't within p
abbrev pub outside : List Bool → Table → Table
outside p L = filter (λ e. not (begins p e.prefix)) L

-- the entries that p is strictly within
abbrev pub strictly_containing : List Bool → Table → Table
strictly_containing p L = filter (λ e. begins e.prefix p && not (begins p e.prefix)) L

-- what p inherits: the hop of the longest entry that p is strictly within, or h if there is none
abbrev pub above : List Bool → Table → ℕ → ℕ
above p L h = hop_or h (longest (strictly_containing p L))

-- the hop of the entry at p
abbrev pub entry_at : List Bool → Table → Option ℕ
entry_at p L = root (cut p L)

-- the tables have the same entries outside p
abbrev pub SameOutside : List Bool → Table → Table → Type 0
SameOutside p L M = (q : List Bool) → begins p q ≡ false → entry_at q L ≡ entry_at q M

-- the tables have the same entries, in whatever order
abbrev pub SameEntries : Table → Table → Type 0
SameEntries L M = (q : List Bool) → entry_at q L ≡ entry_at q M

-- the prefixes of the entries
abbrev pub prefixes_of : Table → List (List Bool)
prefixes_of L = map (λ e. e.prefix) L

-- the entries stand in the order of prefixes, each prefix once
abbrev pub InOrder : Table → Type 0
InOrder L = IsStrictlySortedBy path_cmp (prefixes_of L)

-- ---- a table put together again

-- the entries with the bits of p before their prefix
abbrev pub lift : List Bool → Table → Table
lift p L = map (λ e. record { prefix = p ++ e.prefix; hop = e.hop }) L

-- the table of an entry at the empty prefix, if any, and two halves
abbrev pub join : Option ℕ → Table → Table → Table
join o L M = here o ++ (lift (false ∷ []) L ++ lift (true ∷ []) M)
