-- Nodes that are dropped.
use Rattle.std.specs.Prelude.{◌≡◌, ◌↔◌, ◌⊎◌, List, [], ◌||◌, Bool, true, false, None}
use Rattle.std.specs.List.{list_any}
use Rattle.table_model.specs.Bits.{begins}
use Rattle.table_model.specs.Table.{Table}
use Rattle.orig_tree.specs.Walk.{Walks, has_node, no_walks, walks_of}

-- whether the table has an entry at p or within p
abbrev pub has_within : List Bool → Table → Bool
has_within p L = list_any (λ e. begins p e.prefix) L

-- whether a route or an entry is at p or within p
abbrev pub is_used : List Bool → Table → Table → Bool
is_used p routes entries = has_within p routes || has_within p entries

-- a node at q or within q is neither on the way to p nor within p
abbrev pub HasBeside : List Bool → List Bool → List (List Bool) → Type 0
HasBeside p q nodes = (r : List Bool) × (begins q r ≡ true) × (begins r p ≡ false) × (begins p r ≡ false) × (has_node r nodes ≡ true)

-- What keeps a node at q if p is trimmed: a route or an entry at it or within it, or a node there that is neither on the way to
-- p nor within p.
abbrev pub NodeIsKept : List Bool → Table → Table → List (List Bool) → List Bool → Type 0
NodeIsKept p routes entries nodes q = (is_used q routes entries ≡ true) ⊎ HasBeside p q nodes

-- p is trimmed: of the nodes exactly the root and those that are kept stay. So what goes is on the way to p or within p.
abbrev pub AreTrimmed : List Bool → Table → Table → List (List Bool) → List (List Bool) → Type 0
AreTrimmed p routes entries old new =
    (q : List Bool) → (has_node q new ≡ true) ↔ ((has_node q old ≡ true) × ((q ≡ []) ⊎ NodeIsKept p routes entries old q))

-- the same of what is seen of a node
abbrev pub IsTrimmed : List Bool → Walks → Walks → Type 0
IsTrimmed p old new = AreTrimmed p new.routes new.entries old.nodes new.nodes

-- the same of what is seen behind a link, and the root goes as any other node does
abbrev pub IsPruned : List Bool → Walks → Walks → Type 0
IsPruned p old new = (q : List Bool) → (has_node q new.nodes ≡ true) ↔ ((has_node q old.nodes ≡ true) × NodeIsKept p new.routes new.entries old.nodes q)

-- the root is kept
abbrev pub KeepsRoot : List Bool → Walks → Walks → Type 0
KeepsRoot p old new = NodeIsKept p new.routes new.entries old.nodes []

-- a node with no labels and nothing below it
abbrev pub bare : Walks
bare = walks_of None None no_walks no_walks

-- whether there is a route or an entry at a node or below it
abbrev pub has_labels : Walks → Bool
has_labels w = is_used [] w.routes w.entries
