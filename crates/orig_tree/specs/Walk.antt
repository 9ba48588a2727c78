-- What is seen of a node: the tables of its two labels, and where there are nodes.
use Rattle.std.specs.Prelude.{◌≡◌, ◌⊎◌, ℕ, List, [], ◌∷◌, ◌++◌, map, ◌||◌, Bool, true, false, Option, Some, None}
use Rattle.table_model.specs.Bits.{begins, same_bits}
use Rattle.table_model.specs.Table.{Table}
use Rattle.table_model.specs.Regions.{join}
use Rattle.orig_tree.specs.Edits.{edit}
use Rattle.orig_tree.specs.declared.node.Label.{Label}
use Rattle.orig_tree.specs.declared.node.Label.TheVariants.{Route, Entry}

-- the routes and the entries, their prefixes as seen from the node, and the paths of the nodes from there
pub record Walks : Type 0 where
  pub routes : Table
  pub entries : Table
  pub nodes : List (List Bool)

-- what is seen if there is no node
abbrev pub no_walks : Walks
no_walks = record { routes = []; entries = []; nodes = [] }

-- what is seen of a node that may be there
abbrev pub behind : Option Walks → Walks
behind None = no_walks
behind (Some w) = w

-- a node's tables, from its labels and what is behind its links
abbrev pub walks_of : Option ℕ → Option ℕ → Walks → Walks → Walks
walks_of route entry low high = record {
  routes = join route low.routes high.routes;
  entries = join entry low.entries high.entries;
  nodes = [] ∷ (map (λ p. false ∷ p) low.nodes ++ map (λ p. true ∷ p) high.nodes);
}

-- the table of one label
abbrev pub rows_of : Label → Walks → Table
rows_of Route w = w.routes
rows_of Entry w = w.entries

-- one of two labels
abbrev pub labelled : Label → Option ℕ → Option ℕ → Option ℕ
labelled Route route entry = route
labelled Entry route entry = entry

-- the tables with one label's entry at a path set or taken away
abbrev pub edited : Label → List Bool → Option ℕ → Walks → Walks
edited Route p h w = record { routes = edit p h w.routes; entries = w.entries; nodes = w.nodes }
edited Entry p h w = record { routes = w.routes; entries = edit p h w.entries; nodes = w.nodes }

-- whether there is a node at the path
abbrev pub has_node : List Bool → List (List Bool) → Bool
has_node p [] = false
has_node p (q ∷ qs) = same_bits p q || has_node p qs

-- each node of new is one of old or on the way to p
abbrev pub AreMadeTo : List Bool → List (List Bool) → List (List Bool) → Type 0
AreMadeTo p old new = (q : List Bool) → has_node q new ≡ true → (has_node q old ≡ true) ⊎ (begins q p ≡ true)

-- an entry can be set if there is a node, and taken away everywhere
abbrev pub CanEdit : List Bool → Option ℕ → List (List Bool) → Type 0
CanEdit p None nodes = Unit {0}
CanEdit p (Some h) nodes = has_node p nodes ≡ true
