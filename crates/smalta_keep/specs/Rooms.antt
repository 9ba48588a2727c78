-- What changes find in a tree, and what they leave.
use Rattle.std.specs.Prelude.{◌≡◌, List, Bool, true, Option, Some, None}
use Rattle.table_model.specs.Address.{Prefix}
use Rattle.std.specs.List.{AllByRecursion}
use Rattle.table_model.specs.declared.family.Family.{Family}
use Rattle.table_model.specs.Changes.{Change, Add, Replace, Remove}
use Rattle.kept_model.specs.Between.{place_of}
use Rattle.orig_tree.specs.Walk.{has_node}
use Rattle.orig_tree.specs.Views.{Labels}

-- there is a node for the entry that a change sets
abbrev pub HasNode : List (List Bool) → Change → Type 0
HasNode nodes (Add p h) = has_node p.bits nodes ≡ true
HasNode nodes (Replace p h) = has_node p.bits nodes ≡ true
HasNode nodes (Remove p) = Unit {0}

abbrev pub HaveRoom : List (List Bool) → List Change → Type 0
HaveRoom nodes cs = AllByRecursion (HasNode nodes) cs

-- there is a node at this prefix, if there is one
abbrev pub IsNodeAt : Option Prefix → List (List Bool) → Type 0
IsNodeAt None nodes = Unit {0}
IsNodeAt (Some p) nodes = has_node p.bits nodes ≡ true

-- the changes are at prefixes of the family
abbrev pub AreOf : Family → List Change → Type 0
AreOf f cs = AllByRecursion (λ c. (place_of c).family ≡ f) cs

-- no node is dropped
abbrev pub KeepsNodes : Labels → Labels → Type 0
KeepsNodes old new = (p : List Bool) → has_node p old.nodes ≡ true → has_node p new.nodes ≡ true

-- the routes stay, and each node does
pub record KeepsRoutes (old new : Labels) : Type 0 where
  pub family : new.family ≡ old.family
  pub routes : new.routes ≡ old.routes
  pub nodes : KeepsNodes old new

-- the entries stay, and each node does
pub record KeepsEntries (old new : Labels) : Type 0 where
  pub family : new.family ≡ old.family
  pub entries : new.entries ≡ old.entries
  pub nodes : KeepsNodes old new

-- routes and entries stay, whatever nodes there are
pub record ChangesNodes (old new : Labels) : Type 0 where
  pub family : new.family ≡ old.family
  pub routes : new.routes ≡ old.routes
  pub entries : new.entries ≡ old.entries
