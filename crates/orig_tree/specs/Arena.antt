-- What a place in the array of nodes stands for, and which places are whose.
use Rattle.std.specs.Prelude.{◌≡◌, ◌≢◌, ℕ, zero, suc, ◌<◌, ◌≤◌, List, [], ◌∷◌, ◌++◌, length, Bool, true, false, Option, Some, None, slice_index_or, map}
use Rattle.table_model.specs.Bits.{begins}
use Rattle.table_model.specs.Width.{width}
use Rattle.table_model.specs.declared.family.Family.{Family}
use Rattle.orig_tree.specs.Walk.{Walks, no_walks, walks_of, edited, AreMadeTo, has_node}
use Rattle.orig_tree.specs.Cover.{covered}
use Rattle.orig_tree.specs.Slots.{AreCovers}
use Rattle.orig_tree.specs.declared.cover.Cover.{Cover}
use Rattle.orig_tree.specs.declared.cover.Slot.{Slot}
use Rattle.orig_tree.specs.Packed.{cover_slot, cover_in, bare_slot}
use Rattle.orig_tree.specs.declared.cover.Hops.TheVariants.{Zero}
use Rattle.orig_tree.specs.declared.node.Node.{Node}
use Rattle.orig_tree.specs.declared.node.Place.{Place}
use Rattle.orig_tree.specs.declared.node.Nodes.{Nodes}
use Rattle.orig_tree.specs.declared.node.Label.{Label}
use Rattle.orig_tree.specs.declared.node.Label.TheVariants.{Route, Entry}

-- ---- reading

-- the nodes by their places
abbrev pub cells_of : Nodes → List Node
cells_of n = map (λ (p : Place). p.node) (n.root ∷ n.halves.items)

abbrev pub bare_cover_is : Cover
bare_cover_is = record { passes = true; hops = Zero }

-- a node with no labels and no halves
abbrev pub blank_cell : Node
blank_cell = record { low = 0; high = 0; route = bare_slot; entry = bare_slot }

abbrev pub cell_at : List Node → ℕ → Node
cell_at cells i = slice_index_or cells i blank_cell

-- the place that a node has for a half; 0 is none
abbrev pub link : ℕ → Option ℕ
link zero = None
link (suc j) = Some (suc j)

-- the place of a half that is a node
abbrev pub half_place : Node → Bool → Option ℕ
half_place n false = link n.low
half_place n true = link n.high

-- the own route of the node at a place, if one is given
abbrev pub own_route_at : List Node → Option ℕ → Option ℕ
own_route_at cells None = None
own_route_at cells (Some j) = (cell_at cells j).route.hop

abbrev pub from_half : (ℕ → Walks) → Option ℕ → Walks
from_half f None = no_walks
from_half f (Some j) = f j

-- a node's tables, if f says what places stand for
abbrev pub walks_by : (ℕ → Walks) → Node → Walks
walks_by f n = walks_of n.route.hop n.entry.hop (from_half f (half_place n false)) (from_half f (half_place n true))

-- what place i stands for, read over at most d levels
unfoldable pub walks_at : ℕ → List Node → ℕ → Walks
walks_at zero cells i = no_walks
walks_at (suc d) cells i = walks_by (walks_at d cells) (cell_at cells i)

-- ---- writing

-- whose a place is: the node's at a path, or a spare one, with n spare ones after it
pub data Owner : Type 0 where
  At : List Bool → Owner
  Spare : ℕ → Owner
  Nowhere : Owner

abbrev pub IfHalf : (ℕ → Type 0) → Option ℕ → Type 0
IfHalf P None = Unit {0}
IfHalf P (Some j) = P j

-- a node whose covers are right and whose halves are in order
pub record IsNode (walks : ℕ → Walks) (InTree : Bool → ℕ → Type 0) (n : Node) : Type 0 where
  pub covers : AreCovers n.route n.entry (from_half walks (half_place n false)) (from_half walks (half_place n true))
  pub halves : (b : Bool) → IfHalf (InTree b) (half_place n b)

-- place i is the node at path p, of at most d levels, and each place below it has its own path
unfoldable pub IsTree : ℕ → List Node → (ℕ → Owner) → ℕ → List Bool → Type 0
IsTree zero cells name i p = ⊥
IsTree (suc d) cells name i p =
    (name i ≡ At p) × (i < length cells) × IsNode (walks_at d cells) (λ b j. IsTree d cells name j (p ++ (b ∷ []))) (cell_at cells i)

abbrev pub is_below : List Bool → Owner → Bool
is_below p (At q) = begins p q
is_below p (Spare n) = false
is_below p Nowhere = false

-- no place changed but those of path p and below it
pub record ChangesBelow (p : List Bool) (old new : List Node) (name : ℕ → Owner) : Type 0 where
  pub long : length new ≡ length old
  pub same : (j : ℕ) → is_below p (name j) ≡ false → cell_at new j ≡ cell_at old j

-- the halves of nodes are where they were
abbrev pub HalvesStay : List Node → List Node → Type 0
HalvesStay old new = (j : ℕ) (b : Bool) → half_place (cell_at new j) b ≡ half_place (cell_at old j) b

-- one label of a node, with the cover that it gets from those of the halves
abbrev pub retold : Label → Option ℕ → Cover → Cover → Node → Node
retold Route hop low high n = record { low = n.low; high = n.high; route = cover_slot hop (covered hop low high); entry = n.entry }
retold Entry hop low high n = record { low = n.low; high = n.high; route = n.route; entry = cover_slot hop (covered hop low high) }

-- one label of a node, with its cover
abbrev pub labelled_slot : Label → Node → Slot
labelled_slot Route n = n.route
labelled_slot Entry n = n.entry

-- a node with this for one label
abbrev pub with_slot : Label → Slot → Node → Node
with_slot Route s n = record { low = n.low; high = n.high; route = s; entry = n.entry }
with_slot Entry s n = record { low = n.low; high = n.high; route = n.route; entry = s }

abbrev pub cover_of : Label → Node → Cover
cover_of Route n = cover_in n.route
cover_of Entry n = cover_in n.entry

abbrev pub cover_at : List Node → Label → Option ℕ → Cover
cover_at cells label None = bare_cover_is
cover_at cells label (Some j) = cover_of label (cell_at cells j)

-- a label with this hop, and the cover that it gets from those of the halves at these places
abbrev pub slot_over : Label → Option ℕ → List Node → ℕ → ℕ → Slot
slot_over label hop cells low high = cover_slot hop (covered hop (cover_at cells label (link low)) (cover_at cells label (link high)))

-- the node with that label
abbrev pub relabelled : Label → Option ℕ → List Node → Node → Node
relabelled label hop cells n = retold label hop (cover_at cells label (half_place n false)) (cover_at cells label (half_place n true)) n

-- the array after a label's hop is set at a path, or taken away
pub record IsSet (d : ℕ) (label : Label) (q : List Bool) (hop : Option ℕ) (old new : List Node) (name : ℕ → Owner) (i : ℕ) (p : List Bool) : Type 0 where
  pub walks : walks_at d new i ≡ edited label q hop (walks_at d old i)
  pub tree : IsTree d new name i p
  pub keeps : ChangesBelow p old new name

-- ---- making room

-- the spare places from f on, each telling the next in low; 0 is none
unfoldable pub SpareFrom : ℕ → List Node → (ℕ → Owner) → ℕ → Type 0
SpareFrom zero cells name f = f ≡ 0
SpareFrom (suc n) cells name f =
    (f ≢ 0) × (name f ≡ Spare n) × (f < length cells) × SpareFrom n cells name (cell_at cells f).low

-- the spare places are in order, and nothing past the array is anyone's
pub record HasSpares (cells : List Node) (free : ℕ) (name : ℕ → Owner) (n : ℕ) : Type 0 where
  pub past : (j : ℕ) → length cells ≤ j → name j ≡ Nowhere
  pub spare : SpareFrom n cells name free

-- places of paths outside p hold what they held, and are whose they were
pub record KeepsOthers (p : List Bool) (old new : List Node) (name name' : ℕ → Owner) : Type 0 where
  pub long : length old ≤ length new
  pub same : (j : ℕ) (q : List Bool) → name j ≡ At q → begins p q ≡ false → (cell_at new j ≡ cell_at old j) × (name' j ≡ At q)

-- the same tables, and all the nodes there were, with none more than those on the way to q
pub record IsRoomier (q : List Bool) (old new : Walks) : Type 0 where
  pub routes : new.routes ≡ old.routes
  pub entries : new.entries ≡ old.entries
  pub kept : (p : List Bool) → has_node p old.nodes ≡ true → has_node p new.nodes ≡ true
  pub made : AreMadeTo q old.nodes new.nodes

-- place j, which was no node's, was given to path r
pub record GivesPlace (r : List Bool) (old new : List Node) (free : ℕ) (name : ℕ → Owner) (j : ℕ) : Type 0 where
  pub name' : ℕ → Owner
  pub spares : ℕ
  pub some : j ≢ 0
  pub fresh : (q : List Bool) → name j ≡ At q → ⊥
  pub mine : name' j ≡ At r
  pub inside : j < length new
  pub held : HasSpares new free name' spares
  pub long : length old ≤ length new
  pub same : (x : ℕ) (q : List Bool) → name x ≡ At q → (cell_at new x ≡ cell_at old x) × (name' x ≡ At q)

-- a node with one more half, at place j
abbrev pub with_half : Node → ℕ → Bool → Node
with_half n j false = record { low = j; high = n.high; route = n.route; entry = n.entry }
with_half n j true = record { low = n.low; high = j; route = n.route; entry = n.entry }

-- the array after a half of a node became a node, at place j
pub record IsSplit (d : ℕ) (b : Bool) (old new : List Node) (free : ℕ) (name : ℕ → Owner) (i : ℕ) (p : List Bool) (j : ℕ) : Type 0 where
  pub name' : ℕ → Owner
  pub spares : ℕ
  pub tree : IsTree d new name' i p
  pub held : HasSpares new free name' spares
  pub keeps : KeepsOthers p old new name name'
  pub walks : (r : List Bool) → IsRoomier (b ∷ r) (walks_at d old i) (walks_at d new i)
  pub half : half_place (cell_at new i) b ≡ Some j
  pub blank : cell_at new j ≡ blank_cell
  pub fresh : (q : List Bool) → name j ≡ At q → ⊥
  pub other : (c : Bool) → b ≢ c → half_place (cell_at new i) c ≡ half_place (cell_at old i) c
  pub rest : (x : ℕ) (r : List Bool) (c : Bool) → b ≢ c → name x ≡ At r → begins (p ++ (c ∷ [])) r ≡ true → cell_at new x ≡ cell_at old x

-- the array after the path q from place i on got nodes
pub record MakesRoom (d : ℕ) (q : List Bool) (old new : List Node) (free : ℕ) (name : ℕ → Owner) (i : ℕ) (p : List Bool) : Type 0 where
  pub name' : ℕ → Owner
  pub spares : ℕ
  pub tree : IsTree d new name' i p
  pub held : HasSpares new free name' spares
  pub keeps : KeepsOthers p old new name name'
  pub walks : IsRoomier q (walks_at d old i) (walks_at d new i)
  pub there : has_node q (walks_at d new i).nodes ≡ true

-- ---- the whole tree

-- what the root stands for
abbrev pub whole : Family → List Node → Walks
whole f cells = walks_at (suc (width f)) cells 0

-- the root is at place 0, and all places are in order
pub record IsArena (f : Family) (cells : List Node) (free : ℕ) : Type 0 where
  pub name : ℕ → Owner
  pub spares : ℕ
  pub tree : IsTree (suc (width f)) cells name 0 []
  pub held : HasSpares cells free name spares
