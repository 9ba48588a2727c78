-- Nodes that are built in one walk over routes that stand in order.
use Rattle.std.specs.Prelude.{◌≡◌, ◌≢◌, ◌<◌, ℕ, suc, ◌≤◌, List, [], ◌++◌, length, Bool, Option}
use Rattle.table_model.specs.Address.{Prefix}
use Rattle.table_model.specs.Table.{Table, lpm}
use Rattle.table_model.specs.Entries.{Entries, of_table}
use Rattle.table_model.specs.Regions.{lift}
use Rattle.orig_tree.specs.Arena.{Owner, At, cell_at, from_half, walks_at, IfHalf, IsTree, HasSpares}
use Rattle.orig_tree.specs.Packed.{bare_slot}
use Rattle.orig_tree.specs.Bests.{IsRegionBest, best_one, best_behind, AreBest}
use Rattle.orig_tree.specs.Merged.{with_rows}
use Rattle.orig_tree.specs.declared.node.Node.{Node}
use Rattle.orig_tree.specs.declared.best.Best.{Best}

-- nodes were added and none changed: each node's place holds what it held, is whose it was, and keeps what it kept
pub record OnlyAdds (old new : List Node) (name name' : ℕ → Owner) (kept kept' : ℕ → Best) : Type 0 where
  pub long : length old ≤ length new
  pub same : (j : ℕ) (q : List Bool) → name j ≡ At q → (cell_at new j ≡ cell_at old j) × (name' j ≡ At q) × (kept' j ≡ kept j)

-- the same, but for the node at place i
pub record OnlyFills (i : ℕ) (old new : List Node) (name name' : ℕ → Owner) (kept kept' : ℕ → Best) : Type 0 where
  pub long : length old ≤ length new
  pub same : (j : ℕ) (q : List Bool) → name j ≡ At q → j ≢ i → (cell_at new j ≡ cell_at old j) × (name' j ≡ At q) × (kept' j ≡ kept j)

-- a node with halves at these places, 0 if one is no node, and no labels yet
abbrev pub with_halves : ℕ → ℕ → Node
with_halves low high = record { low = low; high = high; route = bare_slot; entry = bare_slot }

-- the answers of the routes T, each set in its turn, if h is inherited
abbrev pub answers_of : Table → ℕ → List Bool → ℕ
answers_of T h a = lpm (with_rows T []) a h

-- The array after the region of path p, of d more bits, was built from the routes T, as seen from there, if it inherits h: place i, which
-- was its node's, stands for them, with the places below it, and each of these nodes keeps what stands for its region.
pub record IsBuilt (d : ℕ) (T : Table) (old new : List Node) (free : ℕ) (name : ℕ → Owner) (i : ℕ) (p : List Bool) (h : ℕ) (kept kept' : ℕ → Best) : Type 0 where
  pub name' : ℕ → Owner
  pub spares : ℕ
  pub held : HasSpares new free name' spares
  pub fills : OnlyFills i old new name name' kept kept'
  pub tree : IsTree (suc d) new name' i p
  pub routes : (walks_at (suc d) new i).routes ≡ with_rows T []
  pub entries : (walks_at (suc d) new i).entries ≡ []
  pub best : AreBest (suc d) new kept' (answers_of T h) i

-- the same of a half of path p, which gets a place, or is no node
pub record HalfBuilt (d : ℕ) (T : Table) (old new : List Node) (free : ℕ) (name : ℕ → Owner) (p : List Bool) (h : ℕ) (kept kept' : ℕ → Best) (half : Option ℕ) : Type 0 where
  pub name' : ℕ → Owner
  pub spares : ℕ
  pub held : HasSpares new free name' spares
  pub adds : OnlyAdds old new name name' kept kept'
  pub tree : IfHalf (λ j. IsTree (suc d) new name' j p) half
  pub routes : (from_half (walks_at (suc d) new) half).routes ≡ with_rows T []
  pub entries : (from_half (walks_at (suc d) new) half).entries ≡ []
  pub stands : IsRegionBest d (answers_of T h) (best_behind kept' half (best_one h))
  pub best : IfHalf (λ j. AreBest (suc d) new kept' (answers_of T h) j) half

-- the first n routes were taken, and the region of the prefix p, with `levels` levels below it, was built from them, with its node at
-- place i; the rest is left
pub record Builds (h levels : ℕ) (p : Prefix) (i : ℕ) (old new : List Node) (free free' : ℕ) (kept kept' : ℕ → Best) (routes rest : Entries) : Type 0 where
  pub taken : Table
  pub front : routes ≡ of_table p.family (lift p.bits taken) ++ rest
  pub built : (d : ℕ) (name : ℕ → Owner) (m : ℕ) (r : List Bool) → levels ≤ d → name i ≡ At r → i < length old → HasSpares old free name m → IsBuilt d taken old new free' name i r h kept kept'

-- the same of a half, whose prefix is p
pub record BuildsHalf (h levels : ℕ) (p : Prefix) (old new : List Node) (free free' : ℕ) (kept kept' : ℕ → Best) (routes rest : Entries) (half : Option ℕ) : Type 0 where
  pub taken : Table
  pub front : routes ≡ of_table p.family (lift p.bits taken) ++ rest
  pub built : (d : ℕ) (name : ℕ → Owner) (m : ℕ) (r : List Bool) → levels ≤ d → HasSpares old free name m → HalfBuilt d taken old new free' name r h kept kept' half
