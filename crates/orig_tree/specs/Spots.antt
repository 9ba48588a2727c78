-- What is seen of a region of a tree.
use Rattle.std.specs.Prelude.{◌≡◌, ℕ, suc, List, length, Bool, Option}
use Rattle.table_model.specs.Table.{Table, lpm}
use Rattle.orig_tree.specs.Arena.{Owner, from_half, IfHalf, walks_at, IsTree}
use Rattle.orig_tree.specs.Bests.{AreBest}
use Rattle.orig_tree.specs.declared.node.Node.{Node}
use Rattle.orig_tree.specs.declared.best.Best.{Best}
use Rattle.orig_tree.specs.declared.node.Label.{Label}
use Rattle.orig_tree.specs.declared.node.Label.TheVariants.{Route, Entry}

-- A region of n bits: the routes, the entries and the nodes within it, all as seen from the region, and the hop that its
-- addresses get from the routes above if none within it has them.
pub record Spot : Type 0 where
  pub bits : ℕ
  pub routes : Table
  pub entries : Table
  pub nodes : List (List Bool)
  pub hop : ℕ

-- what the region's addresses get
abbrev pub spot_answers : Spot → List Bool → ℕ
spot_answers s a = lpm s.routes a s.hop

-- the region of a half that may be a node
abbrev pub spot_at : List Node → Option ℕ → ℕ → ℕ → Spot
spot_at cells half bits hop = record {
  bits = bits;
  routes = (from_half (walks_at (suc bits) cells) half).routes;
  entries = (from_half (walks_at (suc bits) cells) half).entries;
  nodes = (from_half (walks_at (suc bits) cells) half).nodes;
  hop = hop;
}

-- what the nodes there keep stands for their regions
abbrev pub IsSpot : List Node → (ℕ → Best) → Option ℕ → ℕ → ℕ → Type 0
IsSpot cells kept half bits hop = IfHalf (λ j. AreBest (suc bits) cells kept (λ a. lpm (walks_at (suc bits) cells j).routes a hop) j) half

-- the node there and those below it are in order
abbrev pub IsRooted : List Node → Option ℕ → ℕ → Type 0
IsRooted cells half bits = IfHalf (λ j. (name : ℕ → Owner) × (p : List Bool) × IsTree (suc bits) cells name j p) half

-- the routes or the entries
abbrev pub spot_rows : Label → Spot → Table
spot_rows Route s = s.routes
spot_rows Entry s = s.entries

-- whatever the region inherits, each address of it gets the same
abbrev pub EachFixed : ℕ → Table → Type 0
EachFixed n L = (a : List Bool) → length a ≡ n → (g h : ℕ) → lpm L a g ≡ lpm L a h
