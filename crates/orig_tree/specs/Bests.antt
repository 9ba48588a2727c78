-- What the nodes of a tree keep of their regions: the best hops, and what a region costs under one of them.
use Rattle.std.specs.Prelude.{◌≡◌, ℕ, zero, suc, List, [], ◌∷◌, Bool, true, false, cond, nat_eq, Option, Some, None, slice_index_or, map}
use Rattle.table_model.specs.Bits.{begins}
use Rattle.table_model.specs.Table.{Table, lpm, half}
use Rattle.table_model.specs.Sets.{side, set_of, k_of}
use Rattle.fib_addr.specs.HopSets.{SameHops}
use Rattle.orig_tree.specs.Edits.{put}
use Rattle.table_model.specs.Width.{width}
use Rattle.table_model.specs.declared.family.Family.{Family}
use Rattle.orig_tree.specs.Walk.{Walks, edited, has_node}
use Rattle.orig_tree.specs.Arena.{Owner, At, blank_cell, cell_at, half_place, IfHalf, whole, IsRoomier}
use Rattle.orig_tree.specs.declared.node.Label.{Label}
use Rattle.orig_tree.specs.declared.node.Node.{Node}
use Rattle.orig_tree.specs.declared.best.Best.{Best}
use Rattle.orig_tree.specs.declared.node.Place.{Place}
use Rattle.orig_tree.specs.declared.node.Nodes.{Nodes}
use Rattle.orig_tree.specs.declared.best.Change.{Change}

-- a region of d more bits, whose addresses get the answers f, has these best hops and this cost
pub record IsRegionBest (d : ℕ) (f : List Bool → ℕ) (x : Best) : Type 0 where
  pub hops : SameHops x.hops (set_of d f)
  pub cost : x.k ≡ k_of d f

-- what a region keeps whose addresses all get one hop
abbrev pub best_one : ℕ → Best
best_one h = record { hops = h ∷ []; k = 0 }

-- a place that is no node's yet
abbrev pub blank_place : Place
blank_place = record { node = blank_cell; best = best_one 0 }

-- what is kept, by places
abbrev pub bests_of : Nodes → List Best
bests_of n = map (λ (p : Place). p.best) (n.root ∷ n.halves.items)

abbrev pub best_in : Nodes → ℕ → Best
best_in n i = slice_index_or (bests_of n) i (best_one 0)

-- the node at place i, of at most d levels, and each node below it keep what stands for their regions, if f says the
-- answers of the region of place i
unfoldable pub AreBest : ℕ → List Node → (ℕ → Best) → (List Bool → ℕ) → ℕ → Type 0
AreBest zero cells kept f i = Unit {0}
AreBest (suc d) cells kept f i =
    IsRegionBest d f (kept i) × ((b : Bool) → IfHalf (λ j. AreBest d cells kept (side b f) j) (half_place (cell_at cells i) b))

-- what a half keeps; if it is no node, x
abbrev pub best_behind : (ℕ → Best) → Option ℕ → Best → Best
best_behind kept None x = x
best_behind kept (Some j) x = kept j

-- ---- changes

abbrev pub put_at : (ℕ → Best) → ℕ → Best → ℕ → Best
put_at kept i x j = cond (nat_eq j i) x (kept j)

-- what is kept after the changes, each in its turn
abbrev pub changed : List Change → (ℕ → Best) → ℕ → Best
changed [] kept = kept
changed (c ∷ cs) kept = changed cs (put_at kept c.place c.best)

-- what is kept after the changes were taken back, the last first
abbrev pub back : List Change → (ℕ → Best) → ℕ → Best
back [] kept = kept
back (c ∷ cs) kept = put_at (back cs kept) c.place c.best

-- the answers in a region with the routes R, if the region's own hop is h
abbrev pub under : ℕ → Table → List Bool → ℕ
under h R [] = h
under h R (b ∷ a) = lpm (half b R) a h

-- the places of path p and below it keep what they kept
abbrev pub Untouched : List Bool → (ℕ → Owner) → (ℕ → Best) → (ℕ → Best) → Type 0
Untouched p name old new = (j : ℕ) (r : List Bool) → name j ≡ At r → begins p r ≡ true → new j ≡ old j

-- and the places of other paths
abbrev pub UntouchedElse : List Bool → (ℕ → Owner) → (ℕ → Best) → (ℕ → Best) → Type 0
UntouchedElse p name old new = (j : ℕ) (r : List Bool) → name j ≡ At r → begins p r ≡ false → new j ≡ old j

-- the region of place i, of d more bits, stands for the answers f after more changes, which are at places of its path alone
pub record IsMended (d : ℕ) (cells : List Node) (name : ℕ → Owner) (i : ℕ) (p : List Bool) (f : List Bool → ℕ) (old new : ℕ → Best) (x : Best) : Type 0 where
  pub stands : IsRegionBest d f x
  pub best : AreBest (suc d) cells new f i
  pub keeps : UntouchedElse p name old new

-- the same of a half, whether it is a node or not
pub record HalfMended (d : ℕ) (cells : List Node) (name : ℕ → Owner) (half : Option ℕ) (p : List Bool) (f : List Bool → ℕ) (old new : ℕ → Best) (x : Best) : Type 0 where
  pub stands : IsRegionBest d f x
  pub best : IfHalf (λ j. AreBest (suc d) cells new f j) half
  pub keeps : UntouchedElse p name old new

-- the table with the route at q, if one is given
abbrev pub laid : Option ℕ → List Bool → Table → Table
laid None q R = R
laid (Some g) q R = put q g R

-- the places after room was made: each node keeps what stands for its region, if f says the answers of place i's
pub record IsGrown (d : ℕ) (new : List Node) (name : ℕ → Owner) (i : ℕ) (p : List Bool) (f : List Bool → ℕ) (old kept : ℕ → Best) : Type 0 where
  pub best : AreBest d new kept f i
  pub keeps : UntouchedElse p name old kept

-- ---- the whole tree

-- each node keeps what stands for its region under the tree's routes
abbrev pub KeepsBest : Family → List Node → (ℕ → Best) → Type 0
KeepsBest f cells kept = AreBest (suc (width f)) cells kept (λ a. lpm (whole f cells).routes a 0) 0

-- the tables after room was made for the path and one of its labels was set there
pub record IsLaid (label : Label) (p : List Bool) (hop : ℕ) (old new : Walks) : Type 0 where
  pub middle : Walks
  pub room : IsRoomier p old middle
  pub there : has_node p middle.nodes ≡ true
  pub set : new ≡ edited label p (Some hop) middle
