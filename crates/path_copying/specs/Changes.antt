-- What becomes of an arena and of its blocks as a part of a trie is made anew beside the old one.
use Rattle.std.specs.Prelude.{◌≡◌, ℕ, ◌+◌, ◌*◌, ◌≤◌, List, ◌++◌, Bool, Option}
use Rattle.buddy_arena.specs.Space.{Space, IsSized}
use Rattle.buddy_arena.specs.Places.{Keeps, count_free, is_out, since}
use Rattle.buddy_arena.specs.Arrays.{Array, AreApart, places_of}
use Rattle.buddy_arena.specs.Blocks.{Held}
use Rattle.poptrie_build.specs.Need.{need_nodes, need_leaves}
use Rattle.poptrie_build.specs.declared.node.Node.{Node}
use Rattle.path_copying.specs.Kids.{StandsAs, kid_arrays, kid_leaf_arrays}

-- blocks come out and are listed as taken; what was out is out and holds what it held
pub record Gains {T : Type 0} (empty : T) (old : Space T) (was : Held) (new : Space T) (now : Held) : Type 0 where
  pub keeps : Keeps empty old.cells (is_out old.free) new.cells (is_out new.free)
  pub order : new.order ≡ old.order
  pub fill : new.fill ≡ old.fill
  pub sized : IsSized new
  pub retired : now.retired ≡ was.retired
  pub time : now.time ≡ was.time
  pub more : List Array
  pub taken : now.taken ≡ was.taken ++ more
  pub apart : AreApart (since (is_out old.free) (is_out new.free)) more
  pub left : count_free new + places_of more ≡ count_free old

-- a part of a trie, over at most k strides: it stands for a region, by arrays that share no place with each other nor with the blocks
-- beside it, and all of these with the free places and what is elsewhere are m places
pub record Part (k : ℕ) (nodes : Space Node) (leaves : Space ℕ) (node : Option Node) (d : ℕ) (f : List Bool → ℕ) (beside beside2 : List Array) (m m2 : ℕ) : Type 0 where
  pub stands : StandsAs k nodes.cells (is_out nodes.free) leaves.cells (is_out leaves.free) node d f
  pub nodes_apart : AreApart (is_out nodes.free) (kid_arrays k nodes.cells node ++ beside)
  pub leaves_apart : AreApart (is_out leaves.free) (kid_leaf_arrays k nodes.cells node ++ beside2)
  pub nodes_fill : count_free nodes + (places_of beside + need_nodes k d f) ≡ m
  pub leaves_fill : count_free leaves + (places_of beside2 + need_leaves k d f) ≡ m2

-- what stood for the answers g is left to readers, with what it had alone put aside, and the new part stands for the answers f:
-- whatever else is out stays apart, and no place is lost
abbrev pub Replaces : Space Node → Held → Space ℕ → Held → Option Node → Space Node → Held → Space ℕ → Held → Option Node → ℕ → (List Bool → ℕ) → Type 0
Replaces nodes nb leaves lb old nodes2 nb2 leaves2 lb2 new d f =
    (k : ℕ) (g : List Bool → ℕ) (beside beside2 : List Array) (m m2 : ℕ) → d ≤ 6 * k → Part k nodes leaves old d g (nb.replaced ++ beside) (lb.replaced ++ beside2) m m2 → Part k nodes2 leaves2 new d f (nb2.replaced ++ beside) (lb2.replaced ++ beside2) m m2
