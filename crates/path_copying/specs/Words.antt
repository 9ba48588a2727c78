-- A direct word, with the node that it leads to.
use Rattle.std.specs.Prelude.{◌≡◌, ℕ, ◌+◌, ◌*◌, ◌<◌, ◌≤◌, List, [], ◌∷◌, ◌++◌, Bool, Option, Some, None, cond, nat_lt}
use Rattle.buddy_arena.specs.Space.{Space}
use Rattle.buddy_arena.specs.Places.{count_free, is_out}
use Rattle.buddy_arena.specs.Arrays.{Array, AreApart, places_of}
use Rattle.buddy_arena.specs.Blocks.{Held}
use Rattle.poptrie_build.specs.Need.{trie_nodes, trie_leaves}
use Rattle.poptrie_build.specs.Stands.{node_at}
use Rattle.poptrie_build.specs.Build.{WordIn}
use Rattle.poptrie_build.specs.Arrays.{gather, node_arrays, leaf_arrays}
use Rattle.poptrie_build.specs.Strides.{total}
use Rattle.poptrie_build.specs.declared.node.Node.{Node}
use Rattle.path_copying.specs.Alike.{SameAnswers}

-- its node, if it is no hop
abbrev pub node_of : List Node → ℕ → Option Node
node_of nodes w = cond (nat_lt w 2147483648) (Some (node_at nodes w)) None

-- the array of that one node
abbrev pub own_array : ℕ → List Array
own_array w = cond (nat_lt w 2147483648) ((w, 1) ∷ []) []

-- the arrays that the word has: that one, and those at and below the node
abbrev pub arrays_of_word : ℕ → List Node → ℕ → List Array
arrays_of_word k nodes w = cond (nat_lt w 2147483648) ((w, 1) ∷ node_arrays k nodes (node_at nodes w)) []

abbrev pub leaf_arrays_of : ℕ → List Node → ℕ → List Array
leaf_arrays_of k nodes w = cond (nat_lt w 2147483648) (leaf_arrays k nodes (node_at nodes w)) []

-- it stands for some region of d more bits, by places that are out
abbrev pub IsWord : Space Node → Space ℕ → ℕ → ℕ → Type 0
IsWord nodes leaves w d = (k : ℕ) × (g : List Bool → ℕ) × WordIn w k nodes.cells (is_out nodes.free) leaves.cells (is_out leaves.free) d g

-- a word that stands for a region, as `Part` says it of a node
pub record WordPart (k : ℕ) (nodes : Space Node) (leaves : Space ℕ) (w d : ℕ) (f : List Bool → ℕ) (beside beside2 : List Array) (m m2 : ℕ) : Type 0 where
  pub stands : WordIn w k nodes.cells (is_out nodes.free) leaves.cells (is_out leaves.free) d f
  pub nodes_apart : AreApart (is_out nodes.free) (arrays_of_word k nodes.cells w ++ beside)
  pub leaves_apart : AreApart (is_out leaves.free) (leaf_arrays_of k nodes.cells w ++ beside2)
  pub nodes_fill : count_free nodes + (places_of beside + trie_nodes 0 k d f) ≡ m
  pub leaves_fill : count_free leaves + (places_of beside2 + trie_leaves 0 k d f) ≡ m2

-- the old word and what it leads to are left to readers, and the new one stands for the answers f: as `Replaces` says it of a node
abbrev pub ReplacesWord : Space Node → Held → Space ℕ → Held → ℕ → Space Node → Held → Space ℕ → Held → ℕ → ℕ → (List Bool → ℕ) → Type 0
ReplacesWord nodes nb leaves lb w nodes2 nb2 leaves2 lb2 w2 d f =
    (k : ℕ) (g : List Bool → ℕ) (beside beside2 : List Array) (m m2 : ℕ) → d ≤ 6 * k → WordPart k nodes leaves w d g (nb.replaced ++ beside) (lb.replaced ++ beside2) m m2 → WordPart k nodes2 leaves2 w2 d f (nb2.replaced ++ beside) (lb2.replaced ++ beside2) m m2

-- the word is as it was if no address gets another answer
abbrev pub KeepsWord : Space Node → Space ℕ → ℕ → ℕ → ℕ → (List Bool → ℕ) → Type 0
KeepsWord nodes leaves w w2 d f =
    (k : ℕ) (g : List Bool → ℕ) → WordIn w k nodes.cells (is_out nodes.free) leaves.cells (is_out leaves.free) d g → SameAnswers d f g → w2 ≡ w

-- n words, each of which stands for its slot's answers, and whose arrays share no place with each other nor with what is beside them
pub record WordRow (k n : ℕ) (nodes : Space Node) (leaves : Space ℕ) (words : ℕ → ℕ) (d : ℕ) (h : ℕ → List Bool → ℕ) (beside beside2 : List Array) (m m2 : ℕ) : Type 0 where
  pub stands : (u : ℕ) → u < n → WordIn (words u) k nodes.cells (is_out nodes.free) leaves.cells (is_out leaves.free) d (h u)
  pub nodes_apart : AreApart (is_out nodes.free) (gather (λ u. arrays_of_word k nodes.cells (words u)) n ++ beside)
  pub leaves_apart : AreApart (is_out leaves.free) (gather (λ u. leaf_arrays_of k nodes.cells (words u)) n ++ beside2)
  pub nodes_fill : count_free nodes + (places_of beside + total (λ u. trie_nodes 0 k d (h u)) n) ≡ m
  pub leaves_fill : count_free leaves + (places_of beside2 + total (λ u. trie_leaves 0 k d (h u)) n) ≡ m2
