-- One version of the trie in a set, with all other blocks that are out in it.
use Rattle.std.specs.Prelude.{◌≡◌, ℕ, ◌+◌, ◌^◌, List, ◌++◌}
use Rattle.table_model.specs.declared.family.Family.{Family}
use Rattle.table_model.specs.Entries.{Entries}
use Rattle.buddy_arena.specs.Space.{Space}
use Rattle.poptrie_build.specs.Strides.{strides}
use Rattle.poptrie_build.specs.Stands.{TrieStands}
use Rattle.buddy_arena.specs.Places.{count_free, is_out}
use Rattle.buddy_arena.specs.Arrays.{Array, AreApart}
use Rattle.poptrie_build.specs.Arrays.{word_arrays, word_leaf_arrays}
use Rattle.poptrie_build.specs.Tries.{rest, node_need, leaf_need}
use Rattle.fib_addr.specs.Answers.{all_answers}
use Rattle.poptrie_build.specs.declared.node.Node.{Node}
use Rattle.buddy_arena.specs.Arrays.{places_of}

-- the words stand for the entries' answers; their arrays and the other blocks are out, and no two of all these share a place; so
-- each array of the version has one parent. With the free places they fill the arenas. With no other blocks this is what a trie of
-- these words stands for
pub record IsVersion (f : Family) (s : ℕ) (nodes : Space Node) (leaves : Space ℕ) (direct : List ℕ) (L : Entries) (nodes_beside leaves_beside : List Array) : Type 0 where
  pub words : TrieStands s direct (strides (rest f s)) nodes.cells leaves.cells (rest f s) (all_answers f L)
  pub nodes_apart : (k : ℕ) → AreApart (is_out nodes.free) (nodes_beside ++ word_arrays k nodes.cells direct)
  pub leaves_apart : (k : ℕ) → AreApart (is_out leaves.free) (leaves_beside ++ word_leaf_arrays k nodes.cells direct)
  pub nodes_fill : count_free nodes + (places_of nodes_beside + node_need f s L) ≡ 2 ^ nodes.order
  pub leaves_fill : count_free leaves + (places_of leaves_beside + leaf_need f s L) ≡ 2 ^ leaves.order
