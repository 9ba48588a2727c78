-- What a trie is seen as, and what it stands for.
use Rattle.std.specs.Prelude.{◌≡◌, ℕ, ◌+◌, ◌-◌, ◌^◌, ◌<◌, ◌≤◌, List, Bool, ◌⊎◌, length}
use Rattle.table_model.specs.Width.{width}
use Rattle.table_model.specs.Address.{Address}
use Rattle.table_model.specs.declared.family.Family.{Family}
use Rattle.table_model.specs.Entries.{Entries}
use Rattle.buddy_arena.specs.Space.{Space, IsSized}
use Rattle.fib_addr.specs.Answers.{all_answers}
use Rattle.poptrie_build.specs.Strides.{strides, trie_visits}
use Rattle.poptrie_build.specs.Need.{need_in_u64, trie_nodes, trie_leaves}
use Rattle.poptrie_build.specs.Stands.{TrieStands}
use Rattle.buddy_arena.specs.Places.{count_free, is_out}
use Rattle.buddy_arena.specs.Arrays.{AreApart}
use Rattle.poptrie_build.specs.Arrays.{word_arrays, word_leaf_arrays}
use Rattle.poptrie_build.specs.declared.node.Node.{Node}
use Rattle.poptrie_build.specs.declared.filling.TrieFull.{TrieFull}

-- the direct words, of which each slot of direct_bits bits has one, and the arrays of nodes and leaves
pub record Shown : Type 0 where
  pub family : Family
  pub direct_bits : ℕ
  pub words : List ℕ
  pub nodes : Space Node
  pub leaves : Space ℕ

-- how many bits of an address are after the direct ones
abbrev pub rest : Family → ℕ → ℕ
rest f s = width f - s

-- the need of nodes and of leaves of a trie for entries, with s direct bits
abbrev pub node_need : Family → ℕ → Entries → ℕ
node_need f s L = trie_nodes s (strides (rest f s)) (rest f s) (all_answers f L)

abbrev pub leaf_need : Family → ℕ → Entries → ℕ
leaf_need f s L = trie_leaves s (strides (rest f s)) (rest f s) (all_answers f L)

-- the number of the address's regions of s, s + 6, s + 12, .. bits that hold two addresses with different answers
abbrev pub visits_of : ℕ → Entries → Address → ℕ
visits_of s L a = trie_visits s (strides (rest a.family s)) (rest a.family s) (all_answers a.family L) a.bits

-- the direct words stand for these answers; the arrays lie in places that are out, each with one parent and apart from all others;
-- and the places that are out are as many as that needs
pub record StandsForAnswers (t : Shown) (f : List Bool → ℕ) : Type 0 where
  pub words : TrieStands t.direct_bits t.words (strides (rest t.family t.direct_bits)) t.nodes.cells t.leaves.cells (rest t.family t.direct_bits) f
  pub nodes_apart : (k : ℕ) → AreApart (is_out t.nodes.free) (word_arrays k t.nodes.cells t.words)
  pub leaves_apart : (k : ℕ) → AreApart (is_out t.leaves.free) (word_leaf_arrays k t.nodes.cells t.words)
  pub nodes : count_free t.nodes + trie_nodes t.direct_bits (strides (rest t.family t.direct_bits)) (rest t.family t.direct_bits) f ≡ 2 ^ t.nodes.order
  pub leaves : count_free t.leaves + trie_leaves t.direct_bits (strides (rest t.family t.direct_bits)) (rest t.family t.direct_bits) f ≡ 2 ^ t.leaves.order

-- it stands for the answers of these entries
abbrev pub StandsFor : Shown → Entries → Type 0
StandsFor t L = StandsForAnswers t (all_answers t.family L)

-- it stands for some answers
pub record HasAnswers (t : Shown) : Type 0 where
  pub answers : List Bool → ℕ
  pub stands : StandsForAnswers t answers

-- what every trie keeps
pub record IsTrie (t : Shown) : Type 0 where
  pub few : t.direct_bits ≤ 18
  pub words : length t.words ≡ 2 ^ t.direct_bits
  pub nodes : IsSized t.nodes
  pub leaves : IsSized t.leaves

-- a need is more than there is: of nodes, or else of leaves
abbrev pub IsTooMuch : (arena need have nodes leaves node_places leaf_places : ℕ) → Type 0
IsTooMuch arena need have nodes leaves node_places leaf_places =
    ((arena ≡ 0) × (need ≡ need_in_u64 nodes) × (have ≡ node_places) × (have < nodes)) ⊎ ((arena ≡ 1) × (nodes ≤ node_places) × (need ≡ need_in_u64 leaves) × (have ≡ leaf_places) × (have < leaves))

-- the refusal of entries for which a trie's arenas are too small: it names the nodes if their need is more than their places, else
-- the leaves
abbrev pub IsRefused : Shown → Entries → TrieFull → Type 0
IsRefused t L e = IsTooMuch e.arena e.need e.have (node_need t.family t.direct_bits L) (leaf_need t.family t.direct_bits L) (2 ^ t.nodes.order) (2 ^ t.leaves.order)
