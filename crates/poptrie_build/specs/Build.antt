-- What a node that is not in the arrays yet stands for, and in which places the arrays below it lie.
use Rattle.std.specs.Prelude.{◌≡◌, ℕ, zero, suc, ◌+◌, ◌-◌, ◌^◌, ◌<◌, List, Bool, true, None, length, slice_index}
use Rattle.table_model.specs.Bits.{bits_of}
use Rattle.poptrie_build.specs.Bits.{rank_of}
use Rattle.fib_addr.specs.Answers.{one_answer, part}
use Rattle.poptrie_build.specs.Strides.{slots, slot}
use Rattle.poptrie_build.specs.Stands.{IsCanonical, IsLeaf, BySlot, node_at}
use Rattle.poptrie_build.specs.declared.node.Node.{Node}

-- the node stands for the region by arrays that lie in the places N of the nodes and L of the leaves
unfoldable pub StandsIn : ℕ → List Node → (ℕ → Bool) → List ℕ → (ℕ → Bool) → Node → ℕ → (List Bool → ℕ) → Type 0
StandsIn zero nodes N leaves L node d f = ⊥
StandsIn (suc k) nodes N leaves L node d f =
    (one_answer d f ≡ None)
    × IsCanonical node.vector node.leafvec (slots d f)
    × ((v : ℕ) → v < 64 → BySlot (slots d f v)
    ((N (node.base1 + rank_of node.vector (v + 1) - 1) ≡ true)
    × (node.base1 + rank_of node.vector (v + 1) - 1 < length nodes)
    × StandsIn k nodes N leaves L (node_at nodes (node.base1 + rank_of node.vector (v + 1) - 1)) (d - 6) (slot d f v))
    (λ h. (L (node.base0 + rank_of node.leafvec (v + 1) - 1) ≡ true) × IsLeaf leaves (node.base0 + rank_of node.leafvec (v + 1) - 1) h))

-- a direct word that is a hop beside the top bit, or a node in the places N
abbrev pub WordIn : ℕ → ℕ → List Node → (ℕ → Bool) → List ℕ → (ℕ → Bool) → ℕ → (List Bool → ℕ) → Type 0
WordIn word k nodes N leaves L d f =
    BySlot (one_answer d f) ((word < 2 ^ 31) × (N word ≡ true) × (word < length nodes) × StandsIn k nodes N leaves L (node_at nodes word) d f) (λ h. (h < 2 ^ 16) × (word ≡ 2 ^ 31 + h))

-- the words stand for the slots of j bits
abbrev pub WordsIn : ℕ → List ℕ → ℕ → List Node → (ℕ → Bool) → List ℕ → (ℕ → Bool) → ℕ → (List Bool → ℕ) → Type 0
WordsIn j words k nodes N leaves L d f = (v : ℕ) → v < 2 ^ j → WordIn (slice_index words v) k nodes N leaves L d (part (bits_of j v) f)
