-- What a lookup reads on from a node.
use Rattle.std.specs.Prelude.{◌≡◌, ℕ, zero, suc, ◌+◌, ◌-◌, ◌*◌, ◌<◌, List, ◌++◌, Bool, true, false, length, take, drop, replicate}
use Rattle.std.specs.Int.{bit_at}
use Rattle.table_model.specs.Bits.{bits_of, value_of}
use Rattle.fib_addr.specs.declared.addr.Addr.{Addr}
use Rattle.fib_addr.specs.Views.{addr_as}
use Rattle.poptrie_build.specs.Bits.{rank_of}
use Rattle.poptrie_build.specs.Stands.{node_at, IsLeaf}
use Rattle.poptrie_build.specs.declared.node.Node.{Node}
use Rattle.poptrie_set.specs.declared.reading.At.{At}
use Rattle.poptrie_set.specs.declared.reading.At.TheVariants as at

-- the bits of an address that a node of this stride is asked with: those after the direct ones and n strides
abbrev pub bits_after : ℕ → ℕ → Addr → List Bool
bits_after s stride a = drop (s + 6 * stride) (addr_as a).bits

-- the slot that bits lead to: the number of the first six, where those past the last one are zero
unfoldable pub next_slot : List Bool → ℕ
next_slot bits = value_of (take 6 (bits ++ replicate 6 false))

-- the index of a node's child for a slot, and of its leaf
abbrev pub child_index : Node → ℕ → ℕ
child_index n v = n.base1 + rank_of n.vector (v + 1) - 1

abbrev pub leaf_index : Node → ℕ → ℕ
leaf_index n v = n.base0 + rank_of n.leafvec (v + 1) - 1

-- the first if the bit is set
abbrev pub ByBit : ℕ → Type 0 → Type 0 → Type 0
ByBit zero P Q = Q
ByBit (suc b) P Q = P

-- reading on from node i for these bits visits this many nodes and ends at the leaf h, all in the places N and L: the node's child for
-- the bits' slot is read on from for the bits after the first six, or the slot is a leaf
unfoldable pub ReadsOn : ℕ → List Node → (ℕ → Bool) → List ℕ → (ℕ → Bool) → ℕ → List Bool → ℕ → Type 0
ReadsOn zero nodes N leaves L i bits h = ⊥
ReadsOn (suc left) nodes N leaves L i bits h =
    (N i ≡ true)
    × (i < length nodes)
    × ByBit (bit_at (node_at nodes i).vector (next_slot bits))
    ((0 < rank_of (node_at nodes i).vector (next_slot bits + 1)) × ReadsOn left nodes N leaves L (child_index (node_at nodes i) (next_slot bits)) (drop 6 bits) h)
    ((left ≡ 0) × (0 < rank_of (node_at nodes i).leafvec (next_slot bits + 1)) × (L (leaf_index (node_at nodes i) (next_slot bits)) ≡ true) × IsLeaf leaves (leaf_index (node_at nodes i) (next_slot bits)) h)

-- reading on from the node ends
abbrev pub CanRead : List Node → List ℕ → ℕ → List Bool → Type 0
CanRead nodes leaves i bits = (left : ℕ) × (h : ℕ) × (N : ℕ → Bool) × (L : ℕ → Bool) × ReadsOn left nodes N leaves L i bits h

-- the number of 128 bits whose first bits are these, and whose others are zero
abbrev pub IsKeyOf : ℕ → List Bool → Type 0
IsKeyOf key bits = (zeros : ℕ) × (bits_of 128 key ≡ bits ++ replicate zeros false)

-- what was read for these bits leads on to a node from which one node less is visited, or is the answer
abbrev pub LeadsOn : At → ℕ → List Node → (ℕ → Bool) → List ℕ → (ℕ → Bool) → ℕ → List Bool → ℕ → Type 0
LeadsOn (at.Node i t) left nodes N leaves L stride bits h = (t ≡ suc stride) × ((before : ℕ) × (left ≡ suc before) × ReadsOn before nodes N leaves L i (drop 6 bits) h)
LeadsOn (at.Answer g) left nodes N leaves L stride bits h = (left ≡ 1) × (g.0 ≡ h)

-- the same said of an address: the node that it leads on to is of the next stride
abbrev pub LeadsIn : At → ℕ → List Node → (ℕ → Bool) → List ℕ → (ℕ → Bool) → ℕ → ℕ → Addr → ℕ → Type 0
LeadsIn (at.Node i t) left nodes N leaves L s stride a h = (t ≡ suc stride) × ((before : ℕ) × (left ≡ suc before) × ReadsOn before nodes N leaves L i (bits_after s t a) h)
LeadsIn (at.Answer g) left nodes N leaves L s stride a h = (left ≡ 1) × (g.0 ≡ h)
