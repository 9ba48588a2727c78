-- What nodes and leaves in arrays stand for.
use Rattle.std.specs.Prelude.{◌≡◌, ℕ, zero, suc, ◌+◌, ◌-◌, ◌^◌, ◌<◌, List, Bool, Option, Some, None, length, slice_index, slice_index_or}
use Rattle.std.specs.Int.{bit_at}
use Rattle.table_model.specs.Bits.{bits_of}
use Rattle.poptrie_build.specs.Bits.{rank_of}
use Rattle.fib_addr.specs.Answers.{one_answer, part}
use Rattle.poptrie_build.specs.Strides.{slots, slot, mixed, run_start}
use Rattle.poptrie_build.specs.declared.node.Node.{Node}

abbrev pub blank : Node
blank = record { vector = 0; leafvec = 0; base0 = 0; base1 = 0 }

abbrev pub node_at : List Node → ℕ → Node
node_at nodes i = slice_index_or nodes i blank

-- the vectors are those of the slots
pub record IsCanonical (vector leafvec : ℕ) (g : ℕ → Option ℕ) : Type 0 where
  pub nodes : (v : ℕ) → v < 64 → bit_at vector v ≡ mixed (g v)
  pub leaves : (v : ℕ) → v < 64 → bit_at leafvec v ≡ run_start g v

-- leaf i is h
abbrev pub IsLeaf : List ℕ → ℕ → ℕ → Type 0
IsLeaf leaves i h = (i < length leaves) × (slice_index leaves i ≡ h)

-- the first if the slot has a node, the second at its answer if it is a leaf
abbrev pub BySlot : Option ℕ → Type 0 → (ℕ → Type 0) → Type 0
BySlot None P Q = P
BySlot (Some h) P Q = Q h

-- node i stands for a region of d more bits with the answers f, over at most k strides
unfoldable pub Stands : ℕ → List Node → List ℕ → ℕ → ℕ → (List Bool → ℕ) → Type 0
Stands zero nodes leaves i d f = ⊥
Stands (suc k) nodes leaves i d f =
    (i < length nodes)
    × (one_answer d f ≡ None)
    × IsCanonical (node_at nodes i).vector (node_at nodes i).leafvec (slots d f)
    × ((v : ℕ) → v < 64 → BySlot (slots d f v)
    (Stands k nodes leaves ((node_at nodes i).base1 + rank_of (node_at nodes i).vector (v + 1) - 1) (d - 6) (slot d f v))
    (IsLeaf leaves ((node_at nodes i).base0 + rank_of (node_at nodes i).leafvec (v + 1) - 1)))

-- a direct word is a hop beside the top bit, or a node
abbrev pub WordStands : ℕ → ℕ → List Node → List ℕ → ℕ → (List Bool → ℕ) → Type 0
WordStands word k nodes leaves d f = BySlot (one_answer d f) ((word < 2 ^ 31) × Stands k nodes leaves word d f) (λ h. (h < 2 ^ 16) × (word ≡ 2 ^ 31 + h))

-- the direct words stand for the slots of s bits
pub record TrieStands (s : ℕ) (direct : List ℕ) (k : ℕ) (nodes : List Node) (leaves : List ℕ) (d : ℕ) (f : List Bool → ℕ) : Type 0 where
  pub words : length direct ≡ 2 ^ s
  pub each : (v : ℕ) → v < 2 ^ s → WordStands (slice_index direct v) k nodes leaves d (part (bits_of s v) f)
