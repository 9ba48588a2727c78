-- What stood before the answers of a prefix's addresses may have changed.
use Rattle.std.specs.Prelude.{◌≡◌, ℕ, ◌-◌, List, Bool, false, Option, length, drop}
use Rattle.table_model.specs.Bits.{begins}
use Rattle.table_model.specs.Width.{width}
use Rattle.buddy_arena.specs.Space.{Space}
use Rattle.buddy_arena.specs.Places.{is_out}
use Rattle.fib_addr.specs.Views.{prefix_as}
use Rattle.poptrie_build.specs.Build.{StandsIn, WordIn}
use Rattle.poptrie_build.specs.Strides.{slot}
use Rattle.poptrie_build.specs.declared.node.Node.{Node}
use Rattle.path_copying.specs.Kids.{StandsAs}
use Rattle.path_copying.specs.declared.way.Way.{Way}

-- the prefix's bits that come after those of the region
abbrev pub bits_left : Way → List Bool
bits_left w = drop (width w.prefix.family - w.bits) (prefix_as w.prefix).bits

-- the addresses of d more bits that don't begin with p get the same from both
abbrev pub AgreeBeside : List Bool → ℕ → (List Bool → ℕ) → (List Bool → ℕ) → Type 0
AgreeBeside p d f g = (a : List Bool) → length a ≡ d → begins p a ≡ false → f a ≡ g a

-- the node stands for a region of d more bits that has the answers f beside p
abbrev pub IsOldNode : List Node → List ℕ → Node → List Bool → ℕ → (List Bool → ℕ) → Type 0
IsOldNode nodes leaves n p d f = (k : ℕ) × (N : ℕ → Bool) × (L : ℕ → Bool) × (g : List Bool → ℕ) × StandsIn k nodes N leaves L n d g × AgreeBeside p d f g

-- it stands for slot v of such a region
abbrev pub IsOldChild : List Node → List ℕ → Node → ℕ → List Bool → ℕ → (List Bool → ℕ) → Type 0
IsOldChild nodes leaves n v p d f = (k : ℕ) × (N : ℕ → Bool) × (L : ℕ → Bool) × (g : List Bool → ℕ) × StandsIn k nodes N leaves L n (d - 6) (slot d g v) × AgreeBeside p d f g

-- ---- the same of nothing or a node, and of a direct word, by places that are out
abbrev pub IsOldKid : Space Node → Space ℕ → Option Node → List Bool → ℕ → (List Bool → ℕ) → Type 0
IsOldKid nodes leaves n p d f = (k : ℕ) × (g : List Bool → ℕ) × StandsAs k nodes.cells (is_out nodes.free) leaves.cells (is_out leaves.free) n d g × AgreeBeside p d f g

abbrev pub IsOldSlot : Space Node → Space ℕ → Option Node → ℕ → List Bool → ℕ → (List Bool → ℕ) → Type 0
IsOldSlot nodes leaves n v p d f = (k : ℕ) × (g : List Bool → ℕ) × StandsAs k nodes.cells (is_out nodes.free) leaves.cells (is_out leaves.free) n (d - 6) (slot d g v) × AgreeBeside p d f g

abbrev pub IsOldWord : Space Node → Space ℕ → ℕ → List Bool → ℕ → (List Bool → ℕ) → Type 0
IsOldWord nodes leaves w p d f = (k : ℕ) × (g : List Bool → ℕ) × WordIn w k nodes.cells (is_out nodes.free) leaves.cells (is_out leaves.free) d g × AgreeBeside p d f g
