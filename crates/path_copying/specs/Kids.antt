-- A node and its 64 children, each with nothing in its place if the slot's region has one answer.
use Rattle.std.specs.Prelude.{◌≡◌, ℕ, ◌+◌, ◌-◌, List, [], Bool, Option, Some, None, cond, nat_eq, slice_index_or}
use Rattle.std.specs.Int.{bit_at}
use Rattle.buddy_arena.specs.Space.{Space}
use Rattle.buddy_arena.specs.Places.{is_out}
use Rattle.buddy_arena.specs.Arrays.{Array}
use Rattle.fib_addr.specs.Answers.{one_answer}
use Rattle.poptrie_build.specs.Bits.{rank_of}
use Rattle.poptrie_build.specs.Stands.{node_at}
use Rattle.poptrie_build.specs.Build.{StandsIn}
use Rattle.poptrie_build.specs.Arrays.{node_arrays, leaf_arrays}
use Rattle.poptrie_build.specs.declared.node.Node.{Node}

-- the child in a list of 64
abbrev pub kid_in : List (Option Node) → ℕ → Option Node
kid_in kids v = slice_index_or kids v None

-- the child at a node's slot
abbrev pub kid_at : List Node → Option Node → ℕ → Option Node
kid_at nodes None v = None
kid_at nodes (Some n) v = cond (nat_eq (bit_at n.vector v) 0) None (Some (node_at nodes (n.base1 + rank_of n.vector (v + 1) - 1)))

-- the arrays at and below it
abbrev pub kid_arrays : ℕ → List Node → Option Node → List Array
kid_arrays k nodes None = []
kid_arrays k nodes (Some n) = node_arrays k nodes n

abbrev pub kid_leaf_arrays : ℕ → List Node → Option Node → List Array
kid_leaf_arrays k nodes None = []
kid_leaf_arrays k nodes (Some n) = leaf_arrays k nodes n

-- nothing for a region of one answer, else a node that stands for it
abbrev pub StandsAs : ℕ → List Node → (ℕ → Bool) → List ℕ → (ℕ → Bool) → Option Node → ℕ → (List Bool → ℕ) → Type 0
StandsAs k nodes N leaves L None d f = (h : ℕ) × (one_answer d f ≡ Some h)
StandsAs k nodes N leaves L (Some n) d f = StandsIn k nodes N leaves L n d f

-- it stands for some region of d more bits, by places that are out
abbrev pub IsKid : Space Node → Space ℕ → Option Node → ℕ → Type 0
IsKid nodes leaves n d = (k : ℕ) × (g : List Bool → ℕ) × StandsAs k nodes.cells (is_out nodes.free) leaves.cells (is_out leaves.free) n d g
