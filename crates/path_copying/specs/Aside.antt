-- The blocks of a node's two arrays, put aside.
use Rattle.std.specs.Prelude.{◌≡◌, ℕ, List, [], ◌∷◌, ◌++◌, Option, Some, None, cond, nat_eq}
use Rattle.buddy_arena.specs.Powers.{up}
use Rattle.buddy_arena.specs.Arrays.{Array}
use Rattle.buddy_arena.specs.Blocks.{Held}
use Rattle.poptrie_build.specs.Bits.{rank_of}
use Rattle.poptrie_build.specs.declared.node.Node.{Node}

-- the block of an array of `count` places; an array of nothing has none
abbrev pub block_of : ℕ → ℕ → List Array
block_of base count = cond (nat_eq count 0) [] ((base, up count) ∷ [])

abbrev pub with_aside : Held → ℕ → ℕ → Held
with_aside h base count = record h { replaced = h.replaced ++ block_of base count }

-- the block of a node's children, and that of its leaves
abbrev pub children_of : Option Node → List Array
children_of None = []
children_of (Some n) = block_of n.base1 (rank_of n.vector 64)

abbrev pub leaves_of : Option Node → List Array
leaves_of None = []
leaves_of (Some n) = block_of n.base0 (rank_of n.leafvec 64)

-- blocks are put aside, and nothing else changes
pub record OnlyAside (was now : Held) : Type 0 where
  pub taken : now.taken ≡ was.taken
  pub retired : now.retired ≡ was.retired
  pub time : now.time ≡ was.time
