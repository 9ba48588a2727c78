-- The regions whose answers nodes or direct words stand for.
use Rattle.std.specs.Prelude.{ℕ, ◌+◌, ◌≤◌, List}
use Rattle.fib_addr.specs.Answers.{part}
use Rattle.poptrie_build.specs.Strides.{Region, address}
use Rattle.poptrie_build.specs.Stands.{Stands, TrieStands}
use Rattle.poptrie_build.specs.declared.node.Node.{Node}

-- the node stands for what the key's first s bits leave of the region's answers
pub record StandsBelow (nodes : List Node) (leaves : List ℕ) (root s key : ℕ) (r : Region) : Type 0 where
  pub bits : s + r.bits ≤ 128
  pub stands : Stands r.strides nodes leaves root r.bits (part (address s key) r.answers)

-- it does so of some region
pub record IsLed (nodes : List Node) (leaves : List ℕ) (root s key : ℕ) : Type 0 where
  pub region : Region
  pub below : StandsBelow nodes leaves root s key region

-- the direct words stand for the region's answers
pub record StandsWhole (s : ℕ) (words : List ℕ) (nodes : List Node) (leaves : List ℕ) (r : Region) : Type 0 where
  pub bits : s + r.bits ≤ 128
  pub stands : TrieStands s words r.strides nodes leaves r.bits r.answers

-- they do so of some region
pub record IsWhole (s : ℕ) (words : List ℕ) (nodes : List Node) (leaves : List ℕ) : Type 0 where
  pub region : Region
  pub whole : StandsWhole s words nodes leaves region
