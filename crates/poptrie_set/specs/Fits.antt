-- What the open lookups may read.
use Rattle.std.specs.Prelude.{◌≡◌, ℕ, ◌≤◌, List, [], Bool}
use Rattle.std.specs.List.{AllByRecursion}
use Rattle.poptrie_set.specs.Rooms.{safe}
use Rattle.poptrie_set.specs.Lives.{Seen}
use Rattle.poptrie_set.specs.Reading.{ReadsOn}
use Rattle.poptrie_set.specs.declared.trie_set.Oldest.{Oldest}
use Rattle.poptrie_set.specs.declared.trie_set.Oldest.TheVariants as oldest

-- a lookup that is past its first go: its start, its node, and the bits that its node is asked with, the most significant first;
-- what is due is its version's answer, and how many nodes it is to visit
pub record Reader : Type 0 where
  pub since : ℕ
  pub node : ℕ
  pub bits : List Bool
  pub answer : ℕ
  pub left : ℕ

-- reading on in the selected set ends as it is due, in places that nothing writes or gives back before the lookup ends
abbrev pub ReadsIn : Seen → Reader → Type 0
ReadsIn l o = (o.since ≤ l.time) × ReadsOn o.left l.nodes.space.cells (safe l.nodes l.made o.since) l.leaves.space.cells (safe l.leaves l.made o.since) o.node o.bits o.answer

abbrev pub FitsIn : Seen → List Reader → Type 0
FitsIn l os = AllByRecursion (ReadsIn l) os

-- no open lookup started earlier
abbrev pub IsOldestOf : Oldest → List Reader → Type 0
IsOldestOf oldest.Nobody os = os ≡ []
IsOldestOf (oldest.Started cursor since) os = AllByRecursion (λ (o : Reader). since ≤ o.since) os

-- the time up to which retired blocks are given back: all ends so far if nobody reads
abbrev pub until : Oldest → ℕ → ℕ
until oldest.Nobody time = time
until (oldest.Started cursor since) time = since
