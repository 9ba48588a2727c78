use Rattle.std.proofs.Common.{◌≡◌, ◌+◌, ◌-◌}
use Rattle.table_model.specs.Entries.{Entries}
use Rattle.poptrie_set.specs.Lives.{ShowsIn}
use Rattle.poptrie_set.specs.First.{published_in}
use Rattle.poptrie_set.proofs.On_way.{OnWay}
use Rattle.poptrie_set.proofs.trie_set.TrieSet.lookup.Given as goal

abbrev pub invariant-walk : goal.invariant-walk
invariant-walk g l = (l.steps ≡ l.initial.steps + l.visits) × ((E F : Entries) → ShowsIn l.self E F → OnWay l.at l.self (published_in l.self E F l.addr) l.addr l.visits)

abbrev pub decreases-walk : goal.decreases-walk
decreases-walk g l = 22 - l.visits
