use Rattle.std.proofs.Common.{length, ◌-◌}
use Rattle.lookup_tests.proofs.pairs.+finish.Given as goal

abbrev pub decreases-finish : goal.decreases-finish
decreases-finish l = length l.trie.now.stores - l.trie.now.made
