use Rattle.std.proofs.Common.{arith}
use Rattle.poptrie_build.proofs.Filled.{free_at_most}
use Rattle.poptrie_build.proofs.trie.Trie.needs.Goals as goal

pub overflow_sub-result : goal.overflow_sub-result
overflow_sub-result c = omega (arith, c.places.ensures, c.free_total.ensures, free_at_most c.self.inside.nodes c.self.invariant.0.nodes)

pub overflow_sub-result-2 : goal.overflow_sub-result-2
overflow_sub-result-2 c = omega (arith, c.places-2.ensures, c.free_total-2.ensures, free_at_most c.self.inside.leaves c.self.invariant.0.leaves)
