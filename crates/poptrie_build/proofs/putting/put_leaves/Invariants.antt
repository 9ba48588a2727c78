use Rattle.poptrie_build.specs.Put.{PutsAll}
use Rattle.poptrie_build.proofs.putting.put_leaves.Given as goal

abbrev pub invariant-loop-i : goal.invariant-loop-i
invariant-loop-i l = PutsAll l.base l.i l.hops l.fn.leaves l.leaves
