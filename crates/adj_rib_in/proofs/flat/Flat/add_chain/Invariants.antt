use Rattle.adj_rib_in.proofs.Sessions.{Walked}
use Rattle.adj_rib_in.proofs.flat.Flat.add_chain.Given as goal

abbrev pub invariant-loop-end : goal.invariant-loop-end
invariant-loop-end l = Walked l.fn.self l.fn.number l.fn.paths.keys l.end l.paths.keys

abbrev pub decreases-loop-end : goal.decreases-loop-end
decreases-loop-end l = l.end
