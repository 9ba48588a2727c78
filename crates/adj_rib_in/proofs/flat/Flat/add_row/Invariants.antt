use Rattle.adj_rib_in.proofs.Gathers.{Gathered}
use Rattle.adj_rib_in.proofs.flat.Flat.add_row.Given as goal

abbrev pub invariant-loop-i : goal.invariant-loop-i
invariant-loop-i l = Gathered l.fn.self l.fn.prefix l.fn.row l.fn.ways l.i l.ways
