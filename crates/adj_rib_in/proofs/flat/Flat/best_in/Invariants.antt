use Rattle.adj_rib_in.proofs.BestSlots.{Keeps}
use Rattle.adj_rib_in.proofs.flat.Flat.best_in.Given as goal

abbrev pub invariant-loop-i : goal.invariant-loop-i
invariant-loop-i l = Keeps l.fn.self l.fn.prefix l.fn.row l.fn.but l.fn.other l.i l.best
