use Rattle.adj_rib_in.proofs.Flats.{NoneBefore}
use Rattle.adj_rib_in.proofs.flat.Flat.slot_of.Given as goal

abbrev pub invariant-loop-i : goal.invariant-loop-i
invariant-loop-i l = NoneBefore l.fn.self.rows.slots l.fn.row l.fn.peer l.fn.id l.initial.i l.i
