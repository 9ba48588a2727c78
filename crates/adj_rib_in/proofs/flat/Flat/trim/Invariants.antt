use Rattle.adj_rib_in.specs.Flat.{IsFlat, Thins, flat_paths}
use Rattle.adj_rib_in.proofs.flat.Flat.trim.Given as goal

abbrev pub invariant-loop : goal.invariant-loop
invariant-loop l = record { flat : IsFlat l.self; paths : Thins (flat_paths l.fn.self) (flat_paths l.self) }
