use Rattle.std.proofs.Common.{◌≡◌, ◌+◌, ◌<◌, ℕ, take, get_or, nat_eq}
use Rattle.table_model.specs.Sets.{is_in}
use Rattle.cert_check.specs.Marks.{AreMarks}
use Rattle.cert_check.proofs.sets.mark.Given as goal

abbrev pub invariant-loop-hop : goal.invariant-loop-hop
invariant-loop-hop l = AreMarks (l.stamp + 1) l.marks.items × ((h : ℕ) → h < 65536 → nat_eq (get_or l.marks.items h 0) l.stamp ≡ is_in h (take l.hop-index l.hops))
