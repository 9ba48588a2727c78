use Rattle.std.proofs.Common.{◌≡◌, take}
use Rattle.table_model.specs.Sets.{common}
use Rattle.cert_check.proofs.sets.common_hops.Given as goal

abbrev pub invariant-loop-hop : goal.invariant-loop-hop
invariant-loop-hop l = l.both.items ≡ common (take l.hop-index l.low) l.high
