use Rattle.std.proofs.Common.{◌≡◌, ◌≤◌, length, take}
use Rattle.cert_check.specs.Runs.{last_hop}
use Rattle.cert_check.proofs.alike.first_apart.Given as goal

abbrev pub invariant-loop-i : goal.invariant-loop-i
invariant-loop-i l = (take l.i l.a ≡ take l.i l.b) × (l.i ≤ length l.b) × (l.hop ≡ last_hop (take l.i l.a))
