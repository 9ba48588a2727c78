use Rattle.std.proofs.Common.{◌≡◌, ◌+◌, ◌≤◌, length, drop}
use Rattle.std.specs.Net.Text.{zero_run, longest_zero_run}
use Rattle.fib_addr.proofs.ipv6.longest_zero_run.Given as goal

abbrev pub invariant-loop-at : goal.invariant-loop-at
invariant-loop-at l =
    (l.run ≡ zero_run (drop l.at l.groups)) × (l.longest ≡ (longest_zero_run (drop l.at l.groups)).1)
    × (l.place ≡ l.at + (longest_zero_run (drop l.at l.groups)).0)
    × (l.at + l.run ≤ length l.groups) × (l.place + l.longest ≤ length l.groups)
