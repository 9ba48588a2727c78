use Rattle.std.proofs.Common.{length}
use Rattle.fib_addr.proofs.ipv6.+put_groups.Given as goal

-- proposed from what the function passes where it calls itself
abbrev pub decreases-put_groups : goal.decreases-put_groups
decreases-put_groups l = length l.groups.now
