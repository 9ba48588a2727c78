-- What a clause sees of the hops that are allowed.
use Rattle.fib_addr.specs.HopSets.{SameHops}
use Rattle.moves_model.specs.Sets.{Allowed, any, these}
use Rattle.fib_moves.specs.declared.allowed.AllowedHops.{AllowedHops}
use Rattle.fib_moves.specs.declared.allowed.AllowedHops.TheVariants as code

abbrev pub allowed_as : AllowedHops → Allowed
allowed_as code.Any = any
allowed_as (code.These S) = these S

-- both allow any hop, or both the same hops
abbrev pub SameAllowed : Allowed → Allowed → Type 0
SameAllowed any any = Unit {0}
SameAllowed any (these Q) = ⊥
SameAllowed (these S) any = ⊥
SameAllowed (these S) (these Q) = SameHops S Q
