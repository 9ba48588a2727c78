-- How a set of hops lies in its value.
use Rattle.std.specs.Prelude.{ℕ, List, [], ◌∷◌}
use Rattle.fib_addr.specs.declared.hop_set.Hops.{Hops}
use Rattle.fib_addr.specs.declared.hop_set.Hops.TheVariants.{One, Two, Three, More}

-- the hops that are kept
abbrev pub listed : Hops → List ℕ
listed (One a) = a ∷ []
listed (Two a) = a
listed (Three a) = a
listed (More v) = v.value.items
