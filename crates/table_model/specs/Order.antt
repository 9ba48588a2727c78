-- The order of prefixes: IPv4 before IPv6, then by their bits filled with zeros as a number, then the shorter first.
use Rattle.std.specs.Prelude.{ℕ, ◌-◌, ◌++◌, List, Bool, false, length, replicate}
use Rattle.std.specs.Ordering.{nat_cmp, bool_cmp, ordering_then}
use Rattle.std.specs.Cmp.Lexicographic.{slice_cmp}
use Rattle.std.specs.declared.cmp.Ordering.{Ordering}
use Rattle.table_model.specs.Bits.{value_of}
use Rattle.table_model.specs.Width.{width}
use Rattle.table_model.specs.Address.{Prefix}
use Rattle.table_model.specs.declared.family.Family.{Family}

-- IPv4, of 32 bits, before IPv6, of 128
abbrev pub family_cmp : Family → Family → Ordering
family_cmp f g = nat_cmp (width f) (width g)

-- the number of the least address of the prefix's region
abbrev pub filled : Prefix → ℕ
filled p = value_of (p.bits ++ replicate (width p.family - length p.bits) false)

-- by family, then by that number, then by length
abbrev pub prefix_cmp : Prefix → Prefix → Ordering
prefix_cmp p q = ordering_then (family_cmp p.family q.family) (ordering_then (nat_cmp (filled p) (filled q)) (nat_cmp (length p.bits) (length q.bits)))

-- the order of prefixes of one family by their bits: the first bit that differs decides, and a prefix comes before what is within it
abbrev pub path_cmp : List Bool → List Bool → Ordering
path_cmp = slice_cmp bool_cmp
