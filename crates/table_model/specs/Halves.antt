-- The regions of prefixes, one within another, and their halves.
use Rattle.std.specs.Prelude.{[], ◌∷◌, ◌++◌, Bool, ◌&&◌}
use Rattle.table_model.specs.Bits.{begins}
use Rattle.table_model.specs.Address.{Prefix, same_family}

-- whether p's region is within q's: whether p begins with q
abbrev pub is_within : Prefix → Prefix → Bool
is_within p q = same_family q.family p.family && begins q.bits p.bits

-- the half of the prefix's region whose addresses have this bit next
abbrev pub half_at : Bool → Prefix → Prefix
half_at b p = record { family = p.family; bits = p.bits ++ b ∷ [] }
