-- How far one table of a family is from another.
use Rattle.std.specs.Prelude.{ℕ, ◌+◌, [], ◌∷◌, Bool, true, false, not, cond, Option, None, Some, nat_eq, is_none}
use Rattle.table_model.specs.Table.{Entry, Table}
use Rattle.table_model.specs.Regions.{entry_at}

-- whether two tables that hold these at a prefix differ there: one has an entry and the other none, or their hops differ
abbrev pub differs : Option ℕ → Option ℕ → Bool
differs None None = false
differs None (Some h) = true
differs (Some g) None = true
differs (Some g) (Some h) = not (nat_eq g h)

-- how many of the entries pass the test
abbrev pub how_many : (Entry → Bool) → Table → ℕ
how_many t [] = 0
how_many t (e ∷ L) = cond (t e) 1 0 + how_many t L

-- the number of prefixes at which T and U don't hold the same entry or none: those of T's entries that U doesn't hold, or
-- with another hop, and those of U's entries at whose prefix T has none
abbrev pub distance : Table → Table → ℕ
distance T U = how_many (λ e. differs (Some e.hop) (entry_at e.prefix U)) T + how_many (λ e. is_none (entry_at e.prefix T)) U
