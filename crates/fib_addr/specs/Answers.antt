-- Regions of addresses by the bits that follow, and the one answer of a region.
use Rattle.std.specs.Prelude.{◌≡◌, ◌≢◌, ℕ, zero, suc, ◌-◌, List, [], ◌++◌, Bool, true, false, cond, Option, Some, None, nat_eq, length}
use Rattle.table_model.specs.Width.{width}
use Rattle.table_model.specs.Address.{Prefix}
use Rattle.table_model.specs.declared.family.Family.{Family}
use Rattle.table_model.specs.Entries.{Entries, match_in}
use Rattle.table_model.specs.Sets.{side}

-- what the addresses of a prefix get by longest match, by the bits that follow the prefix
abbrev pub answers_in : Entries → Prefix → List Bool → ℕ
answers_in L p a = match_in L (record { family = p.family; bits = p.bits ++ a })

-- how many bits follow a prefix
abbrev pub bits_in : Prefix → ℕ
bits_in p = width p.family - length p.bits

-- what the addresses of a family get, by their bits
abbrev pub all_answers : Family → Entries → List Bool → ℕ
all_answers f L = answers_in L (record { family = f; bits = [] })

-- the answers in the part whose first bits are p
abbrev pub part : List Bool → (List Bool → ℕ) → List Bool → ℕ
part p f a = f (p ++ a)

-- two addresses of d more bits have different answers
abbrev pub Differ : ℕ → (List Bool → ℕ) → Type 0
Differ d f = (a : List Bool) × (b : List Bool) × (length a ≡ d) × (length b ≡ d) × (f a ≢ f b)

-- the one answer of both, if there is one
abbrev pub same_hop : Option ℕ → Option ℕ → Option ℕ
same_hop (Some g) (Some h) = cond (nat_eq g h) (Some g) None
same_hop (Some g) None = None
same_hop None o = None

-- the one answer of a region of d more bits with the answers f, if there is one: the region is uniform exactly there
unfoldable pub one_answer : ℕ → (List Bool → ℕ) → Option ℕ
one_answer zero f = Some (f [])
one_answer (suc d) f = same_hop (one_answer d (side false f)) (one_answer d (side true f))
