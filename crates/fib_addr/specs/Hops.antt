-- Next hops and their numbers.
use Rattle.std.specs.Prelude.{ℕ, zero, suc, ◌+◌, List, [], ◌∷◌, ◌++◌, cond, Option, None, option_map, slice_get, position, fold}
use Rattle.std.specs.List.{list_any}
use Rattle.table_model.specs.Address.{Address, same_address}

-- next hops in the order of their numbers, and how many more get a number without memory
pub record Hops : Type 0 where
  pub list : List Address
  pub spare : ℕ

-- the most hops that may have numbers
abbrev pub most_hops : ℕ
most_hops = 65534

-- the number of a hop: its place in the list from 1, if it is there
abbrev pub number_of : List Address → Address → Option ℕ
number_of hops a = option_map (λ place. place + 1) (position (same_address a) hops)

-- the hop of a number; number 0 is none's
abbrev pub hop_at : List Address → ℕ → Option Address
hop_at hops zero = None
hop_at hops (suc n) = slice_get hops n

-- the hops with this one, at the end if it is new
abbrev pub with_hop : List Address → Address → List Address
with_hop hops a = cond (list_any (same_address a) hops) hops (hops ++ a ∷ [])

-- the different hops in the order of their first use
abbrev pub hops_of : List Address → List Address
hops_of used = fold with_hop [] used
