-- The hop that is named for a number, and of which family an arena is that is too small.
use Rattle.std.specs.Prelude.{ℕ, zero, suc, List, cond, nat_eq, Option, Some, None, Result, Ok, Err}
use Rattle.std.specs.Option.{option_or}
use Rattle.table_model.specs.Address.{Address}
use Rattle.table_model.specs.declared.family.Family.{Family}
use Rattle.table_model.specs.declared.family.Family.TheVariants.{V4, V6}
use Rattle.fib_addr.specs.Hops.{hop_at}
use Rattle.fib_addr.specs.declared.entry.Hop.{Hop}
use Rattle.fib_engine.specs.Numbers.{brought_as}
use Rattle.fib_router.specs.Router.{begun_hop}
use Rattle.fib_router.specs.declared.router.Begun.{Begun}
use Rattle.step_script.specs.Rows.{StepRow, answered, not_open, went_on}

-- ---- a hop's number
-- the hop that is brought, if it has this number
abbrev pub brought_at : Option (ℕ × Address) → ℕ → Option Address
brought_at None h = None
brought_at (Some b) h = cond (nat_eq b.0 h) (Some b.1) None

-- the hop that has this number, or gets it by the event that brings this one
abbrev pub told_hop : List Address → Option (ℕ × Address) → ℕ → Option Address
told_hop hops brings h = option_or (hop_at hops h) (brought_at brings h)

-- what the event that is begun brings
abbrev pub brought_in : Option Begun → Option (ℕ × Address)
brought_in None = None
brought_in (Some b) = brought_as (begun_hop b)

-- the row of a lookup's read
abbrev pub read_row : {E : Type 0} → List Address → Option (ℕ × Address) → ℕ → Result (Option Hop) E → StepRow
read_row hops brings c (Ok None) = went_on c
read_row hops brings c (Ok (Some h)) = answered c (told_hop hops brings h.0)
read_row hops brings c (Err e) = not_open c

-- ---- an arena of both families' four
abbrev pub arena_family : ℕ → Family
arena_family zero = V4
arena_family (suc zero) = V4
arena_family (suc (suc n)) = V6

-- its number among those of its family
abbrev pub arena_within : ℕ → ℕ
arena_within zero = 0
arena_within (suc zero) = 1
arena_within (suc (suc zero)) = 0
arena_within (suc (suc (suc n))) = 1
