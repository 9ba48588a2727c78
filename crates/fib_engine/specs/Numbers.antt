-- The numbers of hops while an elementary event is planned.
use Rattle.std.specs.Prelude.{◌≡◌, ℕ, List, Option, Some, None, option_map, is_some, cond, map, true, false}
use Rattle.table_model.specs.Address.{Address, Prefix}
use Rattle.table_model.specs.Entries.{Entries}
use Rattle.route_model.specs.Events.{Elem, Put, Cut}
use Rattle.fib_addr.specs.Hops.{number_of, with_hop}
use Rattle.fib_addr.specs.Views.{addr_as}
use Rattle.fib_addr.specs.declared.addr.Addr.{Addr}
use Rattle.fib_addr.specs.declared.prefix.Prefix as code_prefix
use Rattle.fib_addr.specs.declared.entry.Hop as code_hop
use Rattle.fib_prefix.specs.declared.event.Elem as code_elem
use Rattle.fib_prefix.specs.declared.event.Elem.TheVariants as code_variant
use Rattle.kept_model.specs.Feed.{IsNumbered, number_in}
use Rattle.kept_model.specs.Kept.{is_other}
use Rattle.route_choice.specs.declared.choice.Choice.{Choice}

-- the number that a hop gets which had none of the first numbers and has one of the second
abbrev pub IsNewNumber : List Address → List Address → Option code_hop.Hop → Type 0
IsNewNumber before after own = (a : Address) → IsNumbered after a → number_of before a ≡ None → option_map (λ h. h.0) own ≡ number_of after a

-- the number that an elementary event's hop has or gets, if it puts a route
abbrev pub IsOwnNumber : List Address → code_elem.Elem → Option code_hop.Hop → Type 0
IsOwnNumber hops (code_variant.Put via prefix path hop) own = option_map (λ h. h.0) own ≡ number_of (with_hop hops (addr_as hop)) (addr_as hop)
IsOwnNumber hops (code_variant.Cut via prefix) own = Unit {0}

-- The hop that an elementary event gives a number, with that number: it puts a route whose hop has none yet.
abbrev pub brought_by : List Address → Elem → Option (ℕ × Address)
brought_by hops (Put via prefix path hop) = cond (is_some (number_of hops hop)) None (option_map (λ n. (n, hop)) (number_of (with_hop hops hop) hop))
brought_by hops (Cut via prefix) = None

abbrev pub brought_as : Option (code_hop.Hop × Addr) → Option (ℕ × Address)
brought_as o = option_map (λ b. (b.0.0, addr_as b.1)) o

-- the number of a hop, if there is one; none's is 0
abbrev pub number_or_none : List Address → Option Address → ℕ
number_or_none hops None = 0
number_or_none hops (Some a) = number_in hops a

-- the hop after a choice, if there is one, has a number
abbrev pub HasNumber : List Address → Option Address → Type 0
HasNumber hops None = Unit {0}
HasNumber hops (Some a) = IsNumbered hops a

-- the route of a choice that changes its hop, with the number of the hop after, or none if it doesn't
abbrev pub IsRouteOf : List Address → Choice → Option (code_prefix.Prefix × code_hop.Hop) → Type 0
IsRouteOf hops choice None = is_other (option_map addr_as choice.before) (option_map addr_as choice.after) ≡ false
IsRouteOf hops choice (Some r) = (is_other (option_map addr_as choice.before) (option_map addr_as choice.after) ≡ true) × (r.0 ≡ choice.prefix) × (r.1.0 ≡ number_or_none hops (option_map addr_as choice.after))

-- routes with the numbers of their hops
abbrev pub number_routes : List Address → List (Prefix × Address) → Entries
number_routes hops routes = map (λ r. (r.0, number_in hops r.1)) routes
