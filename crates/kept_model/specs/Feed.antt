-- What elementary events come to: the numbers of their next hops, the table of routes, and its changes event by event.
use Rattle.std.specs.Prelude.{◌≡◌, ◌≤◌, ℕ, suc, ◌+◌, List, [], ◌∷◌, ◌++◌, Option, Some, None, option_map, unwrap_or, nat_lt, length, map, flat_map, fold, if◌then◌else◌}
use Rattle.std.specs.List.{AllByRecursion}
use Rattle.table_model.specs.Address.{Address, Prefix, same_address}
use Rattle.table_model.specs.Entries.{Entries}
use Rattle.table_model.specs.Changes.{Change, Add, Replace, Remove, additions}
use Rattle.route_model.specs.Events.{Elem, Put, Cut, elem_prefix}
use Rattle.route_model.specs.Choice.{Candidates, after_elem, chosen_for, routes_of}
use Rattle.fib_addr.specs.Hops.{hop_at, most_hops, number_of, with_hop}

-- ---- the numbers of next hops

-- the next hop that an elementary event brings, if it puts a candidate
abbrev pub brought : Elem → List Address
brought (Put via prefix path hop) = hop ∷ []
brought (Cut via prefix) = []

-- the hops that have numbers after elementary events: the different ones in the order in which they were first brought
abbrev pub hops_after : List Address → List Elem → List Address
hops_after hops elems = fold with_hop hops (flat_map brought elems)

-- the hop has one of the numbers
abbrev pub IsNumbered : List Address → Address → Type 0
IsNumbered hops a = (n : ℕ) × (number_of hops a ≡ Some n) × (1 ≤ n) × (n ≤ length hops)

-- which of the elementary events, counted from 1, brings one hop too many, if one does
unfoldable pub full_at : List Address → List Elem → Option ℕ
full_at hops [] = None
full_at hops (elem ∷ elems) = if nat_lt most_hops (length (hops_after hops (elem ∷ []))) then Some 1 else option_map suc (full_at (hops_after hops (elem ∷ [])) elems)

-- ---- the table of routes

-- the number of a hop that has one, 0 of any other
abbrev pub number_in : List Address → Address → ℕ
number_in hops hop = unwrap_or (number_of hops hop) 0

-- the routes as a table's entries
abbrev pub entries_of : List Address → Candidates → Entries
entries_of hops held = map (λ r. (r.0, number_in hops r.1)) (routes_of held)

-- the route at a prefix, if it has a hop
abbrev pub route_by : Prefix → Option Address → List (Prefix × Address)
route_by p None = []
route_by p (Some hop) = (p, hop) ∷ []

-- the routes that entries stand for, with the hops of their numbers
abbrev pub routes_in : List Address → Entries → List (Prefix × Address)
routes_in hops L = flat_map (λ e. route_by e.0 (hop_at hops e.1)) L

-- the hops of all routes have numbers
abbrev pub AreNumbered : List Address → Candidates → Type 0
AreNumbered hops held = AllByRecursion (λ (r : Prefix × Address). IsNumbered hops r.1) (routes_of held)

-- ---- its changes

-- the change at a prefix from one chosen hop to another; none if both are one
abbrev pub change_of : List Address → Prefix → Option Address → Option Address → List Change
change_of hops p None None = []
change_of hops p None (Some hop) = Add p (number_in hops hop) ∷ []
change_of hops p (Some old) None = Remove p ∷ []
change_of hops p (Some old) (Some hop) = if same_address old hop then [] else Replace p (number_in hops hop) ∷ []

-- the change that an elementary event makes, which is at its prefix
abbrev pub change_by : List Address → Candidates → Elem → List Change
change_by hops held elem = change_of hops (elem_prefix elem) (chosen_for held (elem_prefix elem)) (chosen_for (after_elem held elem) (elem_prefix elem))

-- changes with the number of their event
abbrev pub at_event : ℕ → List Change → List (ℕ × Change)
at_event n changes = map (λ c. (n, c)) changes

-- the changes of elementary events, numbered from n
unfoldable pub changes_from : List Address → ℕ → Candidates → List Elem → List (ℕ × Change)
changes_from hops n held [] = []
changes_from hops n held (elem ∷ elems) = at_event n (change_by hops held elem) ++ changes_from hops (n + 1) (after_elem held elem) elems

-- the changes of the load, event 0: what builds the table from nothing
abbrev pub load_changes : List Address → Candidates → List (ℕ × Change)
load_changes hops held = at_event 0 (additions (entries_of hops held))

-- changes without their events' numbers
abbrev pub changes_in : List (ℕ × Change) → List Change
changes_in changes = map (λ c. c.1) changes
