-- Route origin validation (RFC 6811, 2).
use Rattle.std.specs.Prelude.{ℕ, Bool, false, not, ◌&&◌, ◌==◌, List, [], length, map, flat_map, nat_lt, position, slice_get, option_to_list, Option, Some, None}
use Rattle.table_model.specs.Address.{Prefix}
use Rattle.table_model.specs.Halves.{is_within}
use Rattle.printed_text.specs.Rows.{Announced, Vrp}
use Rattle.route_model.specs.Events.{Event, Announce, Withdraw, Down}
use Rattle.fib_rov.specs.declared.state.State.{State}
use Rattle.fib_rov.specs.declared.state.State.TheVariants.{Valid, Invalid, NotFound}

-- it covers a route if its prefix contains the route's
abbrev pub covers_route : Prefix → Vrp → Bool
covers_route p v = is_within p v.prefix

-- whether a route has this AS as its origin: no route does if it has no origin or the AS is 0 (RFC 6811, 2; RFC 7607, 2)
abbrev pub is_from : Option ℕ → ℕ → Bool
is_from (Some origin) asn = origin == asn && not (asn == 0)
is_from None asn = false

-- It matches a route that it covers, if the route has at most `maxlen` bits and the AS is its origin.
abbrev pub matches : Prefix → Option ℕ → Vrp → Bool
matches p origin v = covers_route p v && (not (nat_lt v.maxlen (length p.bits)) && is_from origin v.asn)

-- Valid if one matches, Invalid if one covers and none matches, else NotFound; with the number of the first such VRP
abbrev pub decided : Option ℕ → Option ℕ → State
decided (Some n) cover = Valid n
decided None (Some n) = Invalid n
decided None None = NotFound

-- the state of a route of the prefix with this origin
abbrev pub state_of : List Vrp → Prefix → Option ℕ → State
state_of vrps p origin = decided (position (matches p origin) vrps) (position (covers_route p) vrps)

-- ---- what is left of an event if Invalid routes are dropped by policy (RFC 6811, 3)

-- in this state of a route: its withdrawal with the number of the VRP if it is Invalid, else its announcement
abbrev pub left_in : State → Event → Event → Event × Option ℕ
left_in (Invalid n) announced withdrawn = (withdrawn, Some n)
left_in (Valid n) announced withdrawn = (announced, None)
left_in NotFound announced withdrawn = (announced, None)

-- An announcement of an Invalid route is the withdrawal of its way and prefix, with the number of the first VRP that covers it; any other
-- event stays as it is.
abbrev pub judged_by_vrps : List Vrp → Event → Event × Option ℕ
judged_by_vrps vrps (Announce via p path hop origin) = left_in (state_of vrps p origin) (Announce via p path hop origin) (Withdraw via p)
judged_by_vrps vrps (Withdraw via p) = (Withdraw via p, None)
judged_by_vrps vrps (Down peer) = (Down peer, None)

-- what is left of events
unfoldable pub left_of : List Vrp → List Event → List Event
left_of vrps events = map (λ e. (judged_by_vrps vrps e).0) events

-- an announcement of this route, with the VRP of this number
abbrev pub announced_with : List Vrp → Event → ℕ → List (Announced × Vrp)
announced_with vrps (Announce via p path hop origin) n = map (λ v. (record { prefix = p; peer = via.peer.addr; peer_as = via.peer.asn; origin = origin }, v)) (option_to_list (slice_get vrps n))
announced_with vrps (Withdraw via p) n = []
announced_with vrps (Down peer) n = []

-- an announcement that is Invalid, with the first VRP that covers it; of any other event none
abbrev pub invalid_of : List Vrp → Event → List (Announced × Vrp)
invalid_of vrps e = flat_map (announced_with vrps e) (option_to_list (judged_by_vrps vrps e).1)

-- the Invalid announcements of events, each with the first VRP that covers it, in their order
unfoldable pub invalid_in : List Vrp → List Event → List (Announced × Vrp)
invalid_in vrps events = flat_map (invalid_of vrps) events
