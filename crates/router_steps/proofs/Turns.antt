-- What each event does to the routes, as a change at one prefix.
use Rattle.std.proofs.Common.{◌≡◌, ℕ, zero, suc, List, [], ◌∷◌, Bool, true, false, cond, length, Option, Some, None}
use Rattle.std.specs.Prelude.{option_map}
use Rattle.std.specs.List.{AllByRecursion, filter}
use Rattle.std.specs.Map.{lookup}
use Rattle.table_model.specs.Address.{Address, Prefix, same_family, same_prefix}
use Rattle.table_model.specs.declared.family.Family.{Family}
use Rattle.table_model.specs.Entries.{Entries}
use Rattle.route_model.specs.Events.{Elem}
use Rattle.route_model.specs.Choice.{Candidates, after_elem, chosen_for, routes_of}
use Rattle.kept_model.specs.Feed.{AreNumbered, IsNumbered}
use Rattle.kept_model.specs.Kept.{changed_at}
use Rattle.kept_model.specs.Patched.{with_route}
use Rattle.fib_engine.specs.Numbers.{HasNumber, number_or_none}
use Rattle.step_script.specs.Machine.{World}

-- those of the entries that are of the family
abbrev pub entries_in : Family → Entries → Entries
entries_in f L = filter (λ e. same_family f e.0.family) L

-- what an event does: it gives a prefix a route with the hop of this number, or takes the route away, which 0 says; or it changes no chosen
-- hop
abbrev pub Turn : Type 0
Turn = Option (Prefix × ℕ)

-- a family's routes after it
abbrev pub turned : Family → Turn → Entries → Entries
turned f None L = L
turned f (Some t) L = cond (same_family f t.0.family) (with_route t.0 t.1 L) L

-- the next event after so many does this
pub record IsTurn (w : World) (n : ℕ) (turn : Turn) : Type 0 where
  pub changed : w.changed n ≡ option_map (λ t. t.0) turn
  pub routes : (f : Family) → entries_in f (w.routes (suc n)) ≡ turned f turn (entries_in f (w.routes n))

-- the one of this place, counted from 0; past the last nothing happens
unfoldable pub turn_at : ℕ → List Turn → Turn
turn_at n [] = None
turn_at zero (turn ∷ turns) = turn
turn_at (suc n) (turn ∷ turns) = turn_at n turns

-- these are what the events do, in their order
pub record AreTurns (w : World) (turns : List Turn) : Type 0 where
  pub many : length turns ≡ w.events
  pub each : (n : ℕ) → IsTurn w n (turn_at n turns)

-- ---- of elementary events

-- What an elementary event does: the prefix at which it changes the chosen hop, with the number of the hop that is chosen then, 0 where none
-- is; nothing where the chosen hop stays.
abbrev pub elem_turn : List Address → Candidates → Elem → Turn
elem_turn hops held elem = option_map (λ p. (p, number_or_none hops (chosen_for (after_elem held elem) p))) (changed_at held elem)

-- what elementary events do, each after those before it
unfoldable pub turns_of : List Address → Candidates → List Elem → List Turn
turns_of hops held [] = []
turns_of hops held (elem ∷ elems) = elem_turn hops held elem ∷ turns_of hops (after_elem held elem) elems

-- ---- chosen hops have numbers

found : (hops : List Address) (p : Prefix) (routes : List (Prefix × Address)) → AllByRecursion (λ (r : Prefix × Address). IsNumbered hops r.1) routes → HasNumber hops (lookup (same_prefix p) routes)
found hops p [] a = tt
found hops p (r ∷ routes) a = by_test (same_prefix p r.0) (found hops p routes a.1)
  where
    by_test : (b : Bool) → HasNumber hops (lookup (same_prefix p) routes) → HasNumber hops (cond b (Some r.1) (lookup (same_prefix p) routes))
    by_test true more = a.0
    by_test false more = more

pub chosen_numbered_in : (hops : List Address) (held : Candidates) (p : Prefix) → AreNumbered hops held → HasNumber hops (chosen_for held p)
chosen_numbered_in hops held p a = found hops p (routes_of held) a
