-- What the printed changes come to on the way, event by event: the load is event 0, and the elementary events of the updates are numbered from 1.
use Rattle.std.specs.Prelude.{◌≡◌, ◌≤◌, ℕ, zero, suc, ◌+◌, List, [], ◌∷◌, ◌++◌, Bool, true, false, Option, Some, None, length, nat_eq, nat_le, take}
use Rattle.std.specs.List.{AllByRecursion, filter}
use Rattle.std.specs.List.Sorted.{IsNonDecreasingBy}
use Rattle.table_model.specs.Address.{Prefix}
use Rattle.table_model.specs.Width.{width}
use Rattle.table_model.specs.Table.{Alike, Table}
use Rattle.table_model.specs.Entries.{Entries, AlikeInBoth, of_family}
use Rattle.table_model.specs.Changes.{Change, sum_of}
use Rattle.table_model.specs.Regions.{SameOutside}
use Rattle.table_model.specs.Both.{LeastInBoth}
use Rattle.kept_model.specs.Between.{AreEntries}
use Rattle.kept_model.specs.Patched.{entries_outside}
use Rattle.route_model.specs.Events.{Elem}
use Rattle.route_model.specs.Choice.{Candidates, after_elems}
use Rattle.kept_model.specs.Feed.{changes_in, entries_of}
use Rattle.kept_model.specs.Kept.{changed_at, is_due}
use Rattle.moves_model.specs.Dist.{distance}
use Rattle.kept_model.specs.Meanwhile.{AnswerMeanwhile, earlier_routes, event_routes}
use Rattle.fib_due.specs.Due.{Printed}

-- the changes up to the event of this number
abbrev pub changes_to : ℕ → List (ℕ × Change) → List Change
changes_to n changes = changes_in (filter (λ c. nat_le c.0 n) changes)

-- T is what the changes up to the event of this number add up to, begun at the empty table
abbrev pub HasTable : Printed → ℕ → Entries → Type 0
HasTable p n T = sum_of (changes_to n p.told.changes) ≡ Some T

-- The changes stand in the order of their events, none is of an event past the last one, and up to each event they add up to a table.
pub record KeepsTables (p : Printed) : Type 0 where
  pub in_order : IsNonDecreasingBy (λ (c : ℕ × Change). c.0) p.told.changes
  pub none_past : AllByRecursion (λ (c : ℕ × Change). c.0 ≤ length p.updates) p.told.changes
  pub tables : (n : ℕ) → n ≤ length p.updates → (T : Entries) × HasTable p n T

-- the candidates after the load and these elementary events
abbrev pub cands_after : Printed → List Elem → Candidates
cands_after p done = after_elems (after_elems [] p.load) done

-- their routes
abbrev pub routes_after_elems : Printed → List Elem → Entries
routes_after_elems p done = entries_of p.hops (cands_after p done)

-- a snapshot follows the event of this number: the load, and each n-th event of the updates
abbrev pub has_snapshot : ℕ → ℕ → Bool
has_snapshot every zero = true
has_snapshot every (suc n) = is_due every (suc n)

-- After each event the table sends every address where the routes send it then.
abbrev pub Follows : Printed → Type 0
Follows p = (done rest : List Elem) (T : Entries) → p.updates ≡ done ++ rest → HasTable p (length done) T → AlikeInBoth T (routes_after_elems p done)

-- the routes before and after the event of a number; before the load, event 0, there are none
abbrev pub routes_before_event : Printed → ℕ → Entries
routes_before_event p = earlier_routes p.hops (cands_after p []) p.updates

abbrev pub routes_then : Printed → ℕ → Entries
routes_then p = event_routes p.hops (cands_after p []) p.updates

-- If changes come in steady order, a router that makes them one by one misses no packet meanwhile: however many of them it has made, it sends each address where the routes before the event at hand send it or where those after it do, and never back.
abbrev pub MissesNone : Printed → Type 0
MissesNone p = p.limits.steady ≡ true → AnswerMeanwhile p.told.changes (routes_before_event p) (routes_then p)

-- After each snapshot no table that does so has fewer entries, in either family.
abbrev pub RenewsLeast : Printed → Type 0
RenewsLeast p = (done rest : List Elem) (T : Entries) → p.updates ≡ done ++ rest → has_snapshot p.limits.every (length done) ≡ true → HasTable p (length done) T → LeastInBoth (routes_after_elems p done) T

-- The table L, in this prefix's family, sends every address where these routes send it, and has T's entries outside the prefix.
pub record DoesWithin (q : Prefix) (R T L : Entries) : Type 0 where
  pub entries : AreEntries L
  pub alike : Alike (width q.family) (of_family q.family R) (of_family q.family L)
  pub outside : SameOutside q.bits (of_family q.family L) (of_family q.family T)

-- If the fewest changes aren't asked for: after each event that changes the chosen hop of a prefix, no table that sends every address of the family where the routes send it then, and has the entries of the table before outside the prefix, has fewer entries of the family.
abbrev pub RepairsFewest : Printed → Type 0
RepairsFewest p =
    p.limits.fewest ≡ false → (done rest : List Elem) (elem : Elem) (q : Prefix) (T U L : Entries) → p.updates ≡ done ++ elem ∷ rest → changed_at (cands_after p done) elem ≡ Some q
    → HasTable p (length done) T → HasTable p (length done + 1) U → DoesWithin q (routes_after_elems p (done ++ elem ∷ [])) T L
    → length (of_family q.family U) ≤ length (of_family q.family L)

-- the entries that aren't within the prefix, if there is one
abbrev pub entries_besides : Option Prefix → Entries → Entries
entries_besides None T = T
entries_besides (Some q) T = entries_outside q T

-- If the fewest changes aren't asked for: after each event that no snapshot follows, the table has the entries that it had before, but for those within the prefix of which the event changes the chosen hop, if it does.
abbrev pub RepairsWithin : Printed → Type 0
RepairsWithin p =
    p.limits.fewest ≡ false → (done rest : List Elem) (elem : Elem) (T U : Entries) → p.updates ≡ done ++ elem ∷ rest → has_snapshot p.limits.every (length done + 1) ≡ false
    → HasTable p (length done) T → HasTable p (length done + 1) U
    → entries_besides (changed_at (cands_after p done) elem) U ≡ entries_besides (changed_at (cands_after p done) elem) T

-- ---- the fewest changes

-- the changes of the event of this number
abbrev pub event_changes : ℕ → List (ℕ × Change) → List Change
event_changes n changes = changes_in (filter (λ c. nat_eq c.0 n) changes)

-- the changes up to the event before this one, and then the first n of this one's
abbrev pub changes_into : ℕ → ℕ → List (ℕ × Change) → List Change
changes_into n many changes = changes_to n changes ++ take many (event_changes (n + 1) changes)

-- A row that says how many changes an event needed is that of an event which changes the chosen hop of a prefix.
pub record IsFewestRow (p : Printed) (row : ℕ × ℕ) : Type 0 where
  pub done : List Elem
  pub elem : Elem
  pub rest : List Elem
  pub prefix : Prefix
  pub place : p.updates ≡ done ++ elem ∷ rest
  pub number : row.0 ≡ length done + 1
  pub changed : changed_at (cands_after p done) elem ≡ Some prefix
  -- after the first n changes of the event the table sends every address where the routes send it then
  pub table : Entries
  pub reached : sum_of (changes_into (length done) row.1 p.told.changes) ≡ Some table
  pub alike : AlikeInBoth (routes_after_elems p (done ++ elem ∷ [])) table
  -- these are all of its changes, unless a snapshot follows
  pub all : has_snapshot p.limits.every row.0 ≡ false → length (event_changes row.0 p.told.changes) ≡ row.1
  -- and no table that sends every address of the prefix's family where the routes send it then differs from the table before the event at fewer prefixes
  pub fewest : (T : Entries) (U : Table) → HasTable p (length done) T → Alike (width prefix.family) (of_family prefix.family (routes_after_elems p (done ++ elem ∷ []))) U → row.1 ≤ distance (of_family prefix.family T) U

-- an event has a row
abbrev pub HasRow : ℕ → List (ℕ × ℕ) → Type 0
HasRow event rows = (before after : List (ℕ × ℕ)) × (n : ℕ) × (rows ≡ before ++ (event, n) ∷ after)

-- If the fewest changes are asked for, each event that changes a chosen hop has a row, and each row says the fewest changes; else there are no such rows.
pub record MovesFewest (p : Printed) : Type 0 where
  pub none : p.limits.fewest ≡ false → p.told.moves ≡ []
  pub rows : p.limits.fewest ≡ true → AllByRecursion (IsFewestRow p) p.told.moves
  pub each : p.limits.fewest ≡ true → (done rest : List Elem) (elem : Elem) (q : Prefix) → p.updates ≡ done ++ elem ∷ rest → changed_at (cands_after p done) elem ≡ Some q → HasRow (length done + 1) p.told.moves
