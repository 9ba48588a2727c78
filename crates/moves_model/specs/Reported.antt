-- What the router is told of the kept table event by event: its changes, and how many of them each event needed that changed a
-- chosen hop.
use Rattle.std.specs.Prelude.{ℕ, ◌+◌, List, [], ◌∷◌, ◌++◌, Bool, length, Option, Some, None}
use Rattle.table_model.specs.Address.{Address, Prefix}
use Rattle.table_model.specs.Entries.{Entries}
use Rattle.table_model.specs.Changes.{Change}
use Rattle.route_model.specs.Events.{Elem}
use Rattle.route_model.specs.Choice.{Candidates, after_elem}
use Rattle.kept_model.specs.Between.{between}
use Rattle.kept_model.specs.Feed.{at_event}
use Rattle.kept_model.specs.Kept.{changed_at, kept_at_load}
use Rattle.kept_model.specs.Told.{steady_if, load_told}
use Rattle.moves_model.specs.Moved.{moved_by, table_by}

-- ---- the changes

-- the changes of an elementary event's first step
abbrev pub first_changes : Bool → List Address → Candidates → Entries → Elem → List Change
first_changes fewest hops held T elem = between T (moved_by fewest hops held T elem)

-- those of the snapshot that follows it, if one is due
abbrev pub then_changes : Bool → ℕ → List Address → ℕ → Candidates → Entries → Elem → List Change
then_changes fewest every hops n held T elem =
    between (moved_by fewest hops held T elem) (table_by fewest every hops n held T elem)

-- what the router is told of the elementary event of this number: both, each in itself in the order of prefixes, or in steady
-- order
abbrev pub told_of : Bool → Bool → ℕ → List Address → ℕ → Candidates → Entries → Elem → List Change
told_of fewest steady every hops n held T elem =
    steady_if steady (first_changes fewest hops held T elem) ++ steady_if steady (then_changes fewest every hops n held T elem)

-- of elementary events, the first of which has number n, each change with its event's number
unfoldable pub told_from : Bool → Bool → ℕ → List Address → ℕ → Candidates → Entries → List Elem → List (ℕ × Change)
told_from fewest steady every hops n held T [] = []
told_from fewest steady every hops n held T (elem ∷ elems) =
    at_event n (told_of fewest steady every hops n held T elem)
    ++ told_from fewest steady every hops (n + 1) (after_elem held elem) (table_by fewest every hops n held T elem) elems

-- of the load, which left these candidates, and of the elementary events after it
abbrev pub told_of_run : Bool → Bool → ℕ → List Address → Candidates → List Elem → List (ℕ × Change)
told_of_run fewest steady every hops held elems =
    load_told steady hops held ++ told_from fewest steady every hops 1 held (kept_at_load hops held) elems

-- ---- how many there are

-- the event's number with that of its changes, if it changed the chosen hop at some prefix
abbrev pub counted_at : Option Prefix → ℕ → List Change → List (ℕ × ℕ)
counted_at None n changes = []
counted_at (Some p) n changes = (n, length changes) ∷ []

-- of the elementary event of this number: how many changes its first step makes
abbrev pub moves_of : Bool → List Address → ℕ → Candidates → Entries → Elem → List (ℕ × ℕ)
moves_of fewest hops n held T elem = counted_at (changed_at held elem) n (first_changes fewest hops held T elem)

-- of elementary events, the first of which has number n
unfoldable pub moves_from : Bool → ℕ → List Address → ℕ → Candidates → Entries → List Elem → List (ℕ × ℕ)
moves_from fewest every hops n held T [] = []
moves_from fewest every hops n held T (elem ∷ elems) =
    moves_of fewest hops n held T elem
    ++ moves_from fewest every hops (n + 1) (after_elem held elem) (table_by fewest every hops n held T elem) elems

-- of a run: the events after the load that changed a chosen hop
abbrev pub moves_of_run : Bool → ℕ → List Address → Candidates → List Elem → List (ℕ × ℕ)
moves_of_run fewest every hops held elems = moves_from fewest every hops 1 held (kept_at_load hops held) elems
