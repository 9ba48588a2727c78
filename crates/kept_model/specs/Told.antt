-- What a router is told: the changes of a kept table event by event, in steady order if that is asked for.
use Rattle.std.specs.Prelude.{ℕ, ◌+◌, List, [], ◌∷◌, ◌++◌, Bool, true, false}
use Rattle.table_model.specs.Address.{Address}
use Rattle.table_model.specs.Entries.{Entries}
use Rattle.table_model.specs.Changes.{Change}
use Rattle.route_model.specs.Events.{Elem}
use Rattle.route_model.specs.Choice.{Candidates, after_elem}
use Rattle.kept_model.specs.Between.{between}
use Rattle.kept_model.specs.Steady.{in_steady_order}
use Rattle.kept_model.specs.Feed.{at_event}
use Rattle.kept_model.specs.Kept.{kept_at_load, kept_by, repaired_by}

-- changes that stand in the order of prefixes, as the router gets them
abbrev pub steady_if : Bool → List Change → List Change
steady_if false cs = cs
steady_if true cs = in_steady_order cs

-- the changes of the repair that an elementary event asks for, if it does
abbrev pub repair_changes : List Address → Candidates → Entries → Elem → List Change
repair_changes hops held T elem = between T (repaired_by hops held T elem)

-- those of the snapshot that follows it, if one is due
abbrev pub snapshot_changes : ℕ → List Address → ℕ → Candidates → Entries → Elem → List Change
snapshot_changes every hops n held T elem = between (repaired_by hops held T elem) (kept_by every hops n held T elem)

-- what the router is told of the elementary event of this number: both, each in itself
abbrev pub event_told : Bool → ℕ → List Address → ℕ → Candidates → Entries → Elem → List Change
event_told steady every hops n held T elem = steady_if steady (repair_changes hops held T elem) ++ steady_if steady (snapshot_changes every hops n held T elem)

-- of elementary events, the first of which has number n, each change with its event's number
unfoldable pub events_told : Bool → ℕ → List Address → ℕ → Candidates → Entries → List Elem → List (ℕ × Change)
events_told steady every hops n held T [] = []
events_told steady every hops n held T (elem ∷ elems) = at_event n (event_told steady every hops n held T elem) ++ events_told steady every hops (n + 1) (after_elem held elem) (kept_by every hops n held T elem) elems

-- of the load, event 0
abbrev pub load_told : Bool → List Address → Candidates → List (ℕ × Change)
load_told steady hops held = at_event 0 (steady_if steady (between [] (kept_at_load hops held)))

-- of the load, which left these candidates, and of the elementary events after it
abbrev pub run_told : Bool → ℕ → List Address → Candidates → List Elem → List (ℕ × Change)
run_told steady every hops held elems = load_told steady hops held ++ events_told steady every hops 1 held (kept_at_load hops held) elems
