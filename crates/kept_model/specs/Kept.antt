-- The kept table over elementary events, and its changes event by event: each event that changes a chosen hop is followed by
-- a repair at its prefix, and now and then by a snapshot (after Uzmi and others, 'SMALTA: Practical and Near-Optimal FIB
-- Aggregation', CoNEXT 2011; the rule of repair is our own, see `kept_model`).
use Rattle.std.specs.Prelude.{ℕ, zero, suc, ◌+◌, ◌%◌, List, [], ◌∷◌, ◌++◌, Bool, true, false, nat_eq, Option, Some, None, if◌then◌else◌}
use Rattle.table_model.specs.Address.{Address, Prefix, same_address}
use Rattle.table_model.specs.Entries.{Entries, in_order}
use Rattle.table_model.specs.Changes.{Change}
use Rattle.table_model.specs.Both.{aggregate_in_both}
use Rattle.route_model.specs.Events.{Elem, elem_prefix}
use Rattle.route_model.specs.Choice.{Candidates, after_elem, chosen_for}
use Rattle.kept_model.specs.Between.{between}
use Rattle.kept_model.specs.Patched.{after_repair}
use Rattle.kept_model.specs.Feed.{AreNumbered, entries_of, at_event}

-- whether a prefix has another chosen hop than before
abbrev pub is_other : Option Address → Option Address → Bool
is_other None None = false
is_other None (Some hop) = true
is_other (Some old) None = true
is_other (Some old) (Some hop) = if same_address old hop then false else true

-- the prefix of an elementary event, if the event changes the chosen hop there
abbrev pub changed_at : Candidates → Elem → Option Prefix
changed_at held elem = if is_other (chosen_for held (elem_prefix elem)) (chosen_for (after_elem held elem) (elem_prefix elem)) then Some (elem_prefix elem) else None

-- whether a snapshot follows the event of this number: each such many events, or never
abbrev pub is_due : ℕ → ℕ → Bool
is_due zero n = false
is_due (suc k) n = nat_eq (n % suc k) 0

-- the table after a snapshot: the aggregates of both families, with the table as the old one
abbrev pub snapshot_of : Entries → Entries → Entries
snapshot_of R T = in_order (aggregate_in_both R T)

-- the table after a snapshot, if one is due
abbrev pub snapshot_if : Bool → Entries → Entries → Entries
snapshot_if false R T = T
snapshot_if true R T = snapshot_of R T

-- the kept table at the end of the load: a snapshot with nothing old
abbrev pub kept_at_load : List Address → Candidates → Entries
kept_at_load hops held = snapshot_of (entries_of hops held) []

-- the table after the repair that an elementary event asks for, if it does
abbrev pub repaired_by : List Address → Candidates → Entries → Elem → Entries
repaired_by hops held T elem = after_repair (entries_of hops (after_elem held elem)) (changed_at held elem) T

-- the kept table after the elementary event of this number: after its repair, and then after a snapshot if one is due
abbrev pub kept_by : ℕ → List Address → ℕ → Candidates → Entries → Elem → Entries
kept_by every hops n held T elem = snapshot_if (is_due every n) (entries_of hops (after_elem held elem)) (repaired_by hops held T elem)

-- its changes: those of the repair, then those of the snapshot
abbrev pub changes_by : ℕ → List Address → ℕ → Candidates → Entries → Elem → List Change
changes_by every hops n held T elem = between T (repaired_by hops held T elem) ++ between (repaired_by hops held T elem) (kept_by every hops n held T elem)

-- the kept table after elementary events, the first of which has number n
unfoldable pub kept_from : ℕ → List Address → ℕ → Candidates → Entries → List Elem → Entries
kept_from every hops n held T [] = T
kept_from every hops n held T (elem ∷ elems) = kept_from every hops (n + 1) (after_elem held elem) (kept_by every hops n held T elem) elems

-- the changes of elementary events, each with its event's number
unfoldable pub kept_changes_from : ℕ → List Address → ℕ → Candidates → Entries → List Elem → List (ℕ × Change)
kept_changes_from every hops n held T [] = []
kept_changes_from every hops n held T (elem ∷ elems) = at_event n (changes_by every hops n held T elem) ++ kept_changes_from every hops (n + 1) (after_elem held elem) (kept_by every hops n held T elem) elems

-- after each of the elementary events the hops of all routes have numbers
abbrev pub AreNumberedAlong : List Address → Candidates → List Elem → Type 0
AreNumberedAlong hops held [] = Unit {0}
AreNumberedAlong hops held (elem ∷ elems) = AreNumbered hops (after_elem held elem) × AreNumberedAlong hops (after_elem held elem) elems

-- the changes of the load, event 0
abbrev pub kept_load_changes : List Address → Candidates → List (ℕ × Change)
kept_load_changes hops held = at_event 0 (between [] (kept_at_load hops held))
