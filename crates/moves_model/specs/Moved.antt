-- The kept table over elementary events in a run that may ask for the fewest changes. If it does, an event that changes a chosen hop
-- doesn't repair the table at its prefix: the table becomes the nearest to the one before that answers as the routes.
use Rattle.std.specs.Prelude.{ℕ, ◌+◌, List, [], ◌∷◌, ◌++◌, Bool, true, false, not, Option, Some, None}
use Rattle.std.specs.List.{filter}
use Rattle.table_model.specs.Address.{Address, Prefix, same_family}
use Rattle.table_model.specs.declared.family.Family.{Family}
use Rattle.table_model.specs.Entries.{Entries, in_order}
use Rattle.route_model.specs.Events.{Elem}
use Rattle.route_model.specs.Choice.{Candidates, after_elem}
use Rattle.kept_model.specs.Patched.{after_repair}
use Rattle.moves_model.specs.Rows.{near_in}
use Rattle.kept_model.specs.Feed.{entries_of}
use Rattle.kept_model.specs.Kept.{changed_at, is_due, kept_at_load, snapshot_if}

-- the entries that aren't of the family
abbrev pub entries_not_of : Family → Entries → Entries
entries_not_of f T = filter (λ e. not (same_family f e.0.family)) T

-- the table whose entries of the family are those of the nearest to T that answers as the routes R; the other family's stay
unfoldable pub with_nearest : Family → Entries → Entries → Entries
with_nearest f R T = in_order (entries_not_of f T ++ near_in f R T)

-- the table after an event that changed the chosen hop at this prefix, if it did: the nearest in the prefix's family if the fewest
-- changes are asked for, else the one that is repaired at the prefix
abbrev pub after_move : Bool → Entries → Option Prefix → Entries → Entries
after_move false R at T = after_repair R at T
after_move true R None T = T
after_move true R (Some p) T = with_nearest p.family R T

-- the table after an elementary event's first step, before any snapshot
abbrev pub moved_by : Bool → List Address → Candidates → Entries → Elem → Entries
moved_by fewest hops held T elem = after_move fewest (entries_of hops (after_elem held elem)) (changed_at held elem) T

-- the kept table after the elementary event of this number: after its first step, and then after a snapshot if one is due
abbrev pub table_by : Bool → ℕ → List Address → ℕ → Candidates → Entries → Elem → Entries
table_by fewest every hops n held T elem =
    snapshot_if (is_due every n) (entries_of hops (after_elem held elem)) (moved_by fewest hops held T elem)

-- the kept table after elementary events, the first of which has number n
unfoldable pub table_from : Bool → ℕ → List Address → ℕ → Candidates → Entries → List Elem → Entries
table_from fewest every hops n held T [] = T
table_from fewest every hops n held T (elem ∷ elems) =
    table_from fewest every hops (n + 1) (after_elem held elem) (table_by fewest every hops n held T elem) elems

-- the table of a run, after the load, which left these candidates, and the elementary events after it
abbrev pub table_of_run : Bool → ℕ → List Address → Candidates → List Elem → Entries
table_of_run fewest every hops held elems = table_from fewest every hops 1 held (kept_at_load hops held) elems
