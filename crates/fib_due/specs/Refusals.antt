-- Why an elementary event isn't taken, and which of several is the first that isn't.
use Rattle.std.specs.Prelude.{Bool, ℕ, ◌+◌, List, [], ◌∷◌, ◌++◌, length, nat_lt, Option, Some, None, option_map, if◌then◌else◌}
use Rattle.table_model.specs.Entries.{Entries}
use Rattle.route_model.specs.Events.{Elem}
use Rattle.route_model.specs.Choice.{after_elems}
use Rattle.fib_addr.specs.Hops.{most_hops}
use Rattle.kept_model.specs.Feed.{hops_after, entries_of}
use Rattle.route_tries.specs.Sizes.{Sizes, Shortage, shortage}
use Rattle.fib_due.specs.declared.outcome.MrtInput.{MrtInput}
use Rattle.fib_due.specs.declared.outcome.MrtInput.TheVariants.{Dump, Updates}

-- how many elementary events of the updates a snapshot follows, whether each event makes the fewest changes, whether changes come in steady order, and how large tries are
pub record Limits : Type 0 where
  pub every : ℕ
  pub fewest : Bool
  pub steady : Bool
  pub sizes : Sizes

-- one different hop too many, or an arena that is too small for the tries of the routes
pub data Refusal : Type 0 where
  ManyHops : Refusal
  Short : Shortage → Refusal

-- the routes that elementary events come to
abbrev pub routes_by : List Elem → Entries
routes_by elems = entries_of (hops_after [] elems) (after_elems [] elems)

-- one different hop too many, or else this
abbrev pub hops_or : List Elem → Option Refusal → Option Refusal
hops_or elems other = if nat_lt most_hops (length (hops_after [] elems)) then Some ManyHops else other

-- What is too much after the last of these elementary events, if the ones before it were taken: hops; and of updates, else, what
-- the tries of the routes need. No trie is asked for until the load ends.
abbrev pub too_much : MrtInput → Sizes → List Elem → Option Refusal
too_much Dump z elems = hops_or elems None
too_much Updates z elems = hops_or elems (option_map Short (shortage z (routes_by elems)))

-- the first of all, or the first of the later ones, which are numbered from 2
abbrev pub first_or : Option Refusal → Option (ℕ × Refusal) → Option (ℕ × Refusal)
first_or (Some r) later = Some (1, r)
first_or None later = option_map (λ s. (1 + s.0, s.1)) later

-- The first of the elementary events after others, counted from 1, after which something is too much, and what.
unfoldable pub stop_at : (List Elem → Option Refusal) → List Elem → List Elem → Option (ℕ × Refusal)
stop_at too_much before [] = None
stop_at too_much before (elem ∷ elems) = first_or (too_much (before ++ elem ∷ [])) (stop_at too_much (before ++ elem ∷ []) elems)
