-- What an engine holds after elementary events: those of the load, and those since.
use Rattle.std.specs.Prelude.{◌≡◌, ℕ, ◌+◌, ◌<◌, List, [], ◌∷◌, ◌++◌, length, true, false, Option, Some, None, option_map}
use Rattle.std.specs.List.{AllByRecursion}
use Rattle.table_model.specs.Changes.{Change}
use Rattle.route_model.specs.Events.{Elem}
use Rattle.route_model.specs.Choice.{IsElem, after_elem, after_elems}
use Rattle.kept_model.specs.Feed.{entries_of, hops_after}
use Rattle.kept_model.specs.Kept.{changed_at, kept_at_load}
use Rattle.moves_model.specs.Moved.{table_by, table_from}
use Rattle.moves_model.specs.Reported.{first_changes, told_of}
use Rattle.fib_addr.specs.Hops.{most_hops}
use Rattle.route_tries.specs.Sizes.{shortage, shortage_as}
use Rattle.route_tries.specs.declared.sizes.TrieFull.{TrieFull}
use Rattle.table_model.specs.Entries.{Entries}
use Rattle.fib_engine.specs.Held.{EngineState, engine_routes}

-- the load has had these elementary events, and goes on
pub record IsLoading (load : List Elem) (e : EngineState) : Type 0 where
  pub candidates : e.candidates ≡ after_elems [] load
  pub hops : e.hops ≡ hops_after [] load
  pub proper : AllByRecursion IsElem load
  pub table : e.table ≡ []
  pub loaded : e.loaded ≡ false
  pub events : e.events ≡ 0
  pub moves : e.moves ≡ None

-- The load had these elementary events, and those came since: the candidates, the hops and the kept table are theirs, and tries
-- of the routes have room.
pub record EngineStands (load elems : List Elem) (e : EngineState) : Type 0 where
  pub candidates : e.candidates ≡ after_elems (after_elems [] load) elems
  pub hops : e.hops ≡ hops_after [] (load ++ elems)
  pub proper : AllByRecursion IsElem load × AllByRecursion IsElem elems
  pub table : e.table ≡ table_from e.fewest e.every e.hops 1 (after_elems [] load) (kept_at_load e.hops (after_elems [] load)) elems
  pub loaded : e.loaded ≡ true
  pub events : e.events ≡ length elems
  pub fits : shortage e.sizes (engine_routes e) ≡ None

-- ---- one elementary event

-- An elementary event of the load was taken: the candidates and the hops are those after it, and all else is as it was.
pub record Loads (elem : Elem) (old new : EngineState) : Type 0 where
  pub candidates : new.candidates ≡ after_elem old.candidates elem
  pub hops : new.hops ≡ hops_after old.hops (elem ∷ [])
  pub every : new.every ≡ old.every
  pub fewest : new.fewest ≡ old.fewest
  pub sizes : new.sizes ≡ old.sizes
  pub table : new.table ≡ old.table
  pub loaded : new.loaded ≡ old.loaded
  pub events : new.events ≡ old.events
  pub moves : new.moves ≡ old.moves

-- The load ended: the kept table is the least one for the routes with nothing old.
pub record EndsLoad (old new : EngineState) : Type 0 where
  pub candidates : new.candidates ≡ old.candidates
  pub hops : new.hops ≡ old.hops
  pub every : new.every ≡ old.every
  pub fewest : new.fewest ≡ old.fewest
  pub sizes : new.sizes ≡ old.sizes
  pub table : new.table ≡ kept_at_load old.hops old.candidates
  pub loaded : new.loaded ≡ true
  pub events : new.events ≡ old.events
  pub moves : new.moves ≡ old.moves

-- the engine as the end of its load leaves it
abbrev pub after_load : EngineState → EngineState
after_load old = record {
  every = old.every;
  fewest = old.fewest;
  sizes = old.sizes;
  candidates = old.candidates;
  hops = old.hops;
  table = kept_at_load old.hops old.candidates;
  loaded = true;
  events = old.events;
  moves = old.moves;
}

-- the changes of one after the load: those of its first step, and then those of the snapshot, if one is due
abbrev pub changes_of : Elem → EngineState → List Change
changes_of elem old = told_of old.fewest false old.every (hops_after old.hops (elem ∷ [])) (old.events + 1) old.candidates old.table elem

-- those of its first step alone: the repair's, or with the fewest changes asked for those to the nearest table
abbrev pub first_of : Elem → EngineState → List Change
first_of elem old = first_changes old.fewest (hops_after old.hops (elem ∷ [])) old.candidates old.table elem

-- how many these are, if it changes the chosen hop at some prefix
abbrev pub moves_after : Elem → EngineState → Option ℕ
moves_after elem old = option_map (λ p. length (first_of elem old)) (changed_at old.candidates elem)

-- An elementary event after the load was taken: candidates, hops and kept table are those after it, it was counted, and so were the changes of
-- its first step.
pub record TakesElem (elem : Elem) (old new : EngineState) : Type 0 where
  pub candidates : new.candidates ≡ after_elem old.candidates elem
  pub hops : new.hops ≡ hops_after old.hops (elem ∷ [])
  pub every : new.every ≡ old.every
  pub fewest : new.fewest ≡ old.fewest
  pub sizes : new.sizes ≡ old.sizes
  pub table : new.table ≡ table_by old.fewest old.every new.hops (old.events + 1) old.candidates old.table elem
  pub loaded : new.loaded ≡ old.loaded
  pub events : new.events ≡ old.events + 1
  pub moves : new.moves ≡ moves_after elem old

-- the elementary event brings one different hop too many
abbrev pub IsTooMany : Elem → EngineState → Type 0
IsTooMany elem old = most_hops < length (hops_after old.hops (elem ∷ []))

-- the routes after the elementary event
abbrev pub routes_after : Elem → EngineState → Entries
routes_after elem old = entries_of (hops_after old.hops (elem ∷ [])) (after_elem old.candidates elem)

-- the tries of these routes would not have room, of which this is said
abbrev pub IsShortFor : EngineState → Entries → TrieFull → Type 0
IsShortFor e E t = shortage e.sizes E ≡ Some (shortage_as t)
