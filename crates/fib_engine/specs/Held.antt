-- What is seen of an engine.
use Rattle.std.specs.Prelude.{◌≡◌, ◌≤◌, ℕ, List, [], length, Bool, false, cond, Option, None}
use Rattle.std.specs.List.{AllByRecursion}
use Rattle.std.specs.Map.{keys_of}
use Rattle.table_model.specs.Address.{Address}
use Rattle.table_model.specs.declared.family.Family.{Family}
use Rattle.table_model.specs.declared.family.Family.TheVariants.{V4, V6}
use Rattle.table_model.specs.Entries.{Entries}
use Rattle.route_model.specs.Events.{Elem}
use Rattle.route_model.specs.Choice.{Candidates, IsElem, after_elems}
use Rattle.kept_model.specs.Feed.{entries_of, hops_after}
use Rattle.fib_addr.specs.Hops.{most_hops}
use Rattle.orig_tree.specs.Views.{Labels, InPlace}
use Rattle.smalta_keep.specs.Answers.{IsAlike}
use Rattle.route_tries.specs.Sizes.{Sizes, needs_of, shortage}
use Rattle.route_tries.specs.declared.needs.FamilyNeeds.{FamilyNeeds}
use Rattle.fib_engine.specs.Tables.{Both, only}

-- How often a snapshot comes, whether an event is to make the fewest changes, how large tries are, the candidates of all peers, the hops with
-- numbers, the kept table of both families, whether the load ended, how many elementary events were taken since, and how many changes the first
-- step of the last of these made, if it changed a chosen hop.
pub record EngineState : Type 0 where
  pub every : ℕ
  pub fewest : Bool
  pub sizes : Sizes
  pub candidates : Candidates
  pub hops : List Address
  pub table : Entries
  pub loaded : Bool
  pub events : ℕ
  pub moves : Option ℕ

-- the routes: each prefix that has a candidate, with the number of the hop of its chosen one
abbrev pub engine_routes : EngineState → Entries
engine_routes e = entries_of e.hops e.candidates

-- the routes of the tables and of tries: none before the load ended
abbrev pub if_loaded : Bool → Entries → Entries
if_loaded loaded E = cond loaded E []

abbrev pub routes_told : EngineState → Entries
routes_told e = if_loaded e.loaded (engine_routes e)

-- A family's kept table is of the family and in order, has the routes of the family, and sends every address where they send it; before the
-- load ended it is empty.
pub record IsKept (f : Family) (loaded : Bool) (E : Entries) (kept : Labels) : Type 0 where
  pub family : kept.family ≡ f
  pub order : InPlace kept.entries
  pub of_family : AllByRecursion (λ p. p.family ≡ f) (keys_of kept.entries)
  pub routes : kept.routes ≡ only f (if_loaded loaded E)
  pub alike : IsAlike kept
  pub empty : loaded ≡ false → kept.entries ≡ []

-- the needs are those of tries of the routes, and arenas of these sizes have room for them
pub record AreKeptNeeds (z : Sizes) (E : Entries) (n : FamilyNeeds) : Type 0 where
  pub needs : n ≡ needs_of z.direct E
  pub fit : shortage z E ≡ None

-- The candidates and the hops are those after some elementary events, the kept tables are of the routes that they come to.
pub record IsSound (C : Candidates) (H : List Address) (is_loaded : Bool) (both : Both) : Type 0 where
  pub elems : List Elem
  pub proper : AllByRecursion IsElem elems
  pub candidates : C ≡ after_elems [] elems
  pub hops : H ≡ hops_after [] elems
  pub few : length H ≤ most_hops
  pub v4 : IsKept V4 is_loaded (entries_of H C) both.v4
  pub v6 : IsKept V6 is_loaded (entries_of H C) both.v6
