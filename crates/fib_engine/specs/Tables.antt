-- The kept tables of both families.
use Rattle.std.specs.Prelude.{◌≡◌, ℕ, List, [], ◌++◌, Bool, cond, Option, Some, None}
use Rattle.std.specs.List.{filter}
use Rattle.table_model.specs.Address.{same_family}
use Rattle.table_model.specs.declared.family.Family.{Family}
use Rattle.table_model.specs.declared.family.Family.TheVariants.{V4, V6}
use Rattle.table_model.specs.Entries.{Entries, in_order}
use Rattle.table_model.specs.Both.{aggregate_in}
use Rattle.table_model.specs.Changes.{Change, after_changes}
use Rattle.fib_addr.specs.declared.prefix.Prefix as code_prefix
use Rattle.fib_addr.specs.declared.entry.Hop as code_hop
use Rattle.orig_tree.specs.Views.{Labels}
use Rattle.smalta_keep.specs.declared.repair.Moved.{Moved}
use Rattle.smalta_keep.specs.declared.repair.Repair.{Repair}
use Rattle.smalta_keep.specs.Views.{moved_of, place_in, repair_as, snapshot_as, undone_by, with_planned}
use Rattle.smalta_keep.specs.Plans.{IsRepairPlanned, Tells}
use Rattle.smalta_keep.specs.Answers.{IsAlike}
use Rattle.poptrie_build.specs.declared.counts.Needs.{Needs}
use Rattle.route_tries.specs.Sizes.{needs_of_both}
use Rattle.route_tries.specs.Parts.{IsNeedAfter}
use Rattle.route_tries.specs.declared.needs.FamilyNeeds.{FamilyNeeds}
use Rattle.fib_engine.specs.declared.tables.Plan.{Plan}

-- what is seen of both
pub record Both : Type 0 where
  pub v4 : Labels
  pub v6 : Labels

abbrev pub labels_of : Family → Both → Labels
labels_of V4 both = both.v4
labels_of V6 both = both.v6

-- they are those of IPv4 and of IPv6
abbrev pub AreBoth : Both → Type 0
AreBoth both = (both.v4.family ≡ V4) × (both.v6.family ≡ V6)

-- each sends every address where its routes send it
abbrev pub AreAlike : Both → Type 0
AreAlike both = IsAlike both.v4 × IsAlike both.v6

-- both tables, IPv4 first
abbrev pub table_of : Both → Entries
table_of both = both.v4.entries ++ both.v6.entries

-- both tables' routes, IPv4 first
abbrev pub both_routes : Both → Entries
both_routes both = both.v4.routes ++ both.v6.routes

-- those of the entries that are of the family
abbrev pub only : Family → Entries → Entries
only f E = filter (λ e. same_family f e.0.family) E

-- each was given those of these routes that are of its family
abbrev pub Given : Entries → Both → Type 0
Given E both = (f : Family) → (labels_of f both).routes ≡ in_order (only f E)

-- the tables stay
pub record KeepTables (old new : Both) : Type 0 where
  pub v4_family : new.v4.family ≡ old.v4.family
  pub v6_family : new.v6.family ≡ old.v6.family
  pub v4 : new.v4.entries ≡ old.v4.entries
  pub v6 : new.v6.entries ≡ old.v6.entries

-- the routes stay
pub record KeepRoutes (old new : Both) : Type 0 where
  pub v4_family : new.v4.family ≡ old.v4.family
  pub v6_family : new.v6.family ≡ old.v6.family
  pub v4 : new.v4.routes ≡ old.v4.routes
  pub v6 : new.v6.routes ≡ old.v6.routes

abbrev pub Route : Type 0
Route = Option (code_prefix.Prefix × code_hop.Hop)

-- the route, if it is of the family
abbrev pub route_in : Family → Route → Route
route_in f None = None
route_in f (Some r) = cond (same_family r.0.family f) (Some r) None

-- the changes of both first steps, and all changes of both: those of the first steps, then those of the snapshots
abbrev pub both_firsts : Moved → Moved → List Change
both_firsts v4 v6 = repair_as v4 ++ repair_as v6

abbrev pub gathered : Moved → Moved → List Change
gathered v4 v6 = both_firsts v4 v6 ++ (snapshot_as v4 ++ snapshot_as v6)

-- the table of the route's family has the route
pub record ArePut (route : Route) (old new : Both) : Type 0 where
  pub v4 : new.v4.routes ≡ with_planned (route_in V4 route) old.v4.routes
  pub v6 : new.v6.routes ≡ with_planned (route_in V6 route) old.v6.routes

-- both have the routes from before the plan
pub record AreUndone (plan : Plan) (old new : Both) : Type 0 where
  pub v4 : new.v4.routes ≡ undone_by plan.v4 old.v4.routes
  pub v6 : new.v6.routes ≡ undone_by plan.v6 old.v6.routes

-- both are planned, and nothing changed since
pub record ArePlanned (both : Both) (plan : Plan) : Type 0 where
  pub v4 : IsRepairPlanned both.v4 plan.v4
  pub v6 : IsRepairPlanned both.v6 plan.v6

-- what both plans say, each repaired at the route's prefix or by the fewest changes
pub record AreTold (both : Both) (fewest : Bool) (route : Route) (due : Bool) (v4 v6 : Repair) : Type 0 where
  pub v4_tells : Tells both.v4 fewest (place_in (route_in V4 route)) due (moved_of v4)
  pub v6_tells : Tells both.v6 fewest (place_in (route_in V6 route)) due (moved_of v6)

-- the changes of a family's plan, made
abbrev pub MadeBy : Repair → Labels → Labels → Type 0
MadeBy r old new = after_changes (repair_as (moved_of r) ++ snapshot_as (moved_of r)) old.entries ≡ Some new.entries

-- the tables of these routes, before their first snapshot
pub record AreOfRoutes (E : Entries) (both : Both) : Type 0 where
  pub families : AreBoth both
  pub v4 : both.v4.routes ≡ only V4 E
  pub v6 : both.v6.routes ≡ only V6 E
  pub v4_empty : both.v4.entries ≡ []
  pub v6_empty : both.v6.entries ≡ []

-- the tables of these routes, each the least one
pub record AreFilledOf (E : Entries) (both : Both) : Type 0 where
  pub families : AreBoth both
  pub v4 : both.v4.routes ≡ only V4 E
  pub v6 : both.v6.routes ≡ only V6 E
  pub v4_least : both.v4.entries ≡ aggregate_in V4 (only V4 E) []
  pub v6_least : both.v6.entries ≡ aggregate_in V6 (only V6 E) []

-- ---- needs

-- what tries of the routes need
abbrev pub needs_in : ℕ → Both → FamilyNeeds
needs_in s both = needs_of_both s both.v4.routes both.v6.routes

-- what they need once the route is put
abbrev pub needs_put : ℕ → Route → Both → FamilyNeeds
needs_put s route both = needs_of_both s (with_planned (route_in V4 route) both.v4.routes) (with_planned (route_in V6 route) both.v6.routes)

-- the need of the family is what it is after a change within a prefix, at which the first was needed and the second is now; the
-- other family's stays
abbrev pub IsReplaced : Family → FamilyNeeds → Needs → Needs → FamilyNeeds → Type 0
IsReplaced V4 old before after new = IsNeedAfter old.v4 before after new.v4 × (new.v6 ≡ old.v6)
IsReplaced V6 old before after new = IsNeedAfter old.v6 before after new.v6 × (new.v4 ≡ old.v4)
