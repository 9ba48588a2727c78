-- What is kept of regions on the way up.
use Rattle.std.specs.Prelude.{◌≡◌, ℕ, zero, suc, ◌+◌, List, [], Bool, true, false, cond, Option, Some, None, Box}
use Rattle.std.specs.Box.{box_value}
use Rattle.std.specs.declared.alloc.Global.{Global}
use Rattle.table_model.specs.Table.{Table, IsTable, half}
use Rattle.table_model.specs.Sets.{side}
use Rattle.orig_tree.specs.Spots.{Spot, spot_answers}
use Rattle.orig_tree.specs.Walk.{behind}
use Rattle.moves_model.specs.Sets.{allowed_by_both, gap, inner_set, inner_k, near_set, near_k}
use Rattle.moves_model.specs.Demands.{is_bare}
use Rattle.fib_moves.specs.declared.allowed.AllowedHops.{AllowedHops}
use Rattle.fib_moves.specs.declared.needs.RegionNeeds.{RegionNeeds}
use Rattle.fib_moves.specs.declared.needs.RegionNeeds.TheViews.{out-RegionNeeds}
use Rattle.fib_moves.specs.declared.place.Place.{Place}
use Rattle.fib_moves.specs.Views.{SameAllowed, allowed_as}

-- Of a region of d more bits with the answers f and the old entries T nothing is kept if none stands strictly within it; else the hops
-- that its own entry should have, and how many changes are needed within it then, and so on in its halves.
abbrev pub Knows : ℕ → (List Bool → ℕ) → Table → Option (Box RegionNeeds Global) → Type 0
Knows d f T None = is_bare T ≡ true
Knows zero f T (Some b) = ⊥
Knows (suc d) f T (Some b) =
    (is_bare T ≡ false) × SameAllowed (allowed_as (out-RegionNeeds (box_value b)).hops) (inner_set (suc d) f T) × ((out-RegionNeeds (box_value b)).k ≡ inner_k (suc d) f T)
    × Knows d (side false f) (half false T) (out-RegionNeeds (box_value b)).low × Knows d (side true f) (half true T) (out-RegionNeeds (box_value b)).high

-- Of such a region: the hops that its own entry should have, if these were found; else no old entry stands strictly within it.
abbrev pub AreFound : ℕ → (List Bool → ℕ) → Table → Option AllowedHops → Type 0
AreFound d f T None = is_bare T ≡ true
AreFound d f T (Some w) = SameAllowed (allowed_as w) (inner_set d f T)

-- what is kept of a half, x if nothing is kept of the region
abbrev pub half_needs : Bool → Option (Box RegionNeeds Global) → Option (Box RegionNeeds Global) → Option (Box RegionNeeds Global)
half_needs b None x = x
half_needs b (Some s) x = cond b (out-RegionNeeds (box_value s)).high (out-RegionNeeds (box_value s)).low

-- the box has these
abbrev pub IsBoxed : AllowedHops → ℕ → Option (Box RegionNeeds Global) → Option (Box RegionNeeds Global) → Box RegionNeeds Global → Type 0
IsBoxed hops k low high b = ((out-RegionNeeds (box_value b)).hops ≡ hops) × ((out-RegionNeeds (box_value b)).k ≡ k) × ((out-RegionNeeds (box_value b)).low ≡ low) × ((out-RegionNeeds (box_value b)).high ≡ high)

-- no old entry stands in either half, or what is kept is right of both together
abbrev pub IsJoined : Spot → Spot → Option (Box RegionNeeds Global) → Type 0
IsJoined low high None = (low.entries ≡ []) × (high.entries ≡ [])
IsJoined low high (Some b) =
    (low.entries ≡ [] → high.entries ≡ [] → ⊥) × SameAllowed (allowed_as (out-RegionNeeds (box_value b)).hops) (allowed_by_both (near_set low.bits (spot_answers low) low.entries) (near_set high.bits (spot_answers high) high.entries))
    × ((out-RegionNeeds (box_value b)).k ≡ near_k low.bits (spot_answers low) low.entries + near_k high.bits (spot_answers high) high.entries
    + gap (near_set low.bits (spot_answers low) low.entries) (near_set high.bits (spot_answers high) high.entries))
    × Knows low.bits (spot_answers low) low.entries (out-RegionNeeds (box_value b)).low × Knows high.bits (spot_answers high) high.entries (out-RegionNeeds (box_value b)).high

-- the place's node is its region's
pub record IsNodeOf (p : Place) : Type 0 where
  pub node : (behind p.node).entries ≡ p.region.entries
  pub table : IsTable p.region.bits p.region.entries
