-- What is found of regions on the way up.
use Rattle.std.specs.Prelude.{◌≡◌, ℕ, zero, suc, List, [], Bool, true, false, cond, Option, Some, None, Box, is_some}
use Rattle.std.specs.Box.{box_value}
use Rattle.std.specs.declared.alloc.Global.{Global}
use Rattle.table_model.specs.Table.{Table, root, half, inherit}
use Rattle.table_model.specs.Sets.{side}
use Rattle.orig_tree.specs.Spots.{spot_answers}
use Rattle.orig_tree.specs.Walk.{behind}
use Rattle.moves_model.specs.Sets.{is_allowed, allowed_by_both, inner_set, near_set}
use Rattle.moves_model.specs.Demands.{is_bare}
use Rattle.moves_model.specs.Way.{allowed_beside, FilledGive}
use Rattle.fib_moves.specs.declared.allowed.AllowedHops.{AllowedHops}
use Rattle.fib_moves.specs.Views.{SameAllowed, allowed_as}
use Rattle.fib_moves.specs.declared.place.Place.{Place}
use Rattle.fib_moves.specs.declared.found.RegionHops.{RegionHops}
use Rattle.fib_moves.specs.declared.found.RegionHops.TheViews.{out-RegionHops}

-- Of a region of d more bits with the answers f, the routes R and the old entries T nothing is found if no old entry stands strictly
-- within it; else the hops that its own entry should have, and so on in its halves, of which nothing need be found where a route stands.
abbrev pub FoundHops : ℕ → (List Bool → ℕ) → Table → Table → Option (Box RegionHops Global) → Type 0
FoundHops d f R T None = is_bare T ≡ true
FoundHops zero f R T (Some b) = ⊥
FoundHops (suc d) f R T (Some b) =
    SameAllowed (allowed_as (out-RegionHops (box_value b)).hops) (inner_set (suc d) f T)
    × (is_some (root (half false R)) ≡ false → FoundHops d (side false f) (half false R) (half false T) (out-RegionHops (box_value b)).low)
    × (is_some (root (half true R)) ≡ false → FoundHops d (side true f) (half true R) (half true T) (out-RegionHops (box_value b)).high)

-- the same of a place, of which nothing need be found if a route stands there
abbrev pub FoundInHalf : Place → Option (Box RegionHops Global) → Type 0
FoundInHalf p found = is_some (root (behind p.node).routes) ≡ false → FoundHops p.region.bits (spot_answers p.region) (behind p.node).routes p.region.entries found

-- what is found of a half, x if nothing is found of the region
abbrev pub half_found : Bool → Option (Box RegionHops Global) → Option (Box RegionHops Global) → Option (Box RegionHops Global)
half_found b None x = x
half_found b (Some s) x = cond b (out-RegionHops (box_value s)).high (out-RegionHops (box_value s)).low

-- if the place inherits h in the old table, that gives the answers in each part of a half that routes fill
abbrev pub HalvesGive : Place → ℕ → Type 0
HalvesGive p h =
    (b : Bool) (d : ℕ) → suc d ≡ p.region.bits
    → FilledGive d (side b (spot_answers p.region)) (half b (behind p.node).routes) (half b p.region.entries) (inherit (root p.region.entries) h)

-- the box has these
abbrev pub IsHopsBox : AllowedHops → Option (Box RegionHops Global) → Option (Box RegionHops Global) → Box RegionHops Global → Type 0
IsHopsBox hops low high b = ((out-RegionHops (box_value b)).hops ≡ hops) × ((out-RegionHops (box_value b)).low ≡ low) × ((out-RegionHops (box_value b)).high ≡ high)

-- no old entry stands in either half, or what is found is right of both together
abbrev pub JoinsHops : Place → Place → Option (Box RegionHops Global) → Type 0
JoinsHops low high None = (low.region.entries ≡ []) × (high.region.entries ≡ [])
JoinsHops low high (Some b) =
    SameAllowed (allowed_as (out-RegionHops (box_value b)).hops)
    (allowed_by_both (near_set low.region.bits (spot_answers low.region) low.region.entries) (near_set high.region.bits (spot_answers high.region) high.region.entries))
    × FoundInHalf low (out-RegionHops (box_value b)).low × FoundInHalf high (out-RegionHops (box_value b)).high

-- the new entry of a region in which T gives the answers under had: none if it may inherit gets, else one of had
abbrev pub settled_entry : ℕ → Table → ℕ → ℕ → Option ℕ
settled_entry d T had gets = cond (is_allowed gets (allowed_beside d T had)) None (Some had)
