-- Regions on the way down.
use Rattle.std.specs.Prelude.{◌≡◌, ◌||◌, ℕ, List, [], ◌∷◌, Bool, true, false, is_some}
use Rattle.table_model.specs.Table.{Table, IsTable, lpm, root, half, inherit}
use Rattle.kept_model.specs.Stays.{Settled, is_wide_mark}
use Rattle.orig_tree.specs.Spots.{Spot, spot_answers}
use Rattle.orig_tree.specs.Walk.{behind}
use Rattle.smalta_keep.specs.declared.place.Place.{Place}
use Rattle.smalta_keep.specs.declared.place.Rerouted.{Rerouted}
use Rattle.smalta_keep.specs.declared.place.Rerouted.TheVariants.{Nowhere, Here, Above}

-- where the routes of a half differ
abbrev pub half_rerouted : Rerouted → Rerouted
half_rerouted Nowhere = Nowhere
half_rerouted Here = Above
half_rerouted Above = Above

-- the addresses of a region with the routes R get what they got: nothing differs, or R has a route for them all
abbrev pub IsSheltered : Rerouted → Table → Type 0
IsSheltered Nowhere R = Unit {0}
IsSheltered Here R = ⊥
IsSheltered Above R = is_some (root R) ≡ true

-- no dirty prefix below the root, and no wide one at it
pub record IsUnmarked (dirty : Table) : Type 0 where
  pub wide : is_wide_mark (root dirty) ≡ false
  pub below : (b : Bool) → half b dirty ≡ []

-- the place is off the dirty prefixes, and gets what it got from the routes
pub record IsClear (p : Place) : Type 0 where
  pub within : p.marked ≡ false
  pub dirty : IsUnmarked (behind p.dirty).entries
  pub sheltered : IsSheltered p.rerouted (behind p.node).routes

-- the answers f are those of the region s, which has the routes R, but for where its routes differ
abbrev pub IsBefore : Rerouted → (List Bool → ℕ) → Spot → Table → Type 0
IsBefore Nowhere f s R = (a : List Bool) → f a ≡ spot_answers s a
IsBefore Here f s R = (g : ℕ) × ((b : Bool) (a : List Bool) → f (b ∷ a) ≡ lpm (half b R) a g) × (k : ℕ) × ((a : List Bool) → spot_answers s a ≡ lpm R a k)
IsBefore Above f s R = (g : ℕ) × ((a : List Bool) → f a ≡ lpm R a g) × (k : ℕ) × ((a : List Bool) → spot_answers s a ≡ lpm R a k)

-- off the dirty prefixes the place is clean for the answers before
pub record IsSettledPlace (p : Place) (h : ℕ) : Type 0 where
  pub before : List Bool → ℕ
  pub settled : Settled p.region.bits before p.region.entries h (behind p.dirty).entries
  pub was : IsBefore p.rerouted before p.region (behind p.node).routes

-- the place's nodes are the region's, which inherits the hop h in the table; and what is off the dirty prefixes there is clean
pub record IsPassPlace (p : Place) (h : ℕ) : Type 0 where
  pub node : (behind p.node).entries ≡ p.region.entries
  pub table : IsTable p.region.bits p.region.entries
  pub known : p.marked ≡ false → IsSettledPlace p h

-- the half of the place has no dirty prefix, and gets what it got from the routes
pub record IsHalfClear (b : Bool) (p : Place) : Type 0 where
  pub within : (p.marked || is_wide_mark (root (behind p.dirty).entries)) ≡ false
  pub dirty : half b (behind p.dirty).entries ≡ []
  pub nowhere : p.rerouted ≡ Nowhere

-- the same as `IsPassPlace` of a place whose halves inherit the hop h in the table
pub record IsPassHalf (p : Place) (h : ℕ) : Type 0 where
  pub above : ℕ
  pub place : IsPassPlace p above
  pub below : h ≡ inherit (root p.region.entries) above
