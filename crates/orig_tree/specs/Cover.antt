-- What a region's addresses get from the entries there, for whoever knows what the region inherits.
use Rattle.std.specs.Prelude.{◌≡◌, ◌≢◌, ℕ, List, length, Bool, true, false, ◌||◌, ◌&&◌, not, cond, nat_eq, Option, Some, None}
use Rattle.table_model.specs.Table.{Table, lpm}
use Rattle.orig_tree.specs.Views.{FitsWidth}
use Rattle.orig_tree.specs.declared.cover.Hops.{Hops}
use Rattle.orig_tree.specs.declared.cover.Hops.TheVariants.{Zero, One, Many}
use Rattle.orig_tree.specs.declared.cover.Cover.{Cover}

-- whatever is inherited, the address gets it, or gets this hop
abbrev pub ShowsHop : Table → List Bool → Option ℕ → Type 0
ShowsHop L a None = (h : ℕ) → lpm L a h ≡ h
ShowsHop L a (Some g) = (h : ℕ) → lpm L a h ≡ g

-- the hops have this one
abbrev pub Allows : Hops → ℕ → Type 0
Allows Zero g = ⊥
Allows (One x) g = g ≡ x
Allows Many g = Unit {0}

-- the cover allows for an address that gets what is inherited, or this hop
abbrev pub Within : Cover → Option ℕ → Type 0
Within c None = c.passes ≡ true
Within c (Some g) = Allows c.hops g

-- some address of n bits gets this
abbrev pub SomeGets : ℕ → Table → Option ℕ → Type 0
SomeGets n L x = (a : List Bool) × (length a ≡ n) × ShowsHop L a x

-- the hop is reached, and two different ones if there are many
abbrev pub ReachedBy : (ℕ → Type 0) → Hops → Type 0
ReachedBy r Zero = Unit {0}
ReachedBy r (One x) = r x
ReachedBy r Many = (g : ℕ) × (k : ℕ) × (g ≢ k) × r g × r k

-- The cover says what addresses get, however many bits they have, as long as no prefix has more: each gets what the
-- cover allows for, and what the cover names some address gets.
pub record IsCover (L : Table) (c : Cover) : Type 0 where
  pub each : (n : ℕ) → FitsWidth n L → (a : List Bool) → length a ≡ n → (x : Option ℕ) × ShowsHop L a x × Within c x
  pub passed : (n : ℕ) → FitsWidth n L → c.passes ≡ true → SomeGets n L None
  pub reached : (n : ℕ) → FitsWidth n L → ReachedBy (λ g. SomeGets n L (Some g)) c.hops

-- the hops of two regions
abbrev pub both : Hops → Hops → Hops
both Zero b = b
both (One x) Zero = One x
both (One x) (One y) = cond (nat_eq x y) (One x) Many
both (One x) Many = Many
both Many b = Many

-- the hops with one for the addresses that got what was inherited, if there are such
abbrev pub stopped : ℕ → Bool → Hops → Hops
stopped g true hops = both hops (One g)
stopped g false hops = hops

-- the cover of a region, from its own hop and the covers of its halves
abbrev pub covered : Option ℕ → Cover → Cover → Cover
covered None low high = record { passes = low.passes || high.passes; hops = both low.hops high.hops }
covered (Some g) low high = record { passes = false; hops = stopped g (low.passes || high.passes) (both low.hops high.hops) }

abbrev pub only_by : Bool → Hops → ℕ → Option ℕ
only_by passes Zero h = Some h
only_by passes Many h = None
only_by passes (One x) h = cond (passes && not (nat_eq x h)) None (Some x)

-- the one hop of a region's addresses, given what it inherits
abbrev pub only_of : Cover → ℕ → Option ℕ
only_of c h = only_by c.passes c.hops h
