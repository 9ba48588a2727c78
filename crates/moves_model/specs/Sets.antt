-- The passes over the regions of routes beside an old table, which is to change at as few prefixes as can be. They are our own,
-- after those of Draves, King, Venkatachary and Zill, 'Constructing Optimal IP Routing Tables' (INFOCOM 1999), section 3: up:
-- each region gets the hops that it may inherit at no further change; and down: an old entry stays, goes or gets
-- another hop, and a new one comes. Here a region with an old entry may inherit any hop, since its own entry counts there.
use Rattle.std.specs.Prelude.{ℕ, zero, suc, ◌+◌, List, [], ◌∷◌, Bool, true, false, cond, Option, Some, None}
use Rattle.table_model.specs.Table.{Table, root, half, inherit}
use Rattle.table_model.specs.Regions.{join}
use Rattle.table_model.specs.Sets.{is_in, joint, apart, smallest, side}

-- which hops are allowed: any, or these
pub data Allowed : Type 0 where
  any : Allowed
  these : List ℕ → Allowed

-- whether the hop is allowed
abbrev pub is_allowed : ℕ → Allowed → Bool
is_allowed h any = true
is_allowed h (these S) = is_in h S

-- what two halves allow together: the hops that both allow, or, if there are none, those that either does; any with others
-- gives the others
abbrev pub allowed_by_both : Allowed → Allowed → Allowed
allowed_by_both any T = T
allowed_by_both (these S) any = these S
allowed_by_both (these S) (these T) = these (joint S T)

-- 1 if no hop is allowed by both
abbrev pub gap : Allowed → Allowed → ℕ
gap any T = 0
gap (these S) any = 0
gap (these S) (these T) = apart S T

-- the least of them; if any is allowed it isn't asked for
abbrev pub least_allowed : Allowed → ℕ
least_allowed any = 0
least_allowed (these S) = smallest S

-- What a region may inherit at no further change, from what its own entry should be, or what comes from above if it has none:
-- any hop if it has an old entry.
abbrev pub set_over : Option ℕ → Allowed → Allowed
set_over None S = S
set_over (Some t) S = any

-- how many changes a region needs then, from those strictly within: one more if its old entry's hop isn't allowed
abbrev pub k_over : Option ℕ → Allowed → ℕ → ℕ
k_over None S m = m
k_over (Some t) S m = cond (is_allowed t S) m (m + 1)

-- Of a region of d more bits with the answers f and the old entries T: what its own entry should be, or what comes from above
-- if it has none. Then its halves need the fewest changes.
unfoldable pub inner_set : ℕ → (List Bool → ℕ) → Table → Allowed
inner_set zero f T = these (f [] ∷ [])
inner_set (suc d) f T =
    allowed_by_both (set_over (root (half false T)) (inner_set d (side false f) (half false T))) (set_over (root (half true T)) (inner_set d (side true f) (half true T)))

-- how many changes strictly within it are needed then
unfoldable pub inner_k : ℕ → (List Bool → ℕ) → Table → ℕ
inner_k zero f T = 0
inner_k (suc d) f T =
    k_over (root (half false T)) (inner_set d (side false f) (half false T)) (inner_k d (side false f) (half false T))
    + k_over (root (half true T)) (inner_set d (side true f) (half true T)) (inner_k d (side true f) (half true T))
    + gap (set_over (root (half false T)) (inner_set d (side false f) (half false T))) (set_over (root (half true T)) (inner_set d (side true f) (half true T)))

-- the region's set: what it may inherit at no further change
abbrev pub near_set : ℕ → (List Bool → ℕ) → Table → Allowed
near_set d f T = set_over (root T) (inner_set d f T)

-- the region's k: how many changes it needs then, its own prefix counted
abbrev pub near_k : ℕ → (List Bool → ℕ) → Table → ℕ
near_k d f T = k_over (root T) (inner_set d f T) (inner_k d f T)

-- The region's entry if it inherits h. An old one stays if its hop is allowed; else it goes if h is; else its hop becomes
-- the least of those that are. Without an old one none comes if h is allowed, else one with the least.
abbrev pub new_entry : Allowed → Option ℕ → ℕ → Option ℕ
new_entry S None h = cond (is_allowed h S) None (Some (least_allowed S))
new_entry S (Some t) h = cond (is_allowed t S) (Some t) (cond (is_allowed h S) None (Some (least_allowed S)))

-- the downward pass over a region of d more bits that inherits h
unfoldable pub near_of : ℕ → (List Bool → ℕ) → Table → ℕ → Table
near_of zero f T h = join (new_entry (inner_set zero f T) (root T) h) [] []
near_of (suc d) f T h =
    let o = new_entry (inner_set (suc d) f T) (root T) h in
    join o (near_of d (side false f) (half false T) (inherit o h)) (near_of d (side true f) (half true T) (inherit o h))
