-- The nearest table if the old one answers rightly outside a prefix p, an event's: what stays, and the one prefix above p that
-- may change. A region of d more bits has the answers f and the old entries T, and p is a way down from it.
use Rattle.std.specs.Prelude.{◌≡◌, ◌≢◌, ℕ, zero, suc, ◌-◌, ◌≤◌, List, [], ◌∷◌, ◌++◌, Bool, true, false, not, ◌&&◌, ◌||◌, cond, Option, length, is_some, is_none}
use Rattle.table_model.specs.Bits.{begins}
use Rattle.table_model.specs.Table.{Table, lpm, root, half, inherit, cut}
use Rattle.table_model.specs.Regions.{join, entry_at, above}
use Rattle.table_model.specs.Sets.{side, answers}
use Rattle.moves_model.specs.Sets.{Allowed, any, these, inner_set, new_entry, near_of}

-- ---- a region in which T gives the answers

-- whether entries of T fill the region: each of its addresses is within one there
unfoldable pub fills : ℕ → Table → Bool
fills zero T = is_some (root T)
fills (suc d) T = is_some (root T) || (fills d (half false T) && fills d (half true T))

-- what it may inherit if T gives the answers under h
abbrev pub allowed_beside : ℕ → Table → ℕ → Allowed
allowed_beside d T h = cond (fills d T) any (these (h ∷ []))

-- ---- the way to p

-- outside p T gives the answers, under h
abbrev pub GivesBeside : List Bool → ℕ → (List Bool → ℕ) → Table → ℕ → Type 0
GivesBeside p d f T h = (a : List Bool) → length a ≡ d → begins p a ≡ false → lpm T a h ≡ f a

-- what p's own entry, or what it inherits without one, should be
abbrev pub allowed_at : ℕ → (List Bool → ℕ) → Table → List Bool → Allowed
allowed_at d f T p = inner_set (d - length p) (λ a. f (p ++ a)) (cut p T)

-- whether the way to p is clear from the region on: T has no entry on it, the region's own apart, and fills each half beside it
unfoldable pub is_clear : List Bool → ℕ → Table → Bool
is_clear [] d T = true
is_clear (b ∷ p) zero T = false
is_clear (b ∷ p) (suc d) T = is_none (root (half b T)) && (fills d (half (not b) T) && is_clear p d (half b T))

-- the turn: the first prefix on the way to p, p among them, from which on it is clear
unfoldable pub turn : List Bool → ℕ → Table → List Bool
turn [] d T = []
turn (b ∷ p) zero T = []
turn (b ∷ p) (suc d) T = cond (is_clear (b ∷ p) (suc d) T) [] (b ∷ turn p d (half b T))

-- the new entry of a region on the way that inherits h: the old one's, except if the way is clear from here on
abbrev pub way_entry : List Bool → ℕ → (List Bool → ℕ) → Table → ℕ → Option ℕ
way_entry p d f T h = cond (is_clear p d T) (new_entry (allowed_at d f T p) (root T) h) (root T)

-- the table of an entry, the half of first bit b and the other half
abbrev pub join_by : Bool → Option ℕ → Table → Table → Table
join_by false o L M = join o L M
join_by true o L M = join o M L

-- the downward pass on the way to p and within p alone
unfoldable pub pass_to : List Bool → ℕ → (List Bool → ℕ) → Table → ℕ → Table
pass_to [] d f T h = near_of d f T h
pass_to (b ∷ p) zero f T h = near_of zero f T h
pass_to (b ∷ p) (suc d) f T h =
    let o = way_entry (b ∷ p) (suc d) f T h in
    join_by b o (pass_to p d (side b f) (half b T) (inherit o h)) (half (not b) T)

-- what p comes to inherit if the region inherits h
unfoldable pub comes_to : List Bool → ℕ → (List Bool → ℕ) → Table → ℕ → ℕ
comes_to [] d f T h = h
comes_to (b ∷ p) zero f T h = h
comes_to (b ∷ p) (suc d) f T h =
    cond (is_clear (b ∷ p) (suc d) T) (inherit (new_entry (allowed_at (suc d) f T (b ∷ p)) (root T) h) h) (comes_to p d (side b f) (half b T) (inherit (root T) h))

-- ---- the event

-- the tables have the same entries but at p
abbrev pub SameBut : List Bool → Table → Table → Type 0
SameBut p R S = (q : List Bool) → q ≢ p → entry_at q R ≡ entry_at q S

-- T answers as R outside p
abbrev pub AlikeBeside : ℕ → List Bool → Table → Table → Type 0
AlikeBeside w p R T = (a : List Bool) → length a ≡ w → begins p a ≡ false → lpm T a 0 ≡ lpm R a 0

-- the hops that p's own entry should have, of the routes R beside the old table T, for addresses of w bits
abbrev pub event_set : ℕ → Table → List Bool → Table → Allowed
event_set w R p T = inner_set (w - length p) (answers R p) (cut p T)

-- the turn's entry in the new table
abbrev pub turn_entry : ℕ → Table → List Bool → Table → Option ℕ
turn_entry w R p T =
    let r = turn p w T in
    new_entry (event_set w R p T) (entry_at r T) (above r T 0)

-- what p comes to inherit: what it did if it is the turn, else what comes from the turn's new entry, or past it if there is none
abbrev pub event_hop : ℕ → Table → List Bool → Table → ℕ
event_hop w R p T =
    let r = turn p w T in
    cond (begins p r) (above r T 0) (inherit (turn_entry w R p T) (above r T 0))

-- ---- the turn found on the way down

-- whether the way is blocked at the half of first bit b: an entry stands at that half, or entries don't fill the other one
abbrev pub is_blocked : Bool → ℕ → Table → Bool
is_blocked b d T = is_some (root (half b T)) || not (fills d (half (not b) T))

-- the turn, if the way is gone to q, s is left of it, and r is the last prefix so far at which it was blocked
abbrev pub turn_by : List Bool → List Bool → List Bool → ℕ → Table → List Bool
turn_by q r s d T = cond (is_clear s d T) r (q ++ turn s d T)

-- ---- within p

-- T gives the answers in each part of the region that the routes S fill, if the region inherits h in T.
abbrev pub FilledGive : ℕ → (List Bool → ℕ) → Table → Table → ℕ → Type 0
FilledGive d f S T h = (q : List Bool) → length q ≤ d → fills (d - length q) (cut q S) ≡ true
    → (a : List Bool) → length a ≡ d - length q → lpm (cut q T) a (above q T h) ≡ f (q ++ a)
