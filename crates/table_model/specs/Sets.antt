-- The passes over the regions of a table (Draves and others, section 3): up: each region gets a set of hops from
-- those of its halves; and down: a region gets an entry if what it inherits isn't in its set.
use Rattle.std.specs.Prelude.{ℕ, zero, suc, ◌+◌, List, [], ◌∷◌, ◌++◌, Bool, true, false, cond, Option, Some, None, nat_eq, min}
use Rattle.std.specs.List.{filter, list_any}
use Rattle.table_model.specs.Table.{Table, lpm, root, half, inherit}
use Rattle.table_model.specs.Regions.{join}

-- whether the hop is in the set
abbrev pub is_in : ℕ → List ℕ → Bool
is_in h S = list_any (λ g. nat_eq g h) S

-- the hops that both sets have
abbrev pub common : List ℕ → List ℕ → List ℕ
common S T = filter (λ h. is_in h T) S

-- the first list, or the second if the first is empty
abbrev pub or_else : List ℕ → List ℕ → List ℕ
or_else [] T = T
or_else (g ∷ S) T = g ∷ S

-- the common hops, or, if there are none, all hops
abbrev pub joint : List ℕ → List ℕ → List ℕ
joint S T = or_else (common S T) (S ++ T)

-- 1 for the empty list
abbrev pub one_if_empty : List ℕ → ℕ
one_if_empty [] = 1
one_if_empty (g ∷ S) = 0

-- 1 if the sets have no hop in common
abbrev pub apart : List ℕ → List ℕ → ℕ
apart S T = one_if_empty (common S T)

-- the answers in the half of first bit b
abbrev pub side : Bool → (List Bool → ℕ) → List Bool → ℕ
side b f a = f (b ∷ a)

-- the set of a region of d more bits with the answers f
unfoldable pub set_of : ℕ → (List Bool → ℕ) → List ℕ
set_of zero f = f [] ∷ []
set_of (suc d) f = joint (set_of d (side false f)) (set_of d (side true f))

-- its k: one more wherever the halves' sets have no hop in common
unfoldable pub k_of : ℕ → (List Bool → ℕ) → ℕ
k_of zero f = 0
k_of (suc d) f = k_of d (side false f) + k_of d (side true f) + apart (set_of d (side false f)) (set_of d (side true f))

-- the least number of the set
abbrev pub smallest : List ℕ → ℕ
smallest [] = 0
smallest (g ∷ []) = g
smallest (g ∷ k ∷ S) = min g (smallest (k ∷ S))

-- the old hop if it is in the set, else the least number
abbrev pub pick : List ℕ → Option ℕ → ℕ
pick S None = smallest S
pick S (Some g) = cond (is_in g S) g (smallest S)

-- an entry exactly if the inherited hop is not in the set
abbrev pub own : List ℕ → Option ℕ → ℕ → Option ℕ
own S old h = cond (is_in h S) None (Some (pick S old))

-- the downward pass over a region of d more bits that inherits h
unfoldable pub agg : ℕ → (List Bool → ℕ) → Table → ℕ → Table
agg zero f old h = join (own (set_of zero f) (root old) h) [] []
agg (suc d) f old h =
    let o = own (set_of (suc d) f) (root old) h in
    join o (agg d (side false f) (half false old) (inherit o h)) (agg d (side true f) (half true old) (inherit o h))

-- the answers of R in the region p
abbrev pub answers : Table → List Bool → List Bool → ℕ
answers R p a = lpm R (p ++ a) 0
