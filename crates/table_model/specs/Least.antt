-- Least tables: what a table must cost, and which of the least ones is taken (Draves, King, Venkatachary and Zill,
-- 'Constructing Optimal IP Routing Tables', sections 2 and 3). R is a table of routes for addresses of w bits.
use Rattle.std.specs.Prelude.{◌≡◌, ℕ, ◌+◌, ◌-◌, ◌≤◌, List, [], ◌∷◌, ◌++◌, Bool, cond, Option, None, Some, length, map, IsTrue}
use Rattle.table_model.specs.Table.{Table, lpm, IsTable, Alike, cut}
use Rattle.table_model.specs.Regions.{IsWithin, outside, above, entry_at, lift}
use Rattle.table_model.specs.Sets.{is_in, set_of, k_of, agg, answers}

-- T answers as R, and no table that does has fewer entries, whatever its hops; a drop entry counts as any other
abbrev pub Least : ℕ → Table → Table → Type 0
Least w R T = Alike w R T × ((L : Table) → IsTable w L → Alike w R L → length T ≤ length L)

-- under h, L answers in the region p as R does: h is what an address gets from L that no entry of L matches
abbrev pub GivesAnswers : ℕ → Table → List Bool → ℕ → Table → Type 0
GivesAnswers w R p h L = (a : List Bool) → length (p ++ a) ≡ w → lpm L (p ++ a) h ≡ lpm R (p ++ a) 0

-- k is what the region p costs under h: a table of k entries within p gives R's answers there, and none of fewer does
abbrev pub IsCost : ℕ → Table → List Bool → ℕ → ℕ → Type 0
IsCost w R p h k =
    ((L : Table) × IsTable w L × IsWithin p L × GivesAnswers w R p h L × (length L ≡ k))
    × ((L : Table) → IsTable w L → IsWithin p L → GivesAnswers w R p h L → k ≤ length L)

-- of the tables within p that under h give R's answers there, T is one that has the fewest entries
abbrev pub LeastWithin : ℕ → Table → List Bool → ℕ → Table → Type 0
LeastWithin w R p h T =
    IsTable w T × IsWithin p T × GivesAnswers w R p h T
    × ((L : Table) → IsTable w L → IsWithin p L → GivesAnswers w R p h L → length T ≤ length L)

-- none and the hops of R
abbrev pub candidates : Table → List ℕ
candidates R = 0 ∷ map (λ e. e.hop) R

-- h is best for the region p: of the candidates none costs less there
abbrev pub IsBest : ℕ → Table → List Bool → ℕ → Type 0
IsBest w R p h =
    IsTrue (is_in h (candidates R))
    × ((g k l : ℕ) → IsTrue (is_in g (candidates R)) → IsCost w R p h k → IsCost w R p g l → k ≤ l)

-- What stands at p, if the old entry there is known and h is inherited: no entry if h is best, else an entry
-- whose hop is best: the old one if that is best, else the least.
abbrev pub IsOwn : ℕ → Table → List Bool → Option ℕ → ℕ → Option ℕ → Type 0
IsOwn w R p old h o =
    (IsBest w R p h → o ≡ None)
    × ((IsBest w R p h → ⊥) → (g : ℕ) × (o ≡ Some g) × IsBest w R p g
    × ((k : ℕ) → old ≡ Some k → IsBest w R p k → g ≡ k)
    × (((k : ℕ) → old ≡ Some k → IsBest w R p k → ⊥) → (k : ℕ) → IsBest w R p k → g ≤ k))

-- A is the aggregate of the region p under h, with old as the old table: its entry at each prefix within p is the one
-- that the best hops fix, under what A itself has above it
abbrev pub IsAggregate : ℕ → Table → List Bool → ℕ → Table → Table → Type 0
IsAggregate w R p h old A =
    IsTable w A × IsWithin p A
    × ((q : List Bool) → length (p ++ q) ≤ w → IsOwn w R (p ++ q) (entry_at (p ++ q) old) (above (p ++ q) A h) (entry_at (p ++ q) A))

-- ---- the same by the sets of the regions, which are computed from the leaves up

-- the set of the region p
abbrev pub set_at : ℕ → Table → List Bool → List ℕ
set_at w R p = set_of (w - length p) (answers R p)

-- its k: what the region costs under a hop of its set
abbrev pub k_at : ℕ → Table → List Bool → ℕ
k_at w R p = k_of (w - length p) (answers R p)

-- how many entries a least table of all addresses has
abbrev pub bound : ℕ → Table → ℕ
bound w R = cond (is_in 0 (set_at w R [])) (k_at w R []) (k_at w R [] + 1)

-- the aggregate of the region p under h
abbrev pub aggregate : ℕ → Table → List Bool → ℕ → Table → Table
aggregate w R p h old = lift p (agg (w - length p) (answers R p) (cut p old) h)

-- T with its entries within p replaced by the aggregate of p for R
abbrev pub patch : ℕ → Table → Table → List Bool → Table
patch w T R p = outside p T ++ aggregate w R p (above p T 0) T
