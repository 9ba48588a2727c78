-- How far the rows are read.
use Rattle.std.specs.Prelude.{◌≡◌, ℕ, ◌+◌, List, [], ◌∷◌, ◌++◌, Option, Some, None, fold, map}
use Rattle.table_model.specs.Address.{Prefix}
use Rattle.table_model.specs.declared.family.Family.{Family}
use Rattle.table_model.specs.Entries.{Entries}
use Rattle.cert_model.specs.Rows.{CertRow, leaf_row, join_row, bound_row}
use Rattle.cert_check.specs.Runs.{RunsTell}
use Rattle.fib_addr.specs.Views.{prefix_as, entry_as}
use Rattle.moves_model.specs.Demands.{old_at, none_below}
use Rattle.moves_model.specs.Demands.{Demand as ModelDemand}
use Rattle.moves_model.specs.Verdict.{NoMoves, no_row_more, wrong_moves_row}
use Rattle.moves_check.specs.declared.rows.Demand.{Demand}
use Rattle.moves_check.specs.declared.rows.Against.{Against}
use Rattle.fib_moves.specs.Views.{SameAllowed, allowed_as}

abbrev pub demand_as : Demand → ModelDemand
demand_as i = record { prefix = prefix_as i.prefix; hops = allowed_as i.hops; k = i.k }

-- the stack, its top first
abbrev pub demands_as : List Demand → List ModelDemand
demands_as items = fold (λ st i. demand_as i ∷ st) [] items

abbrev pub SameDemand : ModelDemand → ModelDemand → Type 0
SameDemand i j = (i.prefix ≡ j.prefix) × SameAllowed i.hops j.hops × (i.k ≡ j.k)

-- the runs are those of the routes R, and lookups among the old entries say what they would of T
pub record IsAsked (a : Against) (R T : Entries) : Type 0 where
  pub runs : RunsTell a.family R a.runs.now
  pub hops : (p : Prefix) → old_at (map entry_as a.old.now) p ≡ old_at T p
  pub below : (p : Prefix) → none_below (map entry_as a.old.now) p ≡ none_below T p

-- what is wrong with the rest of the rows: the first that is, or after the bound any row
abbrev pub wrong_in_rest : Entries → Entries → Family → Option ℕ → List CertRow → List ModelDemand → ℕ → Option NoMoves
wrong_in_rest R T f None rows st n = wrong_moves_row R T f rows st n
wrong_in_rest R T f (Some b) rows st n = no_row_more rows n

-- the row was read: nothing is wrong with it, and the rest is read on; or this is
abbrev pub MovesRowRead : Entries → Entries → Family → CertRow → ℕ → Option ℕ → List ModelDemand → Option ℕ → List ModelDemand → Option NoMoves → Type 0
MovesRowRead R T f row n bound st bound' st' None = (rows : List CertRow) → wrong_in_rest R T f bound (row ∷ rows) st n ≡ wrong_in_rest R T f bound' rows st' (n + 1)
MovesRowRead R T f row n bound st bound' st' (Some x) = (rows : List CertRow) → wrong_in_rest R T f bound (row ∷ rows) st n ≡ Some x

-- the bound that was read, if one was, is that of the row
abbrev pub IsNumberOf : CertRow → Option ℕ → Type 0
IsNumberOf row None = Unit {0}
IsNumberOf (bound_row f m) (Some b) = b ≡ m
IsNumberOf (leaf_row p h) (Some b) = ⊥
IsNumberOf (join_row p k) (Some b) = ⊥

-- the top was taken from the stack, if it wasn't empty
abbrev pub TakenOff : List ModelDemand → List ModelDemand → Option ModelDemand → Type 0
TakenOff st st' None = (st ≡ []) × (st' ≡ [])
TakenOff st st' (Some i) = st ≡ i ∷ st'

-- the last of the rows is the bound that was read
abbrev pub EndsWithBound : List CertRow → Option ℕ → Type 0
EndsWithBound rows None = ⊥
EndsWithBound rows (Some b) = (front : List CertRow) × (g : Family) × (rows ≡ front ++ (bound_row g b ∷ []))
