-- Rows with their slots: a slot's place implies its row.
use Rattle.std.specs.Prelude.{◌≡◌, ◌-◌, ◌≤◌, ◌<◌, ◌^◌, nat_lt, ℕ, suc, List, [], ◌∷◌, Some, length, slice_get, if◌then◌else◌}
use Rattle.adj_rib_in.specs.declared.rows.Row.{Row}
use Rattle.adj_rib_in.specs.declared.slot.PathSlot.{PathSlot}
use Rattle.adj_rib_in.specs.declared.slot.RunSlot.{RunSlot}

pub record RowsAndSlots : Type 0 where
  pub items : List Row
  pub slots : List PathSlot

-- a slot without its row, and one in a row
abbrev pub rowless : PathSlot → RunSlot
rowless s = record { path = s.path; peer = s.peer; id = s.id; hop = s.hop; link = s.link }

abbrev pub in_row : ℕ → RunSlot → PathSlot
in_row r s = record { path = s.path; peer = s.peer; id = s.id; hop = s.hop; row = r; link = s.link }

-- how many rows at the head begin at the place or before it
unfoldable pub begun : List Row → ℕ → ℕ
begun [] i = 0
begun (r ∷ rows) i = if nat_lt i r.off then 0 else suc (begun rows i)

-- the row of the slot at a place: the last one that begins there or before
abbrev pub row_at : List Row → ℕ → ℕ
row_at rows i = begun rows i - 1

-- slots from a place on, each with its row
unfoldable pub placed_from : List Row → ℕ → List RunSlot → List PathSlot
placed_from rows i [] = []
placed_from rows i (s ∷ slots) = in_row (row_at rows i) s ∷ placed_from rows (suc i) slots

-- no row begins before the one before it
abbrev pub AreRising : List Row → Type 0
AreRising rows = (i j : ℕ) (r t : Row) → i < j → slice_get rows i ≡ Some r → slice_get rows j ≡ Some t → r.off ≤ t.off

-- rows begin in their order, at slots that are there or at the end; their numbers have 32 bits
pub record AreSlotRuns (rows : List Row) (end : ℕ) : Type 0 where
  pub rising : AreRising rows
  pub within : (i : ℕ) (r : Row) → slice_get rows i ≡ Some r → r.off ≤ end
  pub few : length rows < 2 ^ 32
