-- The rows of a run in steps.
use Rattle.std.specs.Prelude.{ℕ, ◌+◌, List, [], ◌∷◌, ◌++◌, codes, decimal, Option}
use Rattle.table_model.specs.Address.{Address}
use Rattle.table_model.specs.declared.family.Family.{Family}
use Rattle.table_model.specs.declared.family.Family.TheVariants.{V4, V6}
use Rattle.printed_text.specs.Rows.{hop_text, line}

-- What became of a step. A number is a lookup's printed one. An opened lookup got its number, or 64 of its family are open; a lookup that
-- went on was led to a node, or to its answer, a hop or none, or isn't open; an event was prepared, or waits for a lookup that holds
-- what it would need, or for the event that is begun; a store was made; an event was ended, or has stores left; was cancelled, or made
-- a store before. Nothing: no event is left or none is begun, or no store is left.
pub data StepRow : Type 0 where
  opened : ℕ → StepRow
  full : StepRow
  went_on : ℕ → StepRow
  answered : ℕ → Option Address → StepRow
  not_open : ℕ → StepRow
  prepared : StepRow
  pinned : ℕ → StepRow
  busy : StepRow
  stored : StepRow
  ended : StepRow
  left : StepRow
  cancelled : StepRow
  late : StepRow
  nothing : StepRow

-- the printed number of a lookup: numbers count from 0 in each family, and 64 is added to an IPv6 one's
abbrev pub printed_number : Family → ℕ → ℕ
printed_number V4 n = n
printed_number V6 n = n + 64

-- what follows the step's number
abbrev pub row_fields : StepRow → List (List ℕ)
row_fields (opened c) = codes "open" ∷ decimal c ∷ []
row_fields full = codes "full" ∷ []
row_fields (went_on c) = codes "on" ∷ decimal c ∷ []
row_fields (answered c hop) = codes "hop" ∷ decimal c ∷ hop_text (codes "none") hop ∷ []
row_fields (not_open c) = codes "notopen" ∷ decimal c ∷ []
row_fields prepared = codes "prepared" ∷ []
row_fields (pinned c) = codes "pinned" ∷ decimal c ∷ []
row_fields busy = codes "busy" ∷ []
row_fields stored = codes "stored" ∷ []
row_fields ended = codes "ended" ∷ []
row_fields left = codes "left" ∷ []
row_fields cancelled = codes "cancelled" ∷ []
row_fields late = codes "late" ∷ []
row_fields nothing = codes "nothing" ∷ []

-- the line of the step of this number
abbrev pub row_line : ℕ → StepRow → List ℕ
row_line n row = line (codes "step" ∷ decimal n ∷ row_fields row)

-- the lines of steps that are numbered from n
unfoldable pub rows_text : ℕ → List StepRow → List ℕ
rows_text n [] = []
rows_text n (row ∷ rows) = row_line n row ++ rows_text (n + 1) rows
