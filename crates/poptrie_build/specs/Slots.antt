-- What the slots of a region are said to be.
use Rattle.std.specs.Prelude.{◌≡◌, ℕ, ◌-◌, ◌^◌, ◌<◌, List, Bool, Option, None, take, slice_index_or}
use Rattle.table_model.specs.Bits.{bits_of}
use Rattle.fib_addr.specs.Answers.{one_answer, part}

-- the one answer of each part of a region of d more bits with the answers f, of the parts that j of these bits tell apart; if
-- fewer than j follow, several parts are one address
abbrev pub AreSlots : ℕ → ℕ → (List Bool → ℕ) → List (Option ℕ) → Type 0
AreSlots j d f kinds = (v : ℕ) → v < 2 ^ j → slice_index_or kinds v None ≡ one_answer (d - j) (part (take d (bits_of j v)) f)
