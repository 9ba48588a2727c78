-- Marks of hops.
use Rattle.std.specs.Prelude.{◌≡◌, ℕ, ◌<◌, List, length, get_or}

-- a mark for each hop, all below the number
abbrev pub AreMarks : ℕ → List ℕ → Type 0
AreMarks n marks = (length marks ≡ 65536) × ((h : ℕ) → get_or marks h 0 < n)
