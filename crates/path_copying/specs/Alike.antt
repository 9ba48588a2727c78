-- Regions whose addresses get the same answers.
use Rattle.std.specs.Prelude.{◌≡◌, ℕ, List, Bool, length}

-- every address of d more bits gets the same from both
abbrev pub SameAnswers : ℕ → (List Bool → ℕ) → (List Bool → ℕ) → Type 0
SameAnswers d f g = (a : List Bool) → length a ≡ d → f a ≡ g a
