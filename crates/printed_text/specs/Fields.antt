-- The fields of a line that are left.
use Rattle.std.specs.Prelude.{◌≡◌, ◌==◌, ℕ, List, [], ◌∷◌, Option, Some, None}
use Rattle.std.specs.List.{slice_split}
use Rattle.std.specs.Borrow.{Bor}

-- the fields of what is left of a line, if anything is, with this mark between two of them
abbrev pub fields_left : ℕ → Option (Bor (List ℕ)) → List (List ℕ)
fields_left mark None = []
fields_left mark (Some text) = slice_split (λ b. b == mark) text.now

-- the first of the fields was taken, if there was one
abbrev pub TakesField : List (List ℕ) → List (List ℕ) → Option (Bor (List ℕ)) → Type 0
TakesField old new None = (old ≡ []) × (new ≡ [])
TakesField old new (Some field) = old ≡ field.now ∷ new
