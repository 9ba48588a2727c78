-- What a clause sees of attributes.
use Rattle.std.specs.Prelude.{ℕ, List, ◌∷◌, length, nat_lt, if◌then◌else◌}
use Rattle.wire_model.specs.Octets.{behind_length}

-- an AS_PATH of this value
abbrev pub as_path_of : List ℕ → List ℕ
as_path_of value = if nat_lt (length value) 256 then 64 ∷ 2 ∷ length value ∷ value else 80 ∷ 2 ∷ behind_length value
