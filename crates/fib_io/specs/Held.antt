-- What is held in memory under a name.
use Rattle.std.specs.Prelude.{ℕ, List, Option, option_map}
use Rattle.std.specs.List.{find}
use Rattle.std.specs.Str.{bytes_eq}
use Rattle.std.specs.String.{string_bytes}
use Rattle.std.specs.declared.string.String.{String}
use Rattle.std.specs.declared.vec.Vec.{Vec}

-- the octets of the first pair with this name, if there is one
abbrev pub held_under : {A : Type 0} → List (String A × Vec ℕ A) → List ℕ → Option (List ℕ)
held_under pairs name = option_map (λ pair. pair.1.items) (find (λ pair. bytes_eq (string_bytes pair.0) name) pairs)
