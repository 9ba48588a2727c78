-- Octets that are read or written.
use Rattle.std.specs.Prelude.{◌≡◌, ℕ, ◌-◌, ◌≤◌, ◌<◌, List, ◌++◌, length, take, drop, Option, Some, IfSome}

-- the first n octets of the buffer are the octets at this place; n is 0 in a buffer that isn't empty exactly at or past the end
pub record AreAt (octets : List ℕ) (at : ℕ) (buf : List ℕ) (n : ℕ) : Type 0 where
  pub same : take n buf ≡ take n (drop at octets)
  pub within : n ≤ length octets - at
  pub ends : n ≡ 0 → 0 < length buf → length octets ≤ at

-- if old is known, new is old with the first n octets of the piece at its end
abbrev pub AddsFront : Option (List ℕ) → Option (List ℕ) → List ℕ → ℕ → Type 0
AddsFront old new piece n = IfSome old (λ octets. new ≡ Some (octets ++ take n piece))

-- if old is known, new is old with the whole piece at its end
abbrev pub Adds : Option (List ℕ) → Option (List ℕ) → List ℕ → Type 0
Adds old new piece = IfSome old (λ octets. new ≡ Some (octets ++ piece))

-- if old is known, new is old with the first n octets of the piece, for some n, at its end
abbrev pub AddsSome : Option (List ℕ) → Option (List ℕ) → List ℕ → Type 0
AddsSome old new piece = (n : ℕ) × AddsFront old new piece n
