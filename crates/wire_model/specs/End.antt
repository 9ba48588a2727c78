-- Reading to the end of the octets.
use Rattle.std.specs.Prelude.{◌≡◌, ℕ, ◌<◌, List, [], length, Result, Ok}
use Rattle.octet_fields.specs.Field.{◌>>=◌, until_end}

-- To read to the end is nothing if no octet is left, and else to take a step and to read to the end what it left. Each step takes an octet at least: so nothing is left over.
pub record ReadsToEnd {S F : Type 0} (step : S → List ℕ → Result (S × List ℕ) F) : Type 0 where
  pub ends : (s : S) → until_end step s [] ≡ Ok s
  pub goes_on : (s : S) (octets : List ℕ) → 0 < length octets → until_end step s octets ≡ (step s octets >>= λ x. until_end step x.0 x.1)
  pub takes : (s next : S) (octets left : List ℕ) → step s octets ≡ Ok (next, left) → length left < length octets
