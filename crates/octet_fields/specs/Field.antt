-- A field is read from the beginning of the octets: its value and the octets after it, or the fault of the place where it is cut.
use Rattle.std.specs.Prelude.{ℕ, zero, suc, Bool, true, List, [], ◌∷◌, ◌++◌, length, take, drop, Result, Ok, Err, nat_lt, ◌==◌, if◌then◌else◌}
use Rattle.table_model.specs.Bits.{number}

infixl 10 ◌>>=◌
abbrev pub ◌>>=◌ : {A B F : Type 0} → Result A F → (A → Result B F) → Result B F
(Ok x) >>= f = f x
(Err e) >>= f = Err e

-- a fault if the test is true
abbrev pub refuse : {F : Type 0} → F → Bool → Result Bool F
refuse fault test = if test then Err fault else Ok true

-- one octet
abbrev pub octet_at : {F : Type 0} → F → List ℕ → Result (ℕ × List ℕ) F
octet_at fault [] = Err fault
octet_at fault (b ∷ octets) = Ok (b, octets)

-- n octets
abbrev pub octets_at : {F : Type 0} → F → ℕ → List ℕ → Result (List ℕ × List ℕ) F
octets_at fault n octets = if nat_lt (length octets) n then Err fault else Ok (take n octets, drop n octets)

-- a number of n octets, the highest first (RFC 6396, 2; RFC 4271, 4)
abbrev pub number_at : {F : Type 0} → F → ℕ → List ℕ → Result (ℕ × List ℕ) F
number_at fault n octets = if nat_lt (length octets) n then Err fault else Ok (number (take n octets), drop n octets)

-- a value, if no octet is left after it
abbrev pub all_read : {A F : Type 0} → F → A × List ℕ → Result A F
all_read fault read = if length read.1 == 0 then Ok read.0 else Err fault

-- one more value at the end of those before it
abbrev pub one_more : {A F : Type 0} → (List ℕ → Result (A × List ℕ) F) → List A → List ℕ → Result (List A × List ℕ) F
one_more item front octets = item octets >>= λ x. Ok (front ++ x.0 ∷ [], x.1)

-- n steps, each from what the one before it left
unfoldable pub times : {S F : Type 0} → (S → List ℕ → Result (S × List ℕ) F) → ℕ → S → List ℕ → Result (S × List ℕ) F
times step zero s octets = Ok (s, octets)
times step (suc n) s octets = step s octets >>= λ x. times step n x.0 x.1

-- at most n steps, until no octet is left
unfoldable pub steps : {S F : Type 0} → (S → List ℕ → Result (S × List ℕ) F) → ℕ → S → List ℕ → Result S F
steps step n s [] = Ok s
steps step zero s (b ∷ octets) = Ok s
steps step (suc n) s (b ∷ octets) = step s (b ∷ octets) >>= λ x. steps step n x.0 x.1

-- steps until no octet is left; each takes at least one octet
abbrev pub until_end : {S F : Type 0} → (S → List ℕ → Result (S × List ℕ) F) → S → List ℕ → Result S F
until_end step s octets = steps step (length octets) s octets
