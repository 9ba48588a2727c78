-- One octet is a number.
use Rattle.std.proofs.Common.{ltb, false, ◌≡◌, ℕ, List, [], ◌∷◌, length, take, Ok, ◌∙◌, arith}
use Rattle.std.proofs.lemmas.Bool.{le-ltb}
use Rattle.table_model.specs.Bits.{number}
use Rattle.octet_fields.specs.Field.{octet_at, number_at}
use Rattle.octet_fields.proofs.Numbers.{number_of_front}

pub number_octet : {F : Type 0} (fault : F) (octets : List ℕ) (x : ℕ) (rest : List ℕ) → octet_at fault octets ≡ Ok (x, rest) → number_at fault 1 octets ≡ Ok (x, rest)
number_octet fault [] x rest h = absurd cc
number_octet fault (b ∷ octets) x rest h =
    let e : number (take 1 (b ∷ octets)) ≡ b = number_of_front 1 (b ∷ octets) (omega arith) ∙ omega arith in
    let le : ltb (length (b ∷ octets)) 1 ≡ false = le-ltb (length (b ∷ octets)) 1 (omega arith) in
    rw (le, e) h
