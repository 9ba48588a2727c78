-- A number of no octets.
use Rattle.std.proofs.Common.{◌≡◌, refl, ℕ, false, List, length, ltb, Ok, arith}
use Rattle.std.proofs.lemmas.Bool.{le-ltb}
use Rattle.table_model.specs.Bits.{number}
use Rattle.octet_fields.specs.Field.{number_at}

pub no_octets : {F : Type 0} (fault : F) (bytes : List ℕ) → number_at fault 0 bytes ≡ Ok (0, bytes)
unfolding number
no_octets fault bytes = let some : ltb (length bytes) 0 ≡ false = le-ltb (length bytes) 0 (omega arith) in rw some refl
