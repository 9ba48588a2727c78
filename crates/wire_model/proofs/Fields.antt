-- What is written is read again: fields at the front of octets.
use Rattle.std.proofs.Common.{◌≡◌, ℕ, ◌+◌, ◌*◌, ◌%◌, ◌^◌, ◌<◌, false, List, [], ◌∷◌, ◌++◌, length, Result, Ok, refl, sym, ap, ◌∙◌, append-nil, length-append, mod-eq_of_lt, arith}
use Rattle.std.specs.Prelude.{nat_lt}
use Rattle.std.specs.Int.{bytes_high_first}
use Rattle.std.proofs.lemmas.Bool.{le-ltb}
use Rattle.std.proofs.lemmas.List.{take_at, drop_at}
use Rattle.byteorder.specs.Endian.{big_number}
use Rattle.byteorder.specs.Numbers.{length-bytes_high_first, big_from-bytes}
use Rattle.table_model.specs.Bits.{number}
use Rattle.octet_fields.specs.Field.{octets_at, number_at, until_end}
use Rattle.octet_fields.proofs.Numbers.{number_of_all}
use Rattle.octet_fields.proofs.Steps.{left_at_start, left_after, left_at_end}
use Rattle.wire_model.specs.Octets.{number_octets}

pub length-number_octets : (k n : ℕ) → length (number_octets k n) ≡ k
unfolding number_octets
length-number_octets k n = length-bytes_high_first k n

-- octets written of a number stand for it
pub number-octets : (k n : ℕ) → n < 256 ^ k → number (number_octets k n) ≡ n
unfolding number_octets
number-octets k n h =
    let octets = bytes_high_first k n in
    let read : big_number k octets ≡ n % 256 ^ k = ap (big_number k) (sym (append-nil octets)) ∙ big_from-bytes k n [] in
    number_of_all k octets (length-bytes_high_first k n) ∙ (read ∙ mod-eq_of_lt h)

-- ---- fields

pub octets_read : {F : Type 0} (fault : F) (n : ℕ) (xs rest : List ℕ) → length xs ≡ n → octets_at fault n (xs ++ rest) ≡ Ok (xs, rest)
octets_read fault n xs rest e =
    let long : nat_lt (length (xs ++ rest)) n ≡ false = le-ltb _ _ (omega (arith, length-append xs rest)) in
    rw (long, take_at xs rest n e, drop_at xs rest n e) refl

pub octets_all : {F : Type 0} (fault : F) (n : ℕ) (xs : List ℕ) → length xs ≡ n → octets_at fault n xs ≡ Ok (xs, [])
octets_all fault n xs e = ap (octets_at fault n) (sym (append-nil xs)) ∙ octets_read fault n xs [] e

pub number_read : {F : Type 0} (fault : F) (k n : ℕ) (rest : List ℕ) → n < 256 ^ k → number_at fault k (number_octets k n ++ rest) ≡ Ok (n, rest)
number_read fault k n rest h =
    let xs = number_octets k n in
    let e : length xs ≡ k = length-number_octets k n in
    let long : nat_lt (length (xs ++ rest)) k ≡ false = le-ltb _ _ (omega (arith, length-append xs rest)) in
    rw (long, take_at xs rest k e, drop_at xs rest k e, number-octets k n h) refl

-- an octet is a number of one octet
pub octet_read : {F : Type 0} (fault : F) (n : ℕ) (rest : List ℕ) → number_at fault 1 (n ∷ rest) ≡ Ok (n, rest)
unfolding number
octet_read fault n rest =
    let long : nat_lt (length (n ∷ rest)) 1 ≡ false = le-ltb _ _ (omega arith) in
    let same : n * 256 ^ 0 + 0 ≡ n = omega arith in
    rw (long, same) refl

-- no octets are the number 0
pub nothing_read : {F : Type 0} (fault : F) (octets : List ℕ) → number_at fault 0 octets ≡ Ok (0, octets)
unfolding number
nothing_read fault octets =
    let long : nat_lt (length octets) 0 ≡ false = le-ltb _ _ (omega arith) in
    rw long refl

pub no_octets_read : {F : Type 0} (fault : F) (octets : List ℕ) → octets_at fault 0 octets ≡ Ok ([], octets)
no_octets_read fault octets = octets_read fault 0 [] octets refl

-- ---- steps to the end

-- one step that leaves nothing
pub one_step : {S F : Type 0} (step : S → List ℕ → Result (S × List ℕ) F) (s next : S) (octets : List ℕ) → 0 < length octets → step s octets ≡ Ok (next, []) → until_end step s octets ≡ Ok next
one_step step s next octets some e =
    left_at_end step next [] (until_end step s octets) refl (left_after step s next octets [] (until_end step s octets) e (omega arith) (left_at_start step s octets))
