-- Parts that were put one behind the other are what they are to be.
use Rattle.std.proofs.Common.{◌≡◌, ℕ, ◌+◌, ◌-◌, ◌*◌, ◌/◌, ◌%◌, ◌^◌, ◌<◌, ◌≤◌, List, [], ◌∷◌, ◌++◌, false, length, take, replicate, refl, sym, ap, ◌∙◌, append_assoc, mod-eq_of_lt, subst, arith}
use Rattle.std.specs.Prelude.{Result, Ok, Err, OnOk}
use Rattle.std.specs.Int.{bytes_high_first}
use Rattle.std.proofs.lemmas.List.{length-take-le, length-replicate}
use Rattle.std.proofs.lemmas.Nat.{shr_split, shr_below}
use Rattle.table_model.specs.declared.family.Family.TheVariants.{V4}
use Rattle.table_model.specs.Address.{first_bits}
use Rattle.table_model.specs.Bits.{bits_of, value_of}
use Rattle.table_model.specs.Order.{filled}
use Rattle.table_model.proofs.BitLaws.{length-bits_of, value-bits_of, value-append, value-zeros, bits_take}
use Rattle.wire_model.specs.Wire.{octets_for}
use Rattle.wire_model.specs.Octets.{number_octets, prefix_octets, attribute_octets, as_path_octets}
use Rattle.wire_model.proofs.Attributes.{length-as_path}

-- ---- a path

pub path_put : (before after new : List ℕ) (asn n : ℕ) → after ≡ before ++ 64 ∷ 2 ∷ (2 + 4 * n) ∷ [] → new ≡ after ++ as_path_octets asn n → new ≡ before ++ attribute_octets 2 (as_path_octets asn n)
unfolding attribute_octets
path_put before after new asn n e h =
    h ∙ (ap (λ (xs : List ℕ). xs ++ as_path_octets asn n) e ∙ (append_assoc before (64 ∷ 2 ∷ (2 + 4 * n) ∷ []) (as_path_octets asn n)
    ∙ ap (λ (k : ℕ). before ++ 64 ∷ 2 ∷ k ∷ as_path_octets asn n) (sym (length-as_path asn n))))

-- ---- a prefix

-- the least address of a prefix of an address whose other bits are cleared
filled_is : (address len : ℕ) → len ≤ 32 → address < 2 ^ 32 → address % 2 ^ (32 - len) ≡ 0 → filled (first_bits len (record { family = V4; bits = bits_of 32 address })) ≡ address
filled_is address len fits below cleared =
    let s = 32 - len in
    let bits = take len (bits_of 32 address) in
    let long : length bits ≡ len = length-take-le len (bits_of 32 address) (omega (arith, length-bits_of 32 address)) in
    let zeros = replicate (32 - length bits) false in
    let spare : length zeros ≡ s = length-replicate (32 - length bits) false ∙ ap (λ (n : ℕ). 32 - n) long in
    let whole : len + s ≡ 32 = omega arith in
    let high : address / 2 ^ s < 2 ^ len = shr_below address len s (subst (λ (n : ℕ). address < 2 ^ n) (sym whole) below) in
    let value : value_of bits ≡ address / 2 ^ s = ap value_of (bits_take 32 len address fits) ∙ (value-bits_of len (address / 2 ^ s) ∙ mod-eq_of_lt high) in
    let none : value_of zeros ≡ 0 = value-zeros (32 - length bits) in
    let split : address / 2 ^ s * 2 ^ s + address % 2 ^ s ≡ address = shr_split address s in
    let moved : value_of bits * 2 ^ length zeros ≡ address / 2 ^ s * 2 ^ s = ap (λ (n : ℕ). value_of bits * 2 ^ n) spare ∙ ap (λ (n : ℕ). n * 2 ^ s) value in
    value-append bits zeros ∙ omega arith

prefix_written : (address len : ℕ) → len ≤ 32 → address < 2 ^ 32 → address % 2 ^ (32 - len) ≡ 0 → len ∷ take (octets_for len) (bytes_high_first 4 address) ≡ prefix_octets (first_bits len (record { family = V4; bits = bits_of 32 address }))
unfolding prefix_octets number_octets
prefix_written address len fits below cleared =
    let long : length (take len (bits_of 32 address)) ≡ len = length-take-le len (bits_of 32 address) (omega (arith, length-bits_of 32 address)) in
    rw (filled_is address len fits below cleared, long) refl

pub prefix_put : (before octets : List ℕ) (address len : ℕ) → len ≤ 24 → address < 2 ^ 32 → address % 2 ^ (32 - len) ≡ 0 → octets ≡ bytes_high_first 4 address → before ++ len ∷ take (octets_for len) octets ≡ before ++ prefix_octets (first_bits len (record { family = V4; bits = bits_of 32 address }))
prefix_put before octets address len few below cleared h =
    ap (λ (xs : List ℕ). before ++ len ∷ take (octets_for len) xs) h ∙ ap (λ (xs : List ℕ). before ++ xs) (prefix_written address len (omega arith) below cleared)

-- ---- memory

-- what holds holds if there was memory
pub whenever : {X E P : Type 0} (r : Result X E) → P → OnOk r P
whenever (Ok x) p = p
whenever (Err d) p = tt
