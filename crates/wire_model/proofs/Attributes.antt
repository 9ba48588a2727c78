-- What is written of a path and of an attribute is read as it.
use Rattle.std.proofs.Common.{◌≡◌, ℕ, zero, suc, ◌+◌, ◌-◌, ◌*◌, ◌^◌, ◌<◌, false, List, [], ◌∷◌, ◌++◌, length, drop, replicate, Ok, refl, ap, ◌∙◌, append-nil, length-append, zero-add, arith}
use Rattle.std.specs.Prelude.{flat_map, ◌==◌}
use Rattle.std.proofs.lemmas.Bool.{ne_eqb}
use Rattle.std.proofs.Math.Seq.{drop-append-add}
use Rattle.wire_model.specs.declared.rule.Rule.TheVariants.{AttributeCut, AttributeValue}
use Rattle.wire_model.specs.declared.place.Place.{Place}
use Rattle.wire_model.specs.Path.{Path, no_path, segment_origin, segment_at, path_of, path_length_of}
use Rattle.wire_model.specs.Attribute.{Found, with_value, is_second, attribute_at}
use Rattle.wire_model.specs.Octets.{number_octets, attribute_octets, as_path_octets, repeated_path}
use Rattle.wire_model.proofs.Fields.{length-number_octets, number-octets, octets_read, octets_all, octet_read, one_step}

-- ---- the path

pub length-repeated : (asn n : ℕ) → length (flat_map (number_octets 4) (replicate n asn)) ≡ n * 4
length-repeated asn zero = refl
length-repeated asn (suc n) = omega (arith, length-append (number_octets 4 asn) (flat_map (number_octets 4) (replicate n asn)), length-number_octets 4 asn, length-repeated asn n)

pub length-as_path : (asn n : ℕ) → length (as_path_octets asn n) ≡ 2 + 4 * n
unfolding as_path_octets
length-as_path asn n = omega (arith, length-repeated asn n)

-- the AS numbers of a sequence
abbrev numbers_of : ℕ → ℕ → List ℕ
numbers_of asn n = flat_map (number_octets 4) (replicate n asn)

last_octets : (asn n : ℕ) → drop (n * 4) (numbers_of asn (suc n)) ≡ number_octets 4 asn
last_octets asn zero = append-nil (number_octets 4 asn)
last_octets asn (suc n) =
    let first = number_octets 4 asn in
    let e : suc n * 4 ≡ length first + n * 4 = omega (arith, length-number_octets 4 asn) in
    ap (λ k. drop k (first ++ numbers_of asn (suc n))) e ∙ (drop-append-add first (numbers_of asn (suc n)) (n * 4) ∙ last_octets asn n)

-- the origin that a sequence of one AS number tells
pub sequence_origin : (asn n : ℕ) → asn < 2 ^ 32 → segment_origin 4 2 (numbers_of asn n) ≡ (repeated_path asn n).origin
sequence_origin asn zero h = refl
sequence_origin asn (suc n) h =
    let len : length (numbers_of asn (suc n)) ≡ suc n * 4 = length-repeated asn (suc n) in
    let some : (length (numbers_of asn (suc n)) == 0) ≡ false = ne_eqb _ 0 (omega arith) in
    let last : length (numbers_of asn (suc n)) - 4 ≡ n * 4 = omega arith in
    let other : (suc n == 0) ≡ false = ne_eqb (suc n) 0 (omega arith) in
    rw (some, last, last_octets asn n, number-octets 4 asn (omega arith), other) refl

-- the path of a sequence of one AS number
path_found : (asn n : ℕ) → path_of 4 (as_path_octets asn n) ≡ Ok (record { length = 0 + n; origin = segment_origin 4 2 (numbers_of asn n) })
unfolding path_of segment_at as_path_octets
path_found asn n =
    let numbers = numbers_of asn n in
    let path : Path = record { length = 0 + n; origin = segment_origin 4 2 numbers } in
    let e : segment_at 4 no_path (2 ∷ n ∷ numbers) ≡ Ok (path, []) = rw (octets_all AttributeValue (n * 4) numbers (length-repeated asn n)) refl in
    one_step (segment_at 4) no_path path (2 ∷ n ∷ numbers) (omega arith) e

pub path_long : (asn n : ℕ) → path_length_of 4 (as_path_octets asn n) ≡ Ok n
path_long asn n = rw (path_found asn n, zero-add n) refl

pub path_read : (asn n : ℕ) → asn < 2 ^ 32 → path_of 4 (as_path_octets asn n) ≡ Ok (repeated_path asn n)
path_read asn n h = rw (path_found asn n, sequence_origin asn n h, zero-add n) refl

-- ---- an attribute

-- an attribute that is no second MP attribute
pub attribute_read : (place : Place) (found next : Found) (kind : ℕ) (value rest : List ℕ) → is_second found kind ≡ false → with_value place found kind value ≡ Ok next → attribute_at place found (attribute_octets kind value ++ rest) ≡ Ok (next, rest)
unfolding attribute_at attribute_octets
attribute_read place found next kind value rest first e =
    rw (first, octet_read AttributeCut (length value) (value ++ rest), octets_read AttributeCut (length value) value rest refl, e) refl

pub length-attribute : (kind : ℕ) (value : List ℕ) → length (attribute_octets kind value) ≡ 3 + length value
unfolding attribute_octets
length-attribute kind value = omega arith

-- it has octets
pub shorter : (kind : ℕ) (value rest : List ℕ) → length rest < length (attribute_octets kind value ++ rest)
shorter kind value rest = omega (arith, length-append (attribute_octets kind value) rest, length-attribute kind value)
