-- A path of sequences of one AS number is read as that path.
use Rattle.std.proofs.Common.{◌≡◌, ℕ, zero, suc, ◌+◌, ◌*◌, ◌/◌, ◌%◌, ◌^◌, ◌<◌, ◌≤◌, Bool, true, false, List, [], ◌++◌, length, replicate, Result, Ok, refl, sym, ap, ◌∙◌, subst, append_assoc, append-nil, length-append, arith}
use Rattle.std.specs.Prelude.{flat_map, ◌==◌, if◌then◌else◌}
use Rattle.std.proofs.lemmas.Bool.{eqb-true, eqb-false, ne_eqb}
use Rattle.octet_fields.specs.Field.{until_end}
use Rattle.octet_fields.proofs.Steps.{Left, left_at_start, left_after, left_at_end}
use Rattle.wire_model.specs.declared.rule.Rule.{Rule}
use Rattle.wire_model.specs.declared.rule.Rule.TheVariants.{AttributeValue}
use Rattle.wire_model.specs.Path.{Path, no_path, segment_at, path_of}
use Rattle.wire_model.specs.Octets.{number_octets, as_path_octets, repeated_path}
use Rattle.wire_model.proofs.Fields.{octets_read}
use Rattle.wire_model.proofs.Attributes.{length-repeated, length-as_path, sequence_origin}
use Rattle.mrt_write.specs.Entries.{path_octets}

-- one sequence
sequence_read : (asn k so_far : ℕ) (rest : List ℕ) → asn < 2 ^ 32 → 0 < k → segment_at 4 (repeated_path asn so_far) (as_path_octets asn k ++ rest) ≡ Ok (repeated_path asn (so_far + k), rest)
unfolding segment_at as_path_octets
sequence_read asn k so_far rest fits some =
    let numbers = flat_map (number_octets 4) (replicate k asn) in
    let here : (k == 0) ≡ false = ne_eqb k 0 (omega arith) in
    let there : (so_far + k == 0) ≡ false = ne_eqb (so_far + k) 0 (omega arith) in
    rw (octets_read AttributeValue (k * 4) numbers rest (length-repeated asn k), sequence_origin asn k fits, here, there) refl

sequence_shorter : (asn k : ℕ) (rest : List ℕ) → length rest < length (as_path_octets asn k ++ rest)
sequence_shorter asn k rest = omega (arith, length-append (as_path_octets asn k) rest, length-as_path asn k)

abbrev sequences : ℕ → ℕ → List ℕ
sequences asn m = flat_map (as_path_octets asn) (replicate m 255)

-- so many of 255
sequences_read : (asn m so_far : ℕ) (rest : List ℕ) (total : Result Path Rule) → asn < 2 ^ 32 → Left (segment_at 4) (repeated_path asn so_far) (sequences asn m ++ rest) total → Left (segment_at 4) (repeated_path asn (so_far + m * 255)) rest total
sequences_read asn zero so_far rest total fits l = let n : so_far ≡ so_far + 0 * 255 = omega arith in subst (λ k. Left (segment_at 4) (repeated_path asn k) rest total) n l
sequences_read asn (suc m) so_far rest total fits l =
    let first = as_path_octets asn 255 in
    let more = sequences asn m ++ rest in
    let l' = subst (λ xs. Left (segment_at 4) (repeated_path asn so_far) xs total) (append_assoc first (sequences asn m) rest) l in
    let one = left_after (segment_at 4) (repeated_path asn so_far) (repeated_path asn (so_far + 255)) (first ++ more) more total (sequence_read asn 255 so_far more fits (omega arith)) (sequence_shorter asn 255 more) l' in
    let n : so_far + 255 + m * 255 ≡ so_far + suc m * 255 = omega arith in
    subst (λ k. Left (segment_at 4) (repeated_path asn k) rest total) n (sequences_read asn m (so_far + 255) rest total fits one)

split : (n : ℕ) → 0 + n / 255 * 255 + n % 255 ≡ n
split n = omega arith

pub path_read : (asn n : ℕ) → asn < 2 ^ 32 → path_of 4 (path_octets asn n) ≡ Ok (repeated_path asn n)
unfolding path_of path_octets
path_read asn n fits = by_rest (n % 255 == 0) refl
  where
    by_rest : (b : Bool) → (n % 255 == 0) ≡ b → until_end (segment_at 4) no_path (sequences asn (n / 255) ++ (if b then [] else as_path_octets asn (n % 255))) ≡ Ok (repeated_path asn n)
    by_rest true e =
        let octets = sequences asn (n / 255) ++ [] in
        let total = until_end (segment_at 4) no_path octets in
        let all = sequences_read asn (n / 255) 0 [] total fits (left_at_start (segment_at 4) no_path octets) in
        let none : n % 255 ≡ 0 = eqb-true (n % 255) 0 e in
        let k : 0 + n / 255 * 255 ≡ n = omega (arith, split n) in
        left_at_end (segment_at 4) (repeated_path asn (0 + n / 255 * 255)) [] total refl all ∙ ap (λ j. Ok (repeated_path asn j)) k
    by_rest false e =
        let last = as_path_octets asn (n % 255) in
        let octets = sequences asn (n / 255) ++ last in
        let total = until_end (segment_at 4) no_path octets in
        let all = sequences_read asn (n / 255) 0 last total fits (left_at_start (segment_at 4) no_path octets) in
        let so_far = repeated_path asn (0 + n / 255 * 255) in
        let next = repeated_path asn (0 + n / 255 * 255 + n % 255) in
        let some : 0 < n % 255 = omega (arith, eqb-false (n % 255) 0 e) in
        let read : segment_at 4 so_far last ≡ Ok (next, []) = ap (segment_at 4 so_far) (sym (append-nil last)) ∙ sequence_read asn (n % 255) (0 + n / 255 * 255) [] fits some in
        let one = left_after (segment_at 4) so_far next last [] total read (omega (arith, length-as_path asn (n % 255))) all in
        left_at_end (segment_at 4) next [] total refl one ∙ ap (λ j. Ok (repeated_path asn j)) (split n)

length-sequences : (asn m : ℕ) → length (sequences asn m) ≡ 1022 * m
length-sequences asn zero = refl
length-sequences asn (suc m) = omega (arith, length-append (as_path_octets asn 255) (sequences asn m), length-as_path asn 255, length-sequences asn m)

-- a path of at most 15,000 takes at most 60,118 octets
pub length-path : (asn n : ℕ) → n ≤ 15000 → length (path_octets asn n) ≤ 60118
unfolding path_octets
length-path asn n h = by_rest (n % 255 == 0) refl
  where
    by_rest : (b : Bool) → (n % 255 == 0) ≡ b → length (sequences asn (n / 255) ++ (if b then [] else as_path_octets asn (n % 255))) ≤ 60118
    by_rest true e = omega (arith, length-append (sequences asn (n / 255)) [], length-sequences asn (n / 255), split n)
    by_rest false e = omega (arith, length-append (sequences asn (n / 255)) (as_path_octets asn (n % 255)), length-sequences asn (n / 255), length-as_path asn (n % 255), split n)
