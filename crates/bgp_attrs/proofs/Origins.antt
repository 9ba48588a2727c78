-- The origin that a path's last segment tells.
use Rattle.std.proofs.Common.{◌≡◌, ℕ, ◌-◌, ◌*◌, ◌<◌, ◌≤◌, Bool, true, false, List, length, take, drop, Some, refl, sym, ap, ◌∙◌, arith}
use Rattle.std.specs.Prelude.{◌==◌}
use Rattle.std.proofs.lemmas.Bool.{ne_eqb}
use Rattle.std.proofs.lemmas.List.{take_all, length-drop}
use Rattle.byteorder.specs.Endian.{big_number}
use Rattle.table_model.specs.Bits.{number}
use Rattle.octet_fields.proofs.Numbers.{number_of_all}
use Rattle.wire_model.specs.Path.{as_size, segment_origin}

-- the last AS number of a sequence, which byteorder read of as many octets as it has
sequence_origin : (size kind : ℕ) (numbers : List ℕ) (x : ℕ) → kind ≡ 2 → 0 < size → size ≤ length numbers
    → x ≡ big_number size (take (length numbers - (length numbers - size)) (drop (length numbers - size) numbers)) → Some x ≡ segment_origin size kind numbers
sequence_origin size kind numbers x two some enough e =
    let last = drop (length numbers - size) numbers in
    let long : length last ≡ size = omega (arith, length-drop (length numbers - size) numbers) in
    let all : take (length numbers - (length numbers - size)) last ≡ last = take_all (length numbers - (length numbers - size)) last (omega arith) in
    let same : x ≡ number last = e ∙ (ap (big_number size) all ∙ sym (number_of_all size last long)) in
    let full : (length numbers == 0) ≡ false = ne_eqb (length numbers) 0 (omega arith) in
    rw (two, full, same) refl

-- of four octets
pub wide_origin : (kind count : ℕ) (wide : Bool) (numbers : List ℕ) (x : ℕ) → kind ≡ 2 → 0 < count → wide ≡ true → length numbers ≡ count * as_size wide
    → x ≡ big_number 4 (take (length numbers - (length numbers - 4)) (drop (length numbers - 4) numbers)) → Some x ≡ segment_origin (as_size wide) kind numbers
wide_origin kind count true numbers x two some e len h = sequence_origin 4 kind numbers x two (omega arith) (omega arith) h
wide_origin kind count false numbers x two some e len h = absurd cc

-- of two
pub narrow_origin : (kind count : ℕ) (wide : Bool) (numbers : List ℕ) (x : ℕ) → kind ≡ 2 → 0 < count → wide ≡ false → length numbers ≡ count * as_size wide
    → x ≡ big_number 2 (take (length numbers - (length numbers - 2)) (drop (length numbers - 2) numbers)) → Some x ≡ segment_origin (as_size wide) kind numbers
narrow_origin kind count true numbers x two some e len h = absurd cc
narrow_origin kind count false numbers x two some e len h = sequence_origin 2 kind numbers x two (omega arith) (omega arith) h
