-- The bits of an address in a number of 128 bits, and what a lookup takes of them.
use Rattle.std.proofs.Common.{◌≡◌, ℕ, zero, suc, ◌+◌, ◌-◌, ◌*◌, ◌/◌, ◌%◌, ◌^◌, ◌<◌, ◌≤◌, List, [], ◌∷◌, ◌++◌, Bool, false, length, take, drop, replicate, refl, sym, ap, ◌∙◌, arith, subst, mod-eq_of_lt}
use Rattle.std.proofs.lemmas.Nat.{shr_below, pow_pos}
use Rattle.std.proofs.Math.Nat.{mul-mod_left}
use Rattle.std.proofs.lemmas.List.{length-drop}
use Rattle.std.proofs.Math.Seq.{drop-append_seam}
use Rattle.table_model.specs.Bits.{bits_of, value_of}
use Rattle.table_model.specs.Width.{width}
use Rattle.table_model.specs.declared.family.Family.{Family}
use Rattle.table_model.specs.declared.family.Family.TheVariants.{V4, V6}
use Rattle.table_model.proofs.BitLaws.{value-bits_of, value-lt, value-zeros, bits_from_value}
use Rattle.fib_addr.specs.declared.addr.Addr.{Addr}
use Rattle.fib_addr.specs.Views.{addr_as}
use Rattle.poptrie_build.specs.Keys.{key_as}
use Rattle.poptrie_build.proofs.Address.{length_bits, bits_cat, bits_mod, shl_mod, shl_shr}
use Rattle.poptrie_build.specs.Tries.{rest}
use Rattle.poptrie_build.proofs.Bits.{bits_take, short}
use Rattle.poptrie_build.proofs.Filled.{at_most_128}
use Rattle.fib_addr.proofs.GroupLaws.{same_number}
use Rattle.poptrie_set.specs.First.{slot_of}
use Rattle.poptrie_set.specs.Reading.{IsKeyOf, next_slot, bits_after}

-- ---- bits with zeros behind them
drop_zeros : (n z : ℕ) → (m : ℕ) × (drop n (replicate z false) ≡ replicate m false)
drop_zeros zero z = (z, refl)
drop_zeros (suc n) zero = (0, refl)
drop_zeros (suc n) (suc z) = drop_zeros n z

drop_filled : (n z : ℕ) (b : List Bool) → (m : ℕ) × (drop n (b ++ replicate z false) ≡ drop n b ++ replicate m false)
drop_filled zero z b = (z, refl)
drop_filled (suc n) z [] = drop_zeros (suc n) z
drop_filled (suc n) z (x ∷ b) = drop_filled n z b

take_zeros : (n y z : ℕ) → n ≤ y → n ≤ z → take n (replicate y false) ≡ take n (replicate z false)
take_zeros zero y z h g = refl
take_zeros (suc n) zero z h g = absurd (omega arith)
take_zeros (suc n) (suc y) zero h g = absurd (omega arith)
take_zeros (suc n) (suc y) (suc z) h g = ap (λ l. false ∷ l) (take_zeros n y z (omega arith) (omega arith))

take_filled : (n y z : ℕ) (b : List Bool) → n ≤ length b + y → n ≤ length b + z → take n (b ++ replicate y false) ≡ take n (b ++ replicate z false)
take_filled zero y z b h g = refl
take_filled (suc n) y z [] h g = take_zeros (suc n) y z (omega arith) (omega arith)
take_filled (suc n) y z (x ∷ b) h g = ap (λ l. x ∷ l) (take_filled n y z b (omega arith) (omega arith))

append_zeros : (y z : ℕ) (b : List Bool) → (b ++ replicate y false) ++ replicate z false ≡ b ++ replicate (y + z) false
append_zeros y z (x ∷ b) = ap (λ l. x ∷ l) (append_zeros y z b)
append_zeros zero z [] = let e : zero + z ≡ z = omega arith in ap (λ n. replicate n false) (sym e)
append_zeros (suc y) z [] = let e : suc y + z ≡ suc (y + z) = omega arith in ap (λ l. false ∷ l) (append_zeros y z []) ∙ ap (λ n. replicate n false) (sym e)

length_filled : (b : List Bool) (z : ℕ) → length (b ++ replicate z false) ≡ length b + z
length_filled (x ∷ b) z = let e : suc (length b) + z ≡ suc (length b + z) = omega arith in ap suc (length_filled b z) ∙ sym e
length_filled [] zero = refl
length_filled [] (suc z) = let e : suc (0 + z) ≡ 0 + suc z = omega arith in ap suc (length_filled [] z) ∙ e

zero_bits : (k : ℕ) → bits_of k 0 ≡ replicate k false
zero_bits k =
    let l : length (replicate k false) ≡ k = length_filled [] k ∙ omega arith in
    bits_from_value (bits_of k 0) (replicate k false) (length_bits k 0 ∙ sym l) (value-bits_of k 0 ∙ (mod-eq_of_lt (pow_pos k) ∙ sym (value-zeros k)))

-- ---- a number moved up: the bits behind its first ones, and zeros
shifted_bits : (j m key : ℕ) → bits_of (m + j) (key * 2 ^ j % 2 ^ (m + j)) ≡ bits_of m key ++ replicate j false
shifted_bits j m key =
    let n = key * 2 ^ j % 2 ^ (m + j) in
    let low : n % 2 ^ j ≡ 0 = ap (λ x. x % 2 ^ j) (shl_mod j m key) ∙ mul-mod_left (key % 2 ^ m) (2 ^ j) in
    bits_cat m j n
    ∙ (ap (λ x. bits_of m x ++ bits_of j n) (shl_shr j m key)
    ∙ (ap (λ l. l ++ bits_of j n) (bits_mod m key m (omega arith))
    ∙ (ap (λ l. bits_of m key ++ l) (sym (bits_mod j n j (omega arith)))
    ∙ (ap (λ x. bits_of m key ++ bits_of j x) low
    ∙ ap (λ l. bits_of m key ++ l) (zero_bits j)))))

behind_bits : (j m key : ℕ) → drop j (bits_of (j + m) key) ≡ bits_of m key
behind_bits j m key =
    let x = bits_of j (key / 2 ^ m) in
    ap (drop j) (bits_cat j m key) ∙ (ap (λ n. drop n (x ++ bits_of m key)) (sym (length_bits j (key / 2 ^ m))) ∙ drop-append_seam x (bits_of m key))

moved : (w j m key : ℕ) → j + m ≡ w → bits_of w (key * 2 ^ j % 2 ^ w) ≡ drop j (bits_of w key) ++ replicate j false
moved w j m key e =
    let f : m + j ≡ w = omega arith in
    ap (λ n. bits_of n (key * 2 ^ j % 2 ^ n)) (sym f)
    ∙ (shifted_bits j m key
    ∙ (ap (λ l. l ++ replicate j false) (sym (behind_bits j m key))
    ∙ ap (λ n. drop j (bits_of n key) ++ replicate j false) e))

pub key_moved : (key j : ℕ) (bits : List Bool) → j ≤ 128 → IsKeyOf key bits → IsKeyOf (key * 2 ^ j % 2 ^ 128) (drop j bits)
key_moved key j bits h k =
    let d = drop_filled j k.0 bits in
    (d.0 + j, moved 128 j (128 - j) key (omega arith) ∙ (ap (λ l. drop j l ++ replicate j false) k.1 ∙ (ap (λ l. l ++ replicate j false) d.1 ∙ append_zeros d.0 j (drop j bits))))

-- ---- the key of an address
key_from : (w j bits : ℕ) → w + j ≡ 128 → bits_of 128 (bits * 2 ^ j % 2 ^ 128) ≡ bits_of w bits ++ replicate j false
key_from w j bits e = ap (λ n. bits_of n (bits * 2 ^ j % 2 ^ n)) (sym e) ∙ shifted_bits j w bits

pub key_of_address : (a : Addr) → IsKeyOf (key_as a) (addr_as a).bits
key_of_address a = (128 - width a.family, key_from (width a.family) (128 - width a.family) a.bits (omega (arith, at_most_128 a.family)))

pub key_of_rest : (a : Addr) (s stride : ℕ) → s + 6 * stride ≤ 128 → IsKeyOf (key_as a * 2 ^ (s + 6 * stride) % 2 ^ 128) (bits_after s stride a)
key_of_rest a s stride h = key_moved (key_as a) (s + 6 * stride) (addr_as a).bits h (key_of_address a)

-- ---- the slot that bits lead to
-- the six bits that are looked at
pub slot_bits_are : (key : ℕ) (bits : List Bool) → IsKeyOf key bits → bits_of 6 (key / 2 ^ 122) ≡ take 6 (bits ++ replicate 6 false)
slot_bits_are key bits k =
    let l : 128 ≡ length bits + k.0 = sym (length_bits 128 key) ∙ (ap length k.1 ∙ length_filled bits k.0) in
    sym (bits_take 128 6 key (omega arith)) ∙ (ap (take 6) k.1 ∙ take_filled 6 k.0 6 bits (omega arith) (omega arith))

pub slot_is : (key : ℕ) (bits : List Bool) → key < 2 ^ 128 → IsKeyOf key bits → next_slot bits ≡ key / 2 ^ 122
unfolding next_slot
slot_is key bits small k = sym (ap value_of (slot_bits_are key bits k)) ∙ (value-bits_of 6 (key / 2 ^ 122) ∙ mod-eq_of_lt (shr_below key 6 122 small))

take_length : (n : ℕ) (l : List Bool) → n ≤ length l → length (take n l) ≡ n
take_length zero l h = refl
take_length (suc n) [] h = absurd (omega arith)
take_length (suc n) (x ∷ l) h = ap suc (take_length n l (omega arith))

-- the bits of the slot
pub next_bits : (bits : List Bool) → bits_of 6 (next_slot bits) ≡ take 6 (bits ++ replicate 6 false)
unfolding next_slot
next_bits bits =
    let six = take 6 (bits ++ replicate 6 false) in
    let l : length six ≡ 6 = take_length 6 (bits ++ replicate 6 false) (subst (λ (n : ℕ). 6 ≤ n) (sym (length_filled bits 6)) (omega arith)) in
    let v : value_of six < 2 ^ 6 = subst (λ (n : ℕ). value_of six < 2 ^ n) l (value-lt six) in
    bits_from_value (bits_of 6 (value_of six)) six (length_bits 6 (value_of six) ∙ sym l) (value-bits_of 6 (value_of six) ∙ mod-eq_of_lt v)

pub next_small : (bits : List Bool) → next_slot bits < 64
unfolding next_slot
next_small bits =
    let six = take 6 (bits ++ replicate 6 false) in
    let l : length six ≡ 6 = take_length 6 (bits ++ replicate 6 false) (subst (λ (n : ℕ). 6 ≤ n) (sym (length_filled bits 6)) (omega arith)) in
    subst (λ (n : ℕ). value_of six < 2 ^ n) l (value-lt six)

-- of which those past the last bit aren't looked at
take_first : (n z : ℕ) (b : List Bool) → take (length b) (take n (b ++ replicate z false)) ≡ take n b
take_first zero z [] = refl
take_first zero z (x ∷ b) = refl
take_first (suc n) z [] = refl
take_first (suc n) z (x ∷ b) = ap (λ l. x ∷ l) (take_first n z b)

pub slot_bits_next : (d : ℕ) (bits : List Bool) → length bits ≡ d → take d (bits_of 6 (next_slot bits)) ≡ take 6 bits
slot_bits_next d bits e = ap (λ n. take n (bits_of 6 (next_slot bits))) (sym e) ∙ (ap (take (length bits)) (next_bits bits) ∙ take_first 6 6 bits)

-- ---- the bits of the next stride
drop_drop : (n m : ℕ) (l : List Bool) → drop m (drop n l) ≡ drop (n + m) l
drop_drop zero m l = let e : zero + m ≡ m = omega arith in ap (λ k. drop k l) (sym e)
drop_drop (suc n) zero [] = let e : suc n + zero ≡ suc n = omega arith in ap (λ k. drop k []) (sym e)
drop_drop (suc n) (suc m) [] = let e : suc n + suc m ≡ suc (n + suc m) = omega arith in ap (λ k. drop k []) (sym e)
drop_drop (suc n) m (x ∷ l) = let e : suc n + m ≡ suc (n + m) = omega arith in drop_drop n m l ∙ ap (λ k. drop k (x ∷ l)) (sym e)

pub drop_next : (s t : ℕ) (a : Addr) → drop 6 (bits_after s t a) ≡ bits_after s (suc t) a
drop_next s t a = let e : s + 6 * t + 6 ≡ s + 6 * suc t = omega arith in drop_drop (s + 6 * t) 6 (addr_as a).bits ∙ ap (λ n. drop n (addr_as a).bits) e

-- ---- the slot of an address in the direct words
pub wide : (f : Family) → 32 ≤ width f
wide V4 = omega arith
wide V6 = omega arith

only : (n : ℕ) (b : List Bool) (z : ℕ) → n ≤ length b → take n (b ++ replicate z false) ≡ take n b
only zero b z g = refl
only (suc n) [] z g = absurd (omega arith)
only (suc n) (x ∷ b) z g = ap (λ l. x ∷ l) (only n b z (omega arith))

module _ (a : Addr) (s : ℕ) (few : s ≤ 32) where
  enough : s ≤ length (addr_as a).bits
  enough = subst (λ (n : ℕ). s ≤ n) (sym (length_bits (width a.family) a.bits)) (omega (arith, few, wide a.family))

  pub slot_bits_of : bits_of s (slot_of s a) ≡ take s (addr_as a).bits
  slot_bits_of = sym (same_number s (take s (addr_as a).bits) (take_length s (addr_as a).bits enough))

  pub slot_key : key_as a < 2 ^ 128 → slot_of s a ≡ key_as a / 2 ^ (128 - s)
  slot_key small =
      let first : take s (bits_of 128 (key_as a)) ≡ take s (addr_as a).bits = ap (take s) (key_from (width a.family) (128 - width a.family) a.bits (omega (arith, at_most_128 a.family))) ∙ only s (addr_as a).bits (128 - width a.family) enough in
      ap value_of (sym first ∙ bits_take 128 s (key_as a) (omega (arith, few)))
      ∙ (value-bits_of s (key_as a / 2 ^ (128 - s)) ∙ mod-eq_of_lt (short (key_as a) s small (omega (arith, few))))

  pub slot_below : key_as a < 2 ^ 128 → slot_of s a < 2 ^ s
  slot_below small = subst (λ (v : ℕ). v < 2 ^ s) (sym (slot_key small)) (short (key_as a) s small (omega (arith, few)))

  pub length_rest : length (bits_after s 0 a) ≡ rest a.family s
  length_rest = let e : s + 6 * 0 ≡ s = omega arith in length-drop (s + 6 * 0) (addr_as a).bits ∙ (ap (λ n. length (addr_as a).bits - n) e ∙ ap (λ n. n - s) (length_bits (width a.family) a.bits))
