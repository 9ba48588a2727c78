-- The bits of a key, six at a time.
use Rattle.std.proofs.Common.{◌≡◌, ℕ, zero, suc, ◌+◌, ◌-◌, ◌*◌, ◌/◌, ◌%◌, ◌^◌, ◌<◌, ◌≤◌, List, [], ◌∷◌, ◌++◌, length, nat_eq, take, drop, refl, sym, ap, ◌∙◌, arith, subst}
use Rattle.std.specs.Int.{bit_at}
use Rattle.std.proofs.lemmas.List.{take-append-le, length-take-le, take-append-drop}
use Rattle.std.proofs.Math.Seq.{take-append_seam, drop-append_seam}
use Rattle.std.proofs.lemmas.Nat.{shr-shr, shr_split, mod-pow-add, shl-shr}
use Rattle.std.proofs.Math.Nat.{mul-mod_left}
use Rattle.std.proofs.lemmas.Nat.Bits.{bit_at_cat_low}
use Rattle.table_model.specs.Bits.{bits_of}
use Rattle.poptrie_build.specs.Strides.{slot_bits, address}

pub length_bits : (k n : ℕ) → length (bits_of k n) ≡ k
unfolding bits_of
length_bits zero n = refl
length_bits (suc k) n = ap suc (length_bits k n)

pub bits_cat : (a b n : ℕ) → bits_of (a + b) n ≡ bits_of a (n / 2 ^ b) ++ bits_of b n
unfolding bits_of
bits_cat zero b n = let e : zero + b ≡ b = omega arith in ap (λ j. bits_of j n) e
bits_cat (suc a) b n =
    let e : suc a + b ≡ suc (a + b) = omega arith in
    let f : b + a ≡ a + b = omega arith in
    let top : bit_at (n / 2 ^ b) a ≡ bit_at n (a + b) = ap (λ x. x % 2) (shr-shr n b a ∙ ap (λ j. n / 2 ^ j) f) in
    ap (λ j. bits_of j n) e
    ∙ (ap (λ x. nat_eq x 1 ∷ bits_of (a + b) n) (sym top)
    ∙ ap (λ bs. nat_eq (bit_at (n / 2 ^ b) a) 1 ∷ bs) (bits_cat a b n))

pub bit_mod : (n m i : ℕ) → i < m → bit_at (n % 2 ^ m) i ≡ bit_at n i
bit_mod n m i h = sym (bit_at_cat_low (n / 2 ^ m) m (n % 2 ^ m) i h) ∙ ap (λ x. bit_at x i) (shr_split n m)

pub bits_mod : (k n m : ℕ) → k ≤ m → bits_of k (n % 2 ^ m) ≡ bits_of k n
unfolding bits_of
bits_mod zero n m h = refl
bits_mod (suc k) n m h =
    ap (λ x. nat_eq x 1 ∷ bits_of k (n % 2 ^ m)) (bit_mod n m k (omega arith))
    ∙ ap (λ bs. nat_eq (bit_at n k) 1 ∷ bs) (bits_mod k n m (omega arith))

take_comm : {A : Type 0} (a b : ℕ) (l : List A) → take a (take b l) ≡ take b (take a l)
take_comm zero zero l = refl
take_comm zero (suc b) [] = refl
take_comm zero (suc b) (x ∷ l) = refl
take_comm (suc a) zero [] = refl
take_comm (suc a) zero (x ∷ l) = refl
take_comm (suc a) (suc b) [] = refl
take_comm (suc a) (suc b) (x ∷ l) = ap (λ t. x ∷ t) (take_comm a b l)

drop_nil : {A : Type 0} (a : ℕ) → drop {A = A} a [] ≡ []
drop_nil zero = refl
drop_nil (suc a) = refl

take_nil : {A : Type 0} (a : ℕ) → take {A = A} a [] ≡ []
take_nil zero = refl
take_nil (suc a) = refl

drop_take : {A : Type 0} (a b : ℕ) (l : List A) → drop a (take b l) ≡ take (b - a) (drop a l)
drop_take zero b l = let e : b - zero ≡ b = omega arith in ap (λ n. take n l) (sym e)
drop_take (suc a) zero l = let e : zero - suc a ≡ zero = omega arith in sym (ap (λ n. take n (drop (suc a) l)) e)
drop_take (suc a) (suc b) [] = sym (take_nil (suc b - suc a))
drop_take (suc a) (suc b) (x ∷ l) = let e : suc b - suc a ≡ b - a = omega arith in drop_take a b l ∙ ap (λ n. take n (drop a l)) (sym e)

-- over w = j + m bits
first_of : (j m d key : ℕ) → take d (bits_of j (key / 2 ^ m)) ≡ take j (take d (bits_of (j + m) key))
first_of j m d key =
    let x = bits_of j (key / 2 ^ m) in
    let y = bits_of m key in
    let s : take j (x ++ y) ≡ x = ap (λ n. take n (x ++ y)) (sym (length_bits j (key / 2 ^ m))) ∙ take-append_seam x y in
    ap (take d) (sym s)
    ∙ (take_comm d j (x ++ y)
    ∙ ap (λ l. take j (take d l)) (sym (bits_cat j m key)))

-- the key moved up by j bits
pub shl_mod : (j m key : ℕ) → key * 2 ^ j % 2 ^ (m + j) ≡ key % 2 ^ m * 2 ^ j
shl_mod j m key =
    let n = key * 2 ^ j in
    let e : n % 2 ^ (m + j) ≡ n / 2 ^ j % 2 ^ m * 2 ^ j + n % 2 ^ j = mod-pow-add n m j in
    let z : n % 2 ^ j ≡ 0 = mul-mod_left key (2 ^ j) in
    let q : n / 2 ^ j ≡ key = shl-shr key j in
    e ∙ (ap (λ x. x % 2 ^ m * 2 ^ j + n % 2 ^ j) q ∙ omega (arith, z))

pub shl_shr : (j m key : ℕ) → key * 2 ^ j % 2 ^ (m + j) / 2 ^ j ≡ key % 2 ^ m
shl_shr j m key = ap (λ x. x / 2 ^ j) (shl_mod j m key) ∙ shl-shr (key % 2 ^ m) j

rest_of : (j m d key : ℕ) → d ≤ j + m → drop j (take d (bits_of (j + m) key)) ≡ take (d - j) (bits_of (m + j) (key * 2 ^ j % 2 ^ (m + j)))
rest_of j m d key h =
    let x = bits_of j (key / 2 ^ m) in
    let y = bits_of m key in
    let up = key * 2 ^ j % 2 ^ (m + j) in
    let s : drop j (x ++ y) ≡ y = ap (λ n. drop n (x ++ y)) (sym (length_bits j (key / 2 ^ m))) ∙ drop-append_seam x y in
    let z : bits_of m (up / 2 ^ j) ≡ y = ap (bits_of m) (shl_shr j m key) ∙ bits_mod m key m (omega arith) in
    let le : d - j ≤ length (bits_of m (up / 2 ^ j)) = subst (λ (n : ℕ). d - j ≤ n) (sym (length_bits m (up / 2 ^ j))) (omega arith) in
    ap (λ l. drop j (take d l)) (bits_cat j m key)
    ∙ (drop_take j d (x ++ y)
    ∙ (ap (take (d - j)) (s ∙ sym z)
    ∙ (sym (take-append-le (d - j) (bits_of m (up / 2 ^ j)) (bits_of j up) le)
    ∙ ap (take (d - j)) (sym (bits_cat m j up)))))

pub first_bits : (d key : ℕ) → slot_bits d (key / 2 ^ 122) ≡ take 6 (address d key)
first_bits d key = first_of 6 122 d key

pub rest_bits : (d key : ℕ) → d ≤ 128 → drop 6 (address d key) ≡ address (d - 6) (key * 64 % 340282366920938463463374607431768211456)
rest_bits d key h = rest_of 6 122 d key h

pub length_address : (d key : ℕ) → d ≤ 128 → length (address d key) ≡ d
length_address d key h = length-take-le d (bits_of 128 key) (subst (λ (n : ℕ). d ≤ n) (sym (length_bits 128 key)) h)

take_less : {A : Type 0} (s d : ℕ) (l : List A) → take s (take (s + d) l) ≡ take s l
take_less zero d [] = refl
take_less zero d (x ∷ l) = refl
take_less (suc s) d [] = let e : suc s + d ≡ suc (s + d) = omega arith in ap (λ n. take (suc s) (take n [])) e
take_less (suc s) d (x ∷ l) = let e : suc s + d ≡ suc (s + d) = omega arith in ap (λ n. take (suc s) (take n (x ∷ l))) e ∙ ap (λ t. x ∷ t) (take_less s d l)

rest_from : (w s m d key : ℕ) → s + m ≡ w → s + d ≤ w → drop s (take (s + d) (bits_of w key)) ≡ take d (bits_of w (key * 2 ^ s % 2 ^ w))
rest_from w s m d key e h =
    let f : m + s ≡ w = omega arith in
    let g : s + d - s ≡ d = omega arith in
    ap (λ n. drop s (take (s + d) (bits_of n key))) (sym e)
    ∙ (rest_of s m (s + d) key (omega arith)
    ∙ (ap (λ n. take n (bits_of (m + s) (key * 2 ^ s % 2 ^ (m + s)))) g
    ∙ ap (λ n. take d (bits_of n (key * 2 ^ s % 2 ^ n))) f))

-- the key's first s bits, and the d bits after them
pub front : (s d key : ℕ) → take s (address (s + d) key) ≡ address s key
front s d key = take_less s d (bits_of 128 key)

pub behind : (s d key : ℕ) → s + d ≤ 128 → drop s (address (s + d) key) ≡ address d (key * 2 ^ s % 2 ^ 128)
behind s d key h = rest_from 128 s (128 - s) d key (omega arith) h

pub whole : (s d key : ℕ) → s + d ≤ 128 → address s key ++ address d (key * 2 ^ s % 2 ^ 128) ≡ address (s + d) key
whole s d key h =
    ap (λ p. p ++ address d (key * 2 ^ s % 2 ^ 128)) (sym (front s d key))
    ∙ (ap (λ q. take s (address (s + d) key) ++ q) (sym (behind s d key h))
    ∙ take-append-drop s (address (s + d) key))
