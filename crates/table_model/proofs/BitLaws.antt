-- Bits of numbers and of octets.
use Rattle.std.proofs.Common.{◌≡◌, ℕ, zero, suc, ◌+◌, ◌-◌, ◌*◌, ◌/◌, ◌%◌, ◌^◌, ◌<◌, ◌≤◌, take, List, [], ◌∷◌, ◌++◌, Bool, true, false, nat_eq, length, refl, sym, ap, ◌∙◌, arith, length-append, replicate, mod-eq_of_lt, get_or}
use Rattle.std.specs.Prelude.{if◌then◌else◌}
use Rattle.std.specs.Int.{bit_at}
use Rattle.std.proofs.lemmas.Nat.{mod_below, mod-pow-add, shr-shr, pow-add, mod_low, mul-add-lt, shr_high}
use Rattle.std.proofs.lemmas.Nat.Bits.{bit_at-lt}
use Rattle.std.proofs.Common.{zero-add}
use Rattle.std.proofs.Math.Nat.{pow-succ'}
use Rattle.table_model.specs.Bits.{bits_of, value_of, number, octet_bits}

pub length-bits_of : (k n : ℕ) → length (bits_of k n) ≡ k
unfolding bits_of
length-bits_of zero n = refl
length-bits_of (suc k) n = ap suc (length-bits_of k n)

bit_value : (b : ℕ) → b < 2 → (k : ℕ) → (if nat_eq b 1 then 2 ^ k else 0) ≡ b * 2 ^ k
bit_value zero h k = omega arith
bit_value (suc zero) h k = omega arith
bit_value (suc (suc b)) h k = absurd (omega arith)

-- the bits of a number stand for its lowest part
pub value-bits_of : (k n : ℕ) → value_of (bits_of k n) ≡ n % 2 ^ k
unfolding bits_of value_of
value-bits_of zero n = omega (arith, mod_below n 1 (omega arith))
value-bits_of (suc k) n =
    let e : suc k ≡ 1 + k = omega arith in
    ap (λ j. (if nat_eq (bit_at n k) 1 then 2 ^ j else 0) + value_of (bits_of k n)) (length-bits_of k n)
    ∙ ap (λ x. x + value_of (bits_of k n)) (bit_value (bit_at n k) (bit_at-lt n k) k)
    ∙ ap (λ x. bit_at n k * 2 ^ k + x) (value-bits_of k n)
    ∙ sym (ap (λ j. n % 2 ^ j) e ∙ mod-pow-add n 1 k)

pub value-append : (p q : List Bool) → value_of (p ++ q) ≡ value_of p * 2 ^ length q + value_of q
unfolding value_of
value-append [] q = omega arith
value-append (b ∷ p) q =
    ap (λ j. (if b then 2 ^ j else 0) + value_of (p ++ q)) (length-append p q)
    ∙ ap (λ x. (if b then 2 ^ (length p + length q) else 0) + x) (value-append p q)
    ∙ by_bit b
  where
    by_bit : (b : Bool) → (if b then 2 ^ (length p + length q) else 0) + (value_of p * 2 ^ length q + value_of q) ≡ ((if b then 2 ^ length p else 0) + value_of p) * 2 ^ length q + value_of q
    by_bit true = omega (arith, pow-add 2 (length p) (length q))
    by_bit false = omega arith

pub value-zeros : (k : ℕ) → value_of (replicate k false) ≡ 0
unfolding value_of
value-zeros zero = refl
value-zeros (suc k) = omega (arith, value-zeros k)

double : (k : ℕ) → 2 ^ suc k ≡ 2 ^ k + 2 ^ k
double k = let e : suc k ≡ 1 + k = omega arith in ap (λ j. 2 ^ j) e ∙ pow-add 2 1 k ∙ omega arith

pub value-lt : (p : List Bool) → value_of p < 2 ^ length p
unfolding value_of
value-lt [] = omega arith
value-lt (true ∷ p) = omega (arith, double (length p), value-lt p)
value-lt (false ∷ p) = omega (arith, double (length p), value-lt p)

-- as many bits that stand for one number are the same bits
pub bits_from_value : (p q : List Bool) → length p ≡ length q → value_of p ≡ value_of q → p ≡ q
unfolding value_of
bits_from_value [] [] l e = refl
bits_from_value [] (b ∷ q) l e = absurd (omega arith)
bits_from_value (b ∷ p) [] l e = absurd (omega arith)
bits_from_value (true ∷ p) (true ∷ q) l e =
    let n : length p ≡ length q = omega arith in
    ap (λ x. true ∷ x) (bits_from_value p q n (omega (arith, ap (λ (j : ℕ). 2 ^ j) n)))
bits_from_value (false ∷ p) (false ∷ q) l e = ap (λ x. false ∷ x) (bits_from_value p q (omega arith) (omega arith))
bits_from_value (true ∷ p) (false ∷ q) l e = let n : length p ≡ length q = omega arith in absurd (omega (arith, value-lt q, ap (λ (j : ℕ). 2 ^ j) n))
bits_from_value (false ∷ p) (true ∷ q) l e = let n : length p ≡ length q = omega arith in absurd (omega (arith, value-lt p, ap (λ (j : ℕ). 2 ^ j) n))

-- the first bits of a number's bits
pub bits_take : (w k n : ℕ) → k ≤ w → take k (bits_of w n) ≡ bits_of k (n / 2 ^ (w - k))
unfolding bits_of
bits_take w zero n h = refl
bits_take zero (suc k) n h = absurd (omega arith)
bits_take (suc w) (suc k) n h =
    let e : suc w - suc k ≡ w - k = omega arith in
    let f : w - k + k ≡ w = omega arith in
    let top : bit_at (n / 2 ^ (w - k)) k ≡ bit_at n w = ap (λ x. x % 2) (shr-shr n (w - k) k ∙ ap (λ j. n / 2 ^ j) f) in
    ap (λ b. nat_eq b 1 ∷ take k (bits_of w n)) (sym top)
    ∙ ap (λ bs. nat_eq (bit_at (n / 2 ^ (w - k)) k) 1 ∷ bs) (bits_take w k n (omega arith))
    ∙ ap (λ j. bits_of (suc k) (n / 2 ^ j)) (sym e)

-- numbers with the same bits are one
pub same_from_bits : (k m n : ℕ) → m < 2 ^ k → n < 2 ^ k → bits_of k m ≡ bits_of k n → m ≡ n
same_from_bits k m n a b e = sym (small m a) ∙ (sym (value-bits_of k m) ∙ (ap value_of e ∙ (value-bits_of k n ∙ small n b)))
  where
    small : (x : ℕ) → x < 2 ^ k → x % 2 ^ k ≡ x
    small x h = mod-eq_of_lt h

-- the bits of a number in two parts
pub bits_split : (j k n : ℕ) → bits_of (j + k) n ≡ bits_of j (n / 2 ^ k) ++ bits_of k n
unfolding bits_of
bits_split zero k n = ap (λ i. bits_of i n) (zero-add k)
bits_split (suc j) k n =
    let e : suc j + k ≡ suc (j + k) = omega arith in
    let f : k + j ≡ j + k = omega arith in
    let top : bit_at n (j + k) ≡ bit_at (n / 2 ^ k) j = ap (λ x. x % 2) (ap (λ i. n / 2 ^ i) (sym f) ∙ sym (shr-shr n k j)) in
    ap (λ i. bits_of i n) e ∙ (ap (λ b. nat_eq b 1 ∷ bits_of (j + k) n) top ∙ ap (λ bs. nat_eq (bit_at (n / 2 ^ k) j) 1 ∷ bs) (bits_split j k n))

-- the lowest bits of a number are those of its lowest part
pub bits_low : (k a r : ℕ) → r < 2 ^ k → bits_of k (a * 2 ^ k + r) ≡ bits_of k r
bits_low k a r h =
    bits_from_value _ _ (length-bits_of k (a * 2 ^ k + r) ∙ sym (length-bits_of k r))
    (value-bits_of k (a * 2 ^ k + r) ∙ (mod_low a k r h ∙ (sym (mod-eq_of_lt h) ∙ sym (value-bits_of k r))))

-- 256 ^ n is 2 ^ (8 * n)
pub octets_pow : (n : ℕ) → 256 ^ n ≡ 2 ^ (8 * n)
octets_pow zero = refl
octets_pow (suc n) =
    let e : 8 * suc n ≡ 8 + 8 * n = omega arith in
    pow-succ' 256 n ∙ ap (λ (x : ℕ). 256 * x) (octets_pow n) ∙ sym (pow-add 2 8 (8 * n)) ∙ ap (λ (j : ℕ). 2 ^ j) (sym e)

abbrev pub AreOctets : List ℕ → Type 0
AreOctets octets = (i : ℕ) → get_or octets i 0 < 256

pub octets_rest : (b : ℕ) (octets : List ℕ) → AreOctets (b ∷ octets) → AreOctets octets
octets_rest b octets h = λ i. h (suc i)

pub number-lt : (octets : List ℕ) → AreOctets octets → number octets < 2 ^ (8 * length octets)
unfolding number
number-lt [] h = omega arith
number-lt (b ∷ octets) h =
    let low : number octets < 2 ^ (8 * length octets) = number-lt octets (octets_rest b octets h) in
    let first : b < 256 = h 0 in
    let n = 8 * length octets in
    let e : n + 8 ≡ 8 * suc (length octets) = omega arith in
    let p : b * 256 ^ length octets + number octets ≡ b * 2 ^ n + number octets = ap (λ (x : ℕ). b * x + number octets) (octets_pow (length octets)) in
    let lt : b * 2 ^ n + number octets < 2 ^ n * 256 = mul-add-lt b (2 ^ n) (number octets) 256 first low in
    let q : 2 ^ n * 256 ≡ 2 ^ (8 * suc (length octets)) = sym (pow-add 2 n 8) ∙ ap (λ (j : ℕ). 2 ^ j) e in
    omega (arith, p, lt, q)

-- the bits of the number of octets are the octets' bits
pub bits_of-number : (octets : List ℕ) → AreOctets octets → bits_of (8 * length octets) (number octets) ≡ octet_bits octets
unfolding number octet_bits bits_of
bits_of-number [] h = refl
bits_of-number (b ∷ octets) h =
    let n = 8 * length octets in
    let low : number octets < 2 ^ n = number-lt octets (octets_rest b octets h) in
    let e : 8 * suc (length octets) ≡ 8 + n = omega arith in
    let p : b * 256 ^ length octets + number octets ≡ b * 2 ^ n + number octets = ap (λ (x : ℕ). b * x + number octets) (octets_pow (length octets)) in
    ap (λ (j : ℕ). bits_of j (b * 256 ^ length octets + number octets)) e
    ∙ (ap (bits_of (8 + n)) p
    ∙ (bits_split 8 n (b * 2 ^ n + number octets)
    ∙ (ap (λ (x : ℕ). bits_of 8 x ++ bits_of n (b * 2 ^ n + number octets)) (shr_high b n (number octets) low)
    ∙ ap (λ bs. bits_of 8 b ++ bs) (bits_low n b (number octets) low ∙ bits_of-number octets (octets_rest b octets h)))))
