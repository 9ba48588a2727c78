-- Halves of regions, and regions within others.
use Rattle.std.proofs.Common.{◌≡◌, ℕ, ◌+◌, ◌-◌, ◌*◌, ◌/◌, ◌%◌, ◌^◌, ◌<◌, ◌≤◌, List, [], ◌∷◌, ◌++◌, Bool, true, false, cond, nat_eq, length, take, replicate, refl, sym, ap, ◌∙◌, arith, subst}
use Rattle.std.specs.Prelude.{◌&&◌}
use Rattle.std.specs.Int.{bit_at}
use Rattle.std.proofs.lemmas.Nat.{shl-shr, shr_below, mul-add-lt, pow-add, pow_pos}
use Rattle.std.proofs.Math.Pow.{pow-lt}
use Rattle.table_model.specs.Bits.{bits_of, begins}
use Rattle.table_model.specs.Width.{width}
use Rattle.table_model.specs.Address.{Prefix, contains, first_bits, same_family}
use Rattle.table_model.specs.Halves.{is_within, half_at}
use Rattle.table_model.specs.declared.family.Family.{Family}
use Rattle.table_model.proofs.BitLaws.{bits_take, bits_split}
use Rattle.fib_addr.specs.Text.{first_address}

-- ---- halves

multiple : (y n : ℕ) → 0 < n → y % n ≡ 0 → y ≡ y / n * n
multiple y n some e = omega arith

-- a number with zeros from a place down has room for a bit there
pub room_for_bit : (w place x : ℕ) → place < w → x < 2 ^ w → x % 2 ^ (place + 1) ≡ 0 → x + 2 ^ place < 2 ^ w
room_for_bit w place x h lt z =
    let k = w - (place + 1) in
    let e : k + (place + 1) ≡ w = omega arith in
    let m = 2 ^ (place + 1) in
    let q = x / m in
    let below : q < 2 ^ k = shr_below x k (place + 1) (subst (λ (j : ℕ). x < 2 ^ j) (sym e) lt) in
    let less : 2 ^ place < m = pow-lt (omega arith) in
    let sum : q * m + 2 ^ place < m * 2 ^ k = mul-add-lt q m (2 ^ place) (2 ^ k) below less in
    let whole : m * 2 ^ k ≡ 2 ^ w = sym (pow-add 2 (place + 1) k) ∙ ap (λ (j : ℕ). 2 ^ j) (let f : place + 1 + k ≡ w = omega arith in f) in
    let is : x ≡ q * m = multiple x m (pow_pos (place + 1)) z in
    omega (arith, sum, whole, is)

abbrev pub bit_worth : Bool → ℕ → ℕ
bit_worth b n = cond b n 0

one_bit : (q : ℕ) (b : Bool) → bits_of 1 (2 * q + bit_worth b 1) ≡ b ∷ []
unfolding bits_of
one_bit q true = let e : bit_at (2 * q + 1) 0 ≡ 1 = omega arith in ap (λ n. nat_eq n 1 ∷ []) e
one_bit q false = let e : bit_at (2 * q + 0) 0 ≡ 0 = omega arith in ap (λ n. nat_eq n 1 ∷ []) e

doubled : (q x : ℕ) → q * (x + x) + 0 ≡ (2 * q + 0) * x
doubled q x = grind arith

doubled_more : (q x : ℕ) → q * (x + x) + x ≡ (2 * q + 1) * x
doubled_more q x = grind arith

worth_times : (q u : ℕ) (b : Bool) → q * 2 ^ (u + 1) + bit_worth b (2 ^ u) ≡ (2 * q + bit_worth b 1) * 2 ^ u
worth_times q u b = ap (λ (n : ℕ). q * n + bit_worth b (2 ^ u)) (let e : 2 ^ (u + 1) ≡ 2 ^ u + 2 ^ u = omega (arith, pow-add 2 u 1) in e) ∙ by_bit b
  where
    by_bit : (b : Bool) → q * (2 ^ u + 2 ^ u) + bit_worth b (2 ^ u) ≡ (2 * q + bit_worth b 1) * 2 ^ u
    by_bit true = doubled_more q (2 ^ u)
    by_bit false = doubled q (2 ^ u)

halved : (q : ℕ) (b : Bool) → (2 * q + bit_worth b 1) / 2 ^ 1 ≡ q
halved q true = omega arith
halved q false = omega arith

-- the first bits of a number with a bit put at the place after them
pub half_bits : (w len n : ℕ) (b : Bool) → len < w → n % 2 ^ (w - len) ≡ 0 → take (len + 1) (bits_of w (n + bit_worth b (2 ^ (w - len - 1)))) ≡ take len (bits_of w n) ++ b ∷ []
half_bits w len n b h z =
    let u = w - len - 1 in
    let e : u + 1 ≡ w - len = omega arith in
    let q = n / 2 ^ (u + 1) in
    let z' : n % 2 ^ (u + 1) ≡ 0 = ap (λ (j : ℕ). n % 2 ^ j) e ∙ z in
    let m = n + bit_worth b (2 ^ u) in
    let is : m ≡ (2 * q + bit_worth b 1) * 2 ^ u = ap (λ (x : ℕ). x + bit_worth b (2 ^ u)) (multiple n (2 ^ (u + 1)) (pow_pos (u + 1)) z') ∙ worth_times q u b in
    let f : w - (len + 1) ≡ u = omega arith in
    let top : m / 2 ^ (w - (len + 1)) ≡ 2 * q + bit_worth b 1 = ap (λ (j : ℕ). m / 2 ^ j) f ∙ (ap (λ (x : ℕ). x / 2 ^ u) is ∙ shl-shr (2 * q + bit_worth b 1) u) in
    let front : bits_of len q ≡ take len (bits_of w n) = ap (λ (j : ℕ). bits_of len (n / 2 ^ j)) e ∙ sym (bits_take w len n (omega arith)) in
    bits_take w (len + 1) m (omega arith)
    ∙ (ap (bits_of (len + 1)) top
    ∙ (bits_split len 1 (2 * q + bit_worth b 1)
    ∙ (ap (λ x. bits_of len x ++ bits_of 1 (2 * q + bit_worth b 1)) (halved q b)
    ∙ (ap (λ xs. bits_of len q ++ xs) (one_bit q b) ∙ ap (λ xs. xs ++ b ∷ []) front))))

pub half_fits : (w len place n m : ℕ) (b : Bool) → len < w → place ≡ w - len - 1 → n < 2 ^ w → n % 2 ^ (w - len) ≡ 0 → m ≡ n + bit_worth b (2 ^ place) → m < 2 ^ w
half_fits w len place n m true h p lt z e =
    let f : w - len ≡ place + 1 = omega arith in
    omega (arith, room_for_bit w place n (omega arith) lt (ap (λ (j : ℕ). n % 2 ^ j) (sym f) ∙ z))
half_fits w len place n m false h p lt z e = omega arith

-- and has only zeros behind that bit
pub half_cleared : (w len place n m : ℕ) (b : Bool) → len < w → place ≡ w - len - 1 → n % 2 ^ (w - len) ≡ 0 → m ≡ n + bit_worth b (2 ^ place) → m % 2 ^ (w - (len + 1)) ≡ 0
half_cleared w len place n m b h p z e =
    let f : w - len ≡ place + 1 = omega arith in
    let g : w - (len + 1) ≡ place = omega arith in
    let x = 2 ^ place in
    let k = 2 * (n / 2 ^ (place + 1)) + bit_worth b 1 in
    let is : m ≡ k * x = e ∙ (ap (λ (y : ℕ). y + bit_worth b x) (multiple n (2 ^ (place + 1)) (pow_pos (place + 1)) (ap (λ (j : ℕ). n % 2 ^ j) (sym f) ∙ z)) ∙ worth_times (n / 2 ^ (place + 1)) place b) in
    let whole : m / x * x ≡ m = ap (λ (y : ℕ). y / x * x) is ∙ (ap (λ (y : ℕ). y * x) (shl-shr k place) ∙ sym is) in
    ap (λ (j : ℕ). m % 2 ^ j) g ∙ (let r : m % x ≡ 0 = omega (arith, whole) in r)

pub half_is : (f : Family) (len w n m : ℕ) (b : Bool) (p : Prefix) → len < width f → w ≡ width f → n % 2 ^ (width f - len) ≡ 0 → m ≡ n + bit_worth b (2 ^ (w - len - 1))
    → p ≡ first_bits (len + 1) (record { family = f; bits = bits_of (width f) m }) → p ≡ half_at b (record { family = f; bits = take len (bits_of (width f) n) })
half_is f len w n m b p h wide z e is =
    let same : m ≡ n + bit_worth b (2 ^ (width f - len - 1)) = e ∙ ap (λ (j : ℕ). n + bit_worth b (2 ^ (j - len - 1))) wide in
    is ∙ ap (λ x. let q : Prefix = record { family = f; bits = x } in q) (ap (λ (x : ℕ). take (len + 1) (bits_of (width f) x)) same ∙ half_bits (width f) len n b h z)

-- ---- within

begins_front : (p s rest : List Bool) → length p ≤ length s → begins p (s ++ rest) ≡ begins p s
begins_front [] s rest h = refl
begins_front (b ∷ p) [] rest h = absurd (omega arith)
begins_front (true ∷ p) (true ∷ s) rest h = begins_front p s rest (omega arith)
begins_front (true ∷ p) (false ∷ s) rest h = refl
begins_front (false ∷ p) (true ∷ s) rest h = refl
begins_front (false ∷ p) (false ∷ s) rest h = begins_front p s rest (omega arith)

begins_longer : (p s : List Bool) → length s < length p → begins p s ≡ false
begins_longer [] s h = absurd (omega arith)
begins_longer (true ∷ p) [] h = refl
begins_longer (false ∷ p) [] h = refl
begins_longer (true ∷ p) (true ∷ s) h = begins_longer p s (omega arith)
begins_longer (true ∷ p) (false ∷ s) h = refl
begins_longer (false ∷ p) (true ∷ s) h = refl
begins_longer (false ∷ p) (false ∷ s) h = begins_longer p s (omega arith)

and_false : (b : Bool) → (b && false) ≡ false
and_false true = refl
and_false false = refl

-- a prefix begins with one that isn't longer where its first address does
pub within_first : (s p : Prefix) → length p.bits ≤ length s.bits → contains p (first_address s) ≡ is_within s p
within_first s p h = ap (λ t. same_family p.family s.family && t) (begins_front p.bits s.bits (replicate (width s.family - length s.bits) false) h)

pub longer_is_not_within : (s p : Prefix) → length s.bits < length p.bits → false ≡ is_within s p
longer_is_not_within s p h = sym (ap (λ t. same_family p.family s.family && t) (begins_longer p.bits s.bits h) ∙ and_false (same_family p.family s.family))
