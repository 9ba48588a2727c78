-- Groups, octets and bits of an IPv6 address.
use Rattle.std.proofs.Common.{◌≡◌, ℕ, zero, suc, ◌+◌, ◌-◌, ◌*◌, ◌/◌, ◌%◌, ◌^◌, ◌<◌, List, [], ◌∷◌, ◌++◌, length, take, drop, refl, sym, ap, ap₂, ◌∙◌, arith, get_or, append_assoc}
use Rattle.std.proofs.lemmas.Nat.{shr-shr}
use Rattle.std.proofs.lemmas.List.{take_rest}
use Rattle.std.specs.Int.{w128, to_be_bytes, from_be_bytes}
use Rattle.std.specs.Net.Addr.{segments_of, octets_of, ipv6_bits, ipv6_segments, IsIpv6OfBits}
use Rattle.std.specs.declared.net.ipv6_addr.Ipv6Addr.{Ipv6Addr}
use Rattle.std.proofs.NetLemmas.Arrays.{eight_items}
use Rattle.table_model.specs.Bits.{bits_of, value_of, number, octet_bits}
use Rattle.table_model.proofs.BitLaws.{value-bits_of, bits_split, bits_take, bits_of-number, bits_low, AreOctets}
use Rattle.std.specs.Prelude.{codes, nat_lt}
use Rattle.std.proofs.Common.{◌≤◌, true, false}
use Rattle.std.proofs.lemmas.Bool.{lt-ltb, le-ltb, cond-true, cond-false}
use Rattle.std.specs.Net.Text.{groups_text, longest_zero_run}
use Rattle.fib_addr.specs.Groups.{groups_of, group_bits, shortened, ipv6_text}
use Rattle.fib_addr.proofs.Octets.{drop_bits}

-- the group that has k bits after it
group_value : (k n : ℕ) → value_of (take 16 (bits_of (16 + k) n)) ≡ n / 2 ^ k % 2 ^ 16
group_value k n =
    let e : (16 + k) - 16 ≡ k = omega arith in
    ap value_of (bits_take (16 + k) 16 n (omega arith)) ∙ (value-bits_of 16 (n / 2 ^ ((16 + k) - 16)) ∙ ap (λ j. n / 2 ^ j % 2 ^ 16) e)

group_at : (j k n : ℕ) → value_of (take 16 (drop j (bits_of (j + (16 + k)) n))) ≡ n / 2 ^ k % 2 ^ 16
group_at j k n = ap (λ x. value_of (take 16 x)) (drop_bits j (16 + k) n) ∙ group_value k n

-- two octets of a number as one group
two_octets : (n k : ℕ) → n / 2 ^ (k + 8) % 2 ^ 8 * 256 + n / 2 ^ k % 2 ^ 8 ≡ n / 2 ^ k % 2 ^ 16
two_octets n k =
    let e : n / 2 ^ k / 2 ^ 8 ≡ n / 2 ^ (k + 8) = shr-shr n k 8 in
    omega (arith, e)

last_octets : (n : ℕ) → n / 2 ^ 8 % 2 ^ 8 * 256 + n % 2 ^ 8 ≡ n / 2 ^ 0 % 2 ^ 16
last_octets n = omega arith

same_eight : (a b c d e f g h i j k l m n o p : ℕ) → a ≡ i → b ≡ j → c ≡ k → d ≡ l → e ≡ m → f ≡ n → g ≡ o → h ≡ p → a ∷ b ∷ c ∷ d ∷ e ∷ f ∷ g ∷ h ∷ [] ≡ i ∷ j ∷ k ∷ l ∷ m ∷ n ∷ o ∷ p ∷ []
same_eight a b c d e f g h i j k l m n o p s t u v w x y z = cc

-- the segments of a number are the groups of its bits
pub segments_are : (n : ℕ) → segments_of (to_be_bytes w128 n) ≡ groups_of (bits_of 128 n)
segments_are n =
    same_eight _ _ _ _ _ _ _ _ _ _ _ _ _ _ _ _
    (two_octets n 112 ∙ sym (group_value 112 n))
    (two_octets n 96 ∙ sym (group_at 16 96 n))
    (two_octets n 80 ∙ sym (group_at 32 80 n))
    (two_octets n 64 ∙ sym (group_at 48 64 n))
    (two_octets n 48 ∙ sym (group_at 64 48 n))
    (two_octets n 32 ∙ sym (group_at 80 32 n))
    (two_octets n 16 ∙ sym (group_at 96 16 n))
    (last_octets n ∙ sym (group_at 112 0 n))

abbrev groups_are : (n : ℕ) (a : Ipv6Addr) (groups : List ℕ) → IsIpv6OfBits a n → groups ≡ ipv6_segments a → groups ≡ groups_of (bits_of 128 n)
unfolding IsIpv6OfBits
groups_are n a groups h e = e ∙ (h ∙ segments_are n)

pub written_whole : (n : ℕ) (a : Ipv6Addr) (groups text : List ℕ) (run : ℕ × ℕ) → IsIpv6OfBits a n → groups ≡ ipv6_segments a → run ≡ longest_zero_run groups → run.1 < 2 → text ≡ groups_text groups → text ≡ ipv6_text (groups_of (bits_of 128 n))
unfolding ipv6_text
written_whole n a groups text run h e r l t =
    let test : nat_lt 1 (longest_zero_run groups).1 ≡ false = le-ltb 1 _ (omega (arith, ap (λ (x : ℕ × ℕ). x.1) r)) in
    t ∙ (sym (cond-false (nat_lt 1 (longest_zero_run groups).1) (shortened groups (longest_zero_run groups)) (groups_text groups) test) ∙ ap ipv6_text (groups_are n a groups h e))

pub written_short : (n : ℕ) (a : Ipv6Addr) (groups text : List ℕ) (run : ℕ × ℕ) → IsIpv6OfBits a n → groups ≡ ipv6_segments a → run ≡ longest_zero_run groups → 2 ≤ run.1
    → text ≡ (groups_text (take run.0 groups) ++ codes "::") ++ groups_text (take (8 - (run.0 + run.1)) (drop (run.0 + run.1) groups)) → text ≡ ipv6_text (groups_of (bits_of 128 n))
unfolding ipv6_text
written_short n a groups text run h e r l t =
    let test : nat_lt 1 (longest_zero_run groups).1 ≡ true = lt-ltb 1 _ (omega (arith, ap (λ (x : ℕ × ℕ). x.1) r)) in
    let same = groups_are n a groups h e in
    let long : 8 ≡ length groups = ap length (sym same) in
    let rest : take (8 - (run.0 + run.1)) (drop (run.0 + run.1) groups) ≡ drop (run.0 + run.1) groups = ap (λ (w : ℕ). take (w - (run.0 + run.1)) (drop (run.0 + run.1) groups)) long ∙ take_rest groups (run.0 + run.1) in
    t ∙ (ap (λ xs. (groups_text (take run.0 groups) ++ codes "::") ++ groups_text xs) rest
    ∙ (ap (shortened groups) r
    ∙ (sym (cond-true (nat_lt 1 (longest_zero_run groups).1) (shortened groups (longest_zero_run groups)) (groups_text groups) test) ∙ ap ipv6_text same)))

-- ---- reading

of_sixteen : (a b c d e f g h i j k l m n o p : ℕ) → from_be_bytes w128 (a ∷ b ∷ c ∷ d ∷ e ∷ f ∷ g ∷ h ∷ i ∷ j ∷ k ∷ l ∷ m ∷ n ∷ o ∷ p ∷ []) ≡ number (a ∷ b ∷ c ∷ d ∷ e ∷ f ∷ g ∷ h ∷ i ∷ j ∷ k ∷ l ∷ m ∷ n ∷ o ∷ p ∷ [])
unfolding number
of_sixteen a b c d e f g h i j k l m n o p = omega arith

abbrev pub AreGroups : List ℕ → Type 0
AreGroups groups = (i : ℕ) → get_or groups i 0 < 2 ^ 16

groups_rest : (s : ℕ) (groups : List ℕ) → AreGroups (s ∷ groups) → AreGroups groups
groups_rest s groups h = λ i. h (suc i)

octets_fit : (groups : List ℕ) → AreGroups groups → AreOctets (octets_of groups)
octets_fit [] h i = omega arith
octets_fit (s ∷ groups) h zero = let e : s < 2 ^ 16 = h 0 in omega arith
octets_fit (s ∷ groups) h (suc zero) = omega arith
octets_fit (s ∷ groups) h (suc (suc i)) = octets_fit groups (groups_rest s groups h) i

sixteen_bits : (s : ℕ) → bits_of 8 (s / 256) ++ bits_of 8 (s % 256) ≡ bits_of 16 s
sixteen_bits s =
    let low : s % 256 < 2 ^ 8 = omega arith in
    let e : s / 256 * 2 ^ 8 + s % 256 ≡ s = omega arith in
    ap (λ x. bits_of 8 (s / 256) ++ x) (sym (bits_low 8 (s / 256) (s % 256) low) ∙ ap (bits_of 8) e) ∙ sym (bits_split 8 8 s)

octet_bits-octets_of : (groups : List ℕ) → octet_bits (octets_of groups) ≡ group_bits groups
unfolding octet_bits group_bits
octet_bits-octets_of [] = refl
octet_bits-octets_of (s ∷ groups) =
    let rest : octet_bits (octets_of groups) ≡ group_bits groups = octet_bits-octets_of groups in
    sym (append_assoc (bits_of 8 (s / 256)) (bits_of 8 (s % 256)) (octet_bits (octets_of groups))) ∙ ap₂ ◌++◌ (sixteen_bits s) rest

-- the bits of an address's number are those of its groups
pub ipv6_bits_are : (a : Ipv6Addr) → length a.segments ≡ 8 → AreGroups a.segments → bits_of 128 (ipv6_bits a) ≡ group_bits a.segments
unfolding ipv6_bits
ipv6_bits_are a long fits =
    let g = a.segments in
    let e : from_be_bytes w128 (octets_of g) ≡ number (octets_of g) = ap (λ xs. from_be_bytes w128 (octets_of xs)) (eight_items g long) ∙ (of_sixteen _ _ _ _ _ _ _ _ _ _ _ _ _ _ _ _ ∙ ap (λ xs. number (octets_of xs)) (sym (eight_items g long))) in
    let l : 128 ≡ 8 * length (octets_of g) = ap (λ xs. 8 * length (octets_of xs)) (sym (eight_items g long)) in
    ap (bits_of 128) e ∙ (ap (λ w. bits_of w (number (octets_of g))) l ∙ (bits_of-number (octets_of g) (octets_fit g fits) ∙ octet_bits-octets_of g))
