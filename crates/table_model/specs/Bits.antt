-- Numbers and octets as lists of bits, the most significant first.
use Rattle.std.specs.Prelude.{ℕ, zero, suc, ◌+◌, ◌*◌, ◌^◌, List, [], ◌∷◌, Bool, true, false, not, ◌&&◌, length, nat_eq, if◌then◌else◌, flat_map}
use Rattle.std.specs.Int.{bit_at}

-- the k lowest bits of n, the highest of them first
unfoldable pub bits_of : ℕ → ℕ → List Bool
bits_of zero n = []
bits_of (suc k) n = nat_eq (bit_at n k) 1 ∷ bits_of k n

-- the number that bits stand for
unfoldable pub value_of : List Bool → ℕ
value_of [] = 0
value_of (b ∷ bits) = (if b then 2 ^ length bits else 0) + value_of bits

-- the number that octets stand for, the highest first
unfoldable pub number : List ℕ → ℕ
number [] = 0
number (b ∷ octets) = b * 256 ^ length octets + number octets

-- the bits of octets, eight of each
unfoldable pub octet_bits : List ℕ → List Bool
octet_bits octets = flat_map (bits_of 8) octets

-- whether two bits are the same
abbrev pub same_bit : Bool → Bool → Bool
same_bit true b = b
same_bit false b = not b

-- whether two lists of bits are the same
unfoldable pub same_bits : List Bool → List Bool → Bool
same_bits [] [] = true
same_bits [] (b ∷ q) = false
same_bits (b ∷ p) [] = false
same_bits (b ∷ p) (c ∷ q) = same_bit b c && same_bits p q

-- whether the bits begin with the prefix
abbrev pub begins : List Bool → List Bool → Bool
begins [] a = true
begins (true ∷ p) (true ∷ a) = begins p a
begins (false ∷ p) (false ∷ a) = begins p a
begins (b ∷ p) a = false
