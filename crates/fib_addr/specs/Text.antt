-- The text of addresses and prefixes.
use Rattle.std.specs.Prelude.{ℕ, ◌+◌, ◌-◌, ◌*◌, List, [], ◌∷◌, ◌++◌, Bool, false, ◌&&◌, ◌==◌, nat_lt, length, take, drop, replicate, codes, decimal, bytes_eq, Option, Some, None, option_map, if◌then◌else◌}
use Rattle.std.specs.List.{slice_split, list_any, before_first, after_first}
use Rattle.std.specs.Option.{option_and_then}
use Rattle.std.specs.Net.Text.{dotted_text}
use Rattle.std.specs.Str.Parse.{digits_value}
use Rattle.table_model.specs.Bits.{value_of, octet_bits}
use Rattle.table_model.specs.Width.{width}
use Rattle.table_model.specs.Address.{Address, Prefix, first_bits}
use Rattle.table_model.specs.declared.family.Family.{Family}
use Rattle.table_model.specs.declared.family.Family.TheVariants.{V4, V6}
use Rattle.fib_addr.specs.Groups.{groups_of, group_bits, ipv6_text, groups_in}

-- the number of the octet at this place
abbrev pub octet_of : ℕ → List Bool → ℕ
octet_of place bits = value_of (take 8 (drop (8 * place) bits))

-- IPv4: four decimal numbers with dots between them. IPv6: eight groups (RFC 5952, 4).
abbrev pub bits_text : Family → List Bool → List ℕ
bits_text V4 bits = dotted_text (octet_of 0 bits) (octet_of 1 bits) (octet_of 2 bits) (octet_of 3 bits)
bits_text V6 bits = ipv6_text (groups_of bits)

abbrev pub address_text : Address → List ℕ
address_text a = bits_text a.family a.bits

-- the first address of the prefix's region: its bits, and zeros past its length
abbrev pub first_address : Prefix → Address
first_address p = record { family = p.family; bits = p.bits ++ replicate (width p.family - length p.bits) false }

-- that address, a slash, and the length (RFC 4632, 3.1, and RFC 4291, 2.3)
abbrev pub prefix_text : Prefix → List ℕ
prefix_text p = address_text (first_address p) ++ codes "/" ++ decimal (length p.bits)

-- the number below a bound whose decimal text this is; so it has no sign and no leading zero
abbrev pub number_below : ℕ → List ℕ → Option ℕ
number_below bound text = if bytes_eq (decimal (digits_value 10 text)) text && nat_lt (digits_value 10 text) bound then Some (digits_value 10 text) else None

-- four decimal numbers below 256
abbrev pub octets_in : List (List ℕ) → Option (List ℕ)
octets_in (a ∷ b ∷ c ∷ d ∷ []) =
    option_and_then (λ w. option_and_then (λ x. option_and_then (λ y. option_map (λ z. w ∷ x ∷ y ∷ z ∷ []) (number_below 256 d)) (number_below 256 c)) (number_below 256 b)) (number_below 256 a)
octets_in parts = None

-- '.'
abbrev pub is_dot : ℕ → Bool
is_dot b = b == 46

-- '/'
abbrev pub is_slash : ℕ → Bool
is_slash b = b == 47

-- the IPv4 address that a text stands for: four such numbers with dots between them
abbrev pub ipv4_in : List ℕ → Option Address
ipv4_in text = option_map (λ octets. record { family = V4; bits = octet_bits octets }) (octets_in (slice_split is_dot text))

-- the IPv6 address that a text stands for (RFC 4291, 2.2, without dotted parts)
abbrev pub ipv6_in : List ℕ → Option Address
ipv6_in text = option_map (λ groups. record { family = V6; bits = group_bits groups }) (groups_in text)

-- the address that a text stands for: with a dot an IPv4 address, else an IPv6 address
abbrev pub address_in : List ℕ → Option Address
address_in text = if list_any is_dot text then ipv4_in text else ipv6_in text

-- the prefix of an address and its length, if the bits past the length are 0
abbrev pub prefix_from : Address → ℕ → Option Prefix
prefix_from a len = if list_any (λ b. b) (drop len a.bits) then None else Some (first_bits len a)

-- the prefix that a text stands for: an address, a slash, and a decimal number of at most its width (RFC 4632, 3.1, and RFC 4291, 2.3)
abbrev pub prefix_in : List ℕ → Option Prefix
prefix_in text = if list_any is_slash text
    then option_and_then (λ a. option_and_then (prefix_from a) (number_below (width a.family + 1) (after_first is_slash text))) (address_in (before_first is_slash text))
    else None
