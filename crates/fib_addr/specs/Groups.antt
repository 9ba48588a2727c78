-- IPv6 addresses as eight groups of 16 bits, and the text of groups (RFC 4291, 2.2, and RFC 5952, 4).
use Rattle.std.specs.Prelude.{◌≡◌, ℕ, ◌+◌, ◌-◌, ◌*◌, ◌≤◌, List, [], ◌∷◌, ◌++◌, Bool, ◌&&◌, ◌==◌, nat_lt, nat_le, length, take, drop, replicate, codes, Option, Some, None, option_map, flat_map, map, if◌then◌else◌}
use Rattle.std.specs.List.{slice_split, list_all}
use Rattle.std.specs.Option.{option_and_then}
use Rattle.std.specs.Char.{is_digit}
use Rattle.std.specs.Str.Parse.{digits_value}
use Rattle.std.specs.Net.Text.{groups_text, longest_zero_run}
use Rattle.table_model.specs.Bits.{bits_of, value_of}

-- the number of the group at this place
abbrev pub group_of : List Bool → ℕ → ℕ
group_of bits place = value_of (take 16 (drop (16 * place) bits))

-- the eight groups of 128 bits
abbrev pub groups_of : List Bool → List ℕ
groups_of bits = map (group_of bits) (0 ∷ 1 ∷ 2 ∷ 3 ∷ 4 ∷ 5 ∷ 6 ∷ 7 ∷ [])

-- the bits of groups, sixteen of each
unfoldable pub group_bits : List ℕ → List Bool
group_bits groups = flat_map (bits_of 16) groups

-- n groups from a place on are zero
abbrev pub IsZeroRun : List ℕ → ℕ → ℕ → Type 0
IsZeroRun groups place len = (place + len ≤ length groups) × (take len (drop place groups) ≡ replicate len 0)

-- a run of zero groups, place and length, than which none is longer, and none as long stands before it
pub record IsLongestZeroRun (groups : List ℕ) (run : ℕ × ℕ) : Type 0 where
  pub zeros : IsZeroRun groups run.0 run.1
  pub longest : (place len : ℕ) → IsZeroRun groups place len → len ≤ run.1
  pub first : (place len : ℕ) → IsZeroRun groups place len → len ≡ run.1 → run.0 ≤ place

-- `::` in place of a run of zero groups, whose place and length are given
abbrev pub shortened : List ℕ → ℕ × ℕ → List ℕ
shortened groups run = groups_text (take run.0 groups) ++ codes "::" ++ groups_text (drop (run.0 + run.1) groups)

-- Lower-case hexadecimal groups without leading zeros, with colons between them (RFC 5952, 4.1 and 4.3). The longest run
-- of two zero groups or more, and of equal ones the first, is written `::` (RFC 5952, 4.2).
unfoldable pub ipv6_text : List ℕ → List ℕ
ipv6_text groups = if nat_lt 1 (longest_zero_run groups).1 then shortened groups (longest_zero_run groups) else groups_text groups

-- the number of one to four hexadecimal digits, in either case
abbrev pub group_in : List ℕ → Option ℕ
group_in text = if nat_le 1 (length text) && nat_le (length text) 4 && list_all (λ c. is_digit c 16) text then Some (digits_value 16 text) else None

-- the values, if all are there
abbrev pub all_there : List (Option ℕ) → Option (List ℕ)
all_there [] = Some []
all_there (None ∷ more) = None
all_there (Some n ∷ more) = option_map (λ ns. n ∷ ns) (all_there more)

-- ':'
abbrev pub is_colon : ℕ → Bool
is_colon b = b == 58

-- groups with single colons between them; the empty text has none
abbrev pub single_groups_in : List ℕ → Option (List ℕ)
single_groups_in [] = Some []
single_groups_in (c ∷ text) = all_there (map group_in (slice_split is_colon (c ∷ text)))

-- what stands before and after the first `::`
abbrev pub around_gap : List ℕ → Option (List ℕ × List ℕ)
around_gap [] = None
around_gap (c ∷ []) = None
around_gap (c ∷ d ∷ text) = if is_colon c && is_colon d then Some ([], text) else option_map (λ sides. (c ∷ sides.0, sides.1)) (around_gap (d ∷ text))

-- all eight groups
abbrev pub eight : List ℕ → Option (List ℕ)
eight groups = if length groups == 8 then Some groups else None

-- at most seven groups, and zeros between them for those that are missing
abbrev pub filled_up : List ℕ → List ℕ → Option (List ℕ)
filled_up head tail = if nat_le (length head + length tail) 7 then Some (head ++ replicate (8 - length head - length tail) 0 ++ tail) else None

-- eight groups, or at most seven with one `::` that stands for those that are missing
abbrev pub split_groups_in : List ℕ → Option (List ℕ × List ℕ) → Option (List ℕ)
split_groups_in text None = option_and_then eight (single_groups_in text)
split_groups_in text (Some sides) = option_and_then (λ head. option_and_then (filled_up head) (single_groups_in sides.1)) (single_groups_in sides.0)

unfoldable pub groups_in : List ℕ → Option (List ℕ)
groups_in text = split_groups_in text (around_gap text)
