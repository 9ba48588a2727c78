-- Attribute lists (RFC 4271, 4.3 and 5; RFC 4760, 3 and 4; RFC 6396, 4.3.4).
use Rattle.std.specs.Prelude.{ℕ, zero, suc, List, [], ◌∷◌, length, take, Option, Some, None, unwrap_or, Result, Ok, Err, Bool, true, false, not, bit_and, ◌==◌, ◌||◌, ◌&&◌, if◌then◌else◌}
use Rattle.table_model.specs.declared.family.Family.{Family}
use Rattle.table_model.specs.declared.family.Family.TheVariants.{V4, V6}
use Rattle.table_model.specs.Address.{Address, same_family}
use Rattle.table_model.specs.Bits.{octet_bits}
use Rattle.octet_fields.specs.Field.{◌>>=◌, refuse, octet_at, octets_at, number_at, until_end}
use Rattle.wire_model.specs.declared.place.Place.{Place}
use Rattle.wire_model.specs.declared.place.Place.TheVariants.{Rib, Update}
use Rattle.wire_model.specs.declared.rule.Rule.{Rule}
use Rattle.wire_model.specs.declared.rule.Rule.TheVariants.{AttributeCut, AttributeValue, SecondMp}
use Rattle.wire_model.specs.Wire.{Nlri, family_at, nlris}
use Rattle.wire_model.specs.Path.{Path, no_path, as_size, path_of}

-- what MP_REACH_NLRI gives: a next hop for these routes
pub record ReachAttr : Type 0 where
  pub family : Family
  pub hop : Address
  pub nlri : List Nlri

-- what MP_UNREACH_NLRI gives: these routes are withdrawn
pub record Unreached : Type 0 where
  pub family : Family
  pub nlri : List Nlri

-- what stood in an attribute list so far; of AS_PATH and NEXT_HOP the value, or none if it isn't of its form
pub record Found : Type 0 where
  pub path : Option (Option Path)
  pub hop : Option (Option Address)
  pub has_reach : Bool
  pub reach : Option ReachAttr
  pub has_unreach : Bool
  pub unreach : Option Unreached

abbrev pub nothing_found : Found
nothing_found = record { path = None; hop = None; has_reach = false; reach = None; has_unreach = false; unreach = None }

-- ---- next hops

-- 4 octets are an IPv4 address; of 16 or 32 the first 16 are an IPv6 address (RFC 2545, 3)
abbrev pub hop_of : List ℕ → Address
hop_of octets = if length octets == 4 then record { family = V4; bits = octet_bits octets } else record { family = V6; bits = octet_bits (take 16 octets) }

-- the lengths of a next hop: 4 for IPv4 (RFC 4271, 5.1.3); 16, or 32 with a link-local address after it, for IPv6 (RFC 2545, 3), and for IPv4 prefixes with an IPv6 next hop (RFC 8950, 3)
abbrev pub is_hop_length : Family → ℕ → Bool
is_hop_length V4 n = n == 4 || n == 16 || n == 32
is_hop_length V6 n = n == 16 || n == 32

-- Length of Next Hop, Next Hop (RFC 4760, 3)
unfoldable pub next_hop_at : Family → List ℕ → Result (Address × List ℕ) Rule
next_hop_at family octets = do
  len ← octet_at AttributeValue octets
  known ← refuse AttributeValue (not (is_hop_length family len.0))
  hop ← octets_at AttributeValue len.0 len.1
  Ok (hop_of hop.0, hop.1)

-- ---- MP_REACH_NLRI of a RIB entry (RFC 6396, 4.3.4)

abbrev pub is_of : Family → Option Family → Bool
is_of family None = false
is_of family (Some other) = same_family family other

-- AFI and SAFI of this family, then the next hop
unfoldable pub full_hop : Family → List ℕ → Result (Address × List ℕ) Rule
full_hop family value = do
  other ← family_at value
  known ← refuse AttributeValue (not (is_of family other.0))
  next_hop_at family other.1

-- RFC 6396 has the next hop's length and the next hop alone. A value that begins with 0 is RFC 4760's full form, as some daemons write it: no next hop has length 0, and AFI 1 and 2 begin with 0.
unfoldable pub rib_hop : Family → List ℕ → Result (Address × List ℕ) Rule
rib_hop family [] = Err AttributeValue
rib_hop family (zero ∷ rest) = full_hop family (0 ∷ rest)
rib_hop family (suc n ∷ rest) = next_hop_at family (suc n ∷ rest)

-- what can't be read is passed over, as if there were no next hop
abbrev pub reach_of_rib : Family → Result (Address × List ℕ) Rule → Option ReachAttr
reach_of_rib family (Err rule) = None
reach_of_rib family (Ok hop) = Some (record { family = family; hop = hop.0; nlri = [] })

-- ---- the MP attributes of an UPDATE

-- MP_REACH_NLRI (RFC 4760, 3): next hop, Reserved, NLRI to the end, with path identifiers or without; another family is passed over
unfoldable pub reach_in : Bool → Option Family → List ℕ → Result (Option ReachAttr) Rule
reach_in ids None octets = Ok None
reach_in ids (Some family) octets = do
  hop ← next_hop_at family octets
  reserved ← octet_at AttributeValue hop.1
  nlri ← nlris AttributeValue ids family reserved.1
  Ok (Some (record { family = family; hop = hop.0; nlri = nlri }))

-- MP_UNREACH_NLRI (RFC 4760, 4): withdrawn routes to the end; another family is passed over
unfoldable pub unreach_in : Bool → Option Family → List ℕ → Result (Option Unreached) Rule
unreach_in ids None octets = Ok None
unreach_in ids (Some family) octets = do
  nlri ← nlris AttributeValue ids family octets
  Ok (Some (record { family = family; nlri = nlri }))

-- ---- the values, each as it changes what stood before it

-- the AS numbers of a RIB entry have four octets
abbrev pub is_wide : Place → Bool
is_wide (Rib family) = true
is_wide (Update wide ids) = wide

-- A value that isn't of its form is refused in a RIB entry; in an UPDATE it is none, and the message is treated as a withdrawal (RFC 7606, 7.2 and 7.3).
abbrev pub judged : {A : Type 0} → Place → Result A Rule → Result (Option A) Rule
judged place (Ok x) = Ok (Some x)
judged (Rib family) (Err rule) = Err rule
judged (Update wide ids) (Err rule) = Ok None

-- of repeated attributes the first counts, and the others are unread (RFC 7606, 3 (g))
abbrev pub keep_first : {A : Type 0} → Option A → Result A Rule → Result (Option A) Rule
keep_first (Some x) read = Ok (Some x)
keep_first None read = read >>= λ x. Ok (Some x)

unfoldable pub with_as_path : Place → Found → List ℕ → Result Found Rule
with_as_path place found value = do
  path ← keep_first found.path (judged place (path_of (as_size (is_wide place)) value))
  Ok (record found { path = path })

-- exactly four octets
abbrev pub next_hop_in : List ℕ → Result Address Rule
next_hop_in value = if length value == 4 then Ok (record { family = V4; bits = octet_bits value }) else Err AttributeValue

unfoldable pub with_next_hop : Place → Found → List ℕ → Result Found Rule
with_next_hop place found value = do
  hop ← keep_first found.hop (judged place (next_hop_in value))
  Ok (record found { hop = hop })

unfoldable pub with_reach : Place → Found → List ℕ → Result Found Rule
with_reach (Rib family) found value = Ok (record found { has_reach = true; reach = reach_of_rib family (rib_hop family value) })
with_reach (Update wide ids) found value = do
  family ← family_at value
  reach ← reach_in ids family.0 family.1
  Ok (record found { has_reach = true; reach = reach })

-- a RIB entry's list doesn't use it
unfoldable pub with_unreach : Place → Found → List ℕ → Result Found Rule
with_unreach (Rib family) found value = Ok found
with_unreach (Update wide ids) found value = do
  family ← family_at value
  unreach ← unreach_in ids family.0 family.1
  Ok (record found { has_unreach = true; unreach = unreach })

-- AS_PATH (2), NEXT_HOP (3), MP_REACH_NLRI (14), MP_UNREACH_NLRI (15); all others are passed over unread
unfoldable pub with_value : Place → Found → ℕ → List ℕ → Result Found Rule
with_value place found kind value =
    if kind == 2 then with_as_path place found value else (
    if kind == 3 then with_next_hop place found value else (
    if kind == 14 then with_reach place found value else (
    if kind == 15 then with_unreach place found value else Ok found)))

-- ---- the list

-- a second MP_REACH_NLRI, or a second MP_UNREACH_NLRI if the list uses it (RFC 7606, 3 (g))
abbrev pub is_second : Found → ℕ → Bool
is_second found kind = (found.has_reach && kind == 14) || (found.has_unreach && kind == 15)

-- An attribute (RFC 4271, 4.3): flags, a type, which isn't that of a second MP attribute, a length of two octets if flag 16 is set and else of one, the value.
unfoldable pub attribute_at : Place → Found → List ℕ → Result (Found × List ℕ) Rule
attribute_at place found octets = do
  flags ← octet_at AttributeCut octets
  kind ← octet_at AttributeCut flags.1
  first ← refuse SecondMp (is_second found kind.0)
  len ← number_at AttributeCut (if bit_and flags.0 16 == 0 then 1 else 2) kind.1
  value ← octets_at AttributeCut len.0 len.1
  next ← with_value place found kind.0 value.0
  Ok (next, value.1)

-- what a list as a whole gives
pub record Listed : Type 0 where
  pub path : Path
  pub hop : Option Address
  pub reach : Option ReachAttr
  pub unreach : Option Unreached
  pub bad : Bool

-- whether the value isn't of its form
abbrev pub is_bad : {A : Type 0} → Option (Option A) → Bool
is_bad (Some None) = true
is_bad found = false

-- Without AS_PATH the length is 0, and there is no origin. A list is bad if the first AS_PATH or the first NEXT_HOP isn't of its form: it has neither length nor origin nor next hop then.
abbrev pub listed_from : Found → Listed
listed_from found =
    let bad = is_bad found.path || is_bad found.hop in
    record {
      path = if bad then no_path else unwrap_or (unwrap_or found.path None) no_path;
      hop = if bad then None else unwrap_or found.hop None;
      reach = found.reach;
      unreach = found.unreach;
      bad = bad;
    }

-- attributes to the end
unfoldable pub attributes : Place → List ℕ → Result Listed Rule
attributes place octets = until_end (attribute_at place) nothing_found octets >>= λ found. Ok (listed_from found)
