-- How a candidate is written as an entry of a RIB record (RFC 6396, 4.3.4; RFC 4271, 4.3), by a path of its length and its next hop. What else its attributes said isn't kept.
use Rattle.std.specs.Prelude.{ℕ, ◌/◌, ◌%◌, Bool, List, [], ◌∷◌, ◌++◌, length, replicate, flat_map, position, unwrap_or, nat_lt, ◌==◌, if◌then◌else◌}
use Rattle.table_model.specs.declared.family.Family.TheVariants.{V4, V6}
use Rattle.table_model.specs.declared.family.Family.{Family}
use Rattle.table_model.specs.Address.{Address}
use Rattle.route_model.specs.Events.{Peer, same_peer}
use Rattle.route_model.specs.Choice.{Place, PathAttrs}
use Rattle.wire_model.specs.Octets.{number_octets, behind_length, address_octets, as_path_octets}

-- ---- a peer (RFC 6396, 4.3.1)

-- Peer Type: the address is IPv4 (2) or IPv6 (3), the AS has four octets
abbrev pub peer_type : Family → ℕ
peer_type V4 = 2
peer_type V6 = 3

-- Peer Type, BGP ID 0, address, AS
unfoldable pub table_peer : Peer → List ℕ
table_peer q = peer_type q.addr.family ∷ (number_octets 4 0 ++ address_octets q.addr ++ number_octets 4 q.asn)

-- ---- the attributes

-- full sequences of 255 AS numbers, and one of the rest, if there is any
unfoldable pub path_octets : ℕ → ℕ → List ℕ
path_octets asn n = flat_map (as_path_octets asn) (replicate (n / 255) 255) ++ (if n % 255 == 0 then [] else as_path_octets asn (n % 255))

-- AS_PATH (2): none for a path of length 0; its length takes two octets if it doesn't fit into one (RFC 4271, 4.3)
unfoldable pub path_attribute : ℕ → ℕ → List ℕ
path_attribute asn n =
    if n == 0 then [] else (
    if nat_lt (length (path_octets asn n)) 256 then 64 ∷ 2 ∷ length (path_octets asn n) ∷ path_octets asn n
    else 80 ∷ 2 ∷ behind_length (path_octets asn n))

-- NEXT_HOP (3), or for an IPv6 next hop MP_REACH_NLRI (14) in its short form (RFC 6396, 4.3.4)
abbrev pub hop_attribute_of : Family → List ℕ → List ℕ
hop_attribute_of V4 octets = 64 ∷ 3 ∷ 4 ∷ octets
hop_attribute_of V6 octets = 128 ∷ 14 ∷ 17 ∷ 16 ∷ octets

unfoldable pub hop_attribute : Address → List ℕ
hop_attribute hop = hop_attribute_of hop.family (address_octets hop)

unfoldable pub attributes_of : Place × PathAttrs → List ℕ
attributes_of c = path_attribute c.0.via.peer.asn c.1.path ++ hop_attribute c.1.hop

-- ---- the entry

-- the number of a peer among these, from 0
abbrev pub peer_index : List Peer → Peer → ℕ
peer_index peers q = unwrap_or (position (same_peer q) peers) 0

-- Path Identifier, if entries have one (RFC 8050, 4)
abbrev pub id_octets : Bool → ℕ → List ℕ
id_octets ids id = number_octets (if ids then 4 else 0) id

-- Peer Index, Originated Time 0, Path Identifier, attributes
unfoldable pub entry_octets : List Peer → Bool → Place × PathAttrs → List ℕ
entry_octets peers ids c = number_octets 2 (peer_index peers c.0.via.peer) ++ (number_octets 4 0 ++ (id_octets ids c.0.via.id ++ behind_length (attributes_of c)))
