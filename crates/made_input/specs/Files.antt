-- The octets of the dump and of the updates.
use Rattle.std.specs.Prelude.{ℕ, ◌+◌, ◌/◌, Bool, true, false, List, [], ◌∷◌, ◌++◌, length, replicate, flat_map}
use Rattle.std.specs.List.{range_with_len}
use Rattle.made_input.specs.Drawn.{peer_octets, made_asn, hop_octets, DrawnRoute, DrawnOffer, entry_route, entry_attrs, update_route, is_withdrawal, update_attrs}
use Rattle.wire_model.specs.Octets.{number_octets, behind_length, prefix_octets, attribute_octets, as_path_octets, record_octets}

-- ---- the dump (RFC 6396, 4.3)

-- Peer Type, by which the address is IPv4 and the AS has four octets, BGP ID, which is the address, address, AS
unfoldable pub peer_entry : ℕ → List ℕ
peer_entry i = 2 ∷ (peer_octets i ++ peer_octets i ++ number_octets 4 (made_asn i))

-- Collector BGP ID 0, an empty View Name, Peer Count, the eight peers
unfoldable pub peer_table_body : List ℕ
peer_table_body = number_octets 4 0 ++ number_octets 2 0 ++ number_octets 2 8 ++ flat_map peer_entry (range_with_len 0 8)

-- ORIGIN (1), which is IGP, AS_PATH (2) of the peer's AS alone, NEXT_HOP (3) (RFC 4271, 5.1.1 to 5.1.3)
unfoldable pub attrs_attributes : ℕ → DrawnOffer → List ℕ
attrs_attributes peer o = attribute_octets 1 (0 ∷ []) ++ attribute_octets 2 (as_path_octets (made_asn peer) o.path) ++ attribute_octets 3 (hop_octets o.hop)

-- Sequence, prefix, one entry: Peer Index, Originated Time 0, attributes
unfoldable pub rib_body : ℕ → DrawnRoute → DrawnOffer → List ℕ
rib_body i r o = number_octets 4 i ++ prefix_octets r.prefix ++ number_octets 2 1 ++ number_octets 2 r.peer ++ number_octets 4 0 ++ behind_length (attrs_attributes r.peer o)

-- TABLE_DUMP_V2 (13): a PEER_INDEX_TABLE (1), then a RIB_IPV4_UNICAST record (2) for each entry
abbrev pub dump_octets : ℕ → ℕ → List ℕ
dump_octets seed n = record_octets 13 1 peer_table_body ++ flat_map (λ i. record_octets 13 2 (rib_body i (entry_route seed i) (entry_attrs seed i))) (range_with_len 0 n)

-- ---- the updates (RFC 6396, 4.4.3)

-- An UPDATE that withdraws the prefix, without attributes, or one that announces it (RFC 4271, 4.3)
unfoldable pub update_body : Bool → DrawnRoute → DrawnOffer → List ℕ
update_body true r o = behind_length (prefix_octets r.prefix) ++ number_octets 2 0
update_body false r o = number_octets 2 0 ++ behind_length (attrs_attributes r.peer o) ++ prefix_octets r.prefix

-- Marker, Length, Type, which is 2 for an UPDATE (RFC 4271, 4.1)
unfoldable pub message_octets : List ℕ → List ℕ
message_octets body = replicate 16 255 ++ number_octets 2 (19 + length body) ++ 2 ∷ body

-- Peer AS, Local AS 64511, Interface Index 0, Address Family IPv4, the peer's address, the local address 192.0.2.254, the message
unfoldable pub session_body : ℕ → List ℕ → List ℕ
session_body peer message = number_octets 4 (made_asn peer) ++ number_octets 4 64511 ++ number_octets 2 0 ++ number_octets 2 1 ++ peer_octets peer ++ (192 ∷ 0 ∷ 2 ∷ 254 ∷ []) ++ message

-- BGP4MP (16): a BGP4MP_MESSAGE_AS4 record (4)
unfoldable pub update_record : Bool → DrawnRoute → DrawnOffer → List ℕ
update_record gone r o = record_octets 16 4 (session_body r.peer (message_octets (update_body gone r o)))

-- half as many updates as entries
abbrev pub updates_octets : ℕ → ℕ → List ℕ
updates_octets seed n = flat_map (λ j. update_record (is_withdrawal seed n j) (update_route seed n j) (update_attrs seed n j)) (range_with_len 0 (n / 2))
