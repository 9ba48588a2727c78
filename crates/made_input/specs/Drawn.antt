-- What is drawn: routes of eight peers, then updates of these routes; and the events that they are. Addresses and AS numbers are those set aside for documentation (RFC 5737, 3; RFC 5398, 4).
use Rattle.std.specs.Prelude.{ℕ, ◌+◌, ◌*◌, ◌/◌, ◌%◌, ◌^◌, Bool, List, [], ◌∷◌, map, Some, ◌==◌, if◌then◌else◌}
use Rattle.std.specs.List.{range_with_len}
use Rattle.table_model.specs.declared.family.Family.TheVariants.{V4}
use Rattle.table_model.specs.Address.{Address, Prefix, first_bits}
use Rattle.table_model.specs.Bits.{bits_of, octet_bits}
use Rattle.route_model.specs.Events.{Peer, Via, Event, Announce, Withdraw}
use Rattle.made_input.specs.Draws.{state_after, draw}

-- ---- addresses

-- the IPv4 address of four octets
abbrev pub ipv4 : List ℕ → Address
ipv4 octets = record { family = V4; bits = octet_bits octets }

-- the octets of 192.0.2.1 to 192.0.2.8, the peers' addresses
abbrev pub peer_octets : ℕ → List ℕ
peer_octets i = 192 ∷ 0 ∷ 2 ∷ (1 + i) ∷ []

-- AS 64500 to 64507, the peers' AS numbers
abbrev pub made_asn : ℕ → ℕ
made_asn i = 64500 + i

-- peer i, from 0
unfoldable pub made_peer : ℕ → Peer
made_peer i = record { addr = ipv4 (peer_octets i); asn = made_asn i }

-- the eight peers
abbrev pub made_peers : List Peer
made_peers = map made_peer (range_with_len 0 8)

-- the octets of 198.51.100.1 to 198.51.100.16, the next hops
abbrev pub hop_octets : ℕ → List ℕ
hop_octets i = 198 ∷ 51 ∷ 100 ∷ (1 + i) ∷ []

-- ---- what a state leads to

-- which prefix of which peer
pub record DrawnRoute : Type 0 where
  pub prefix : Prefix
  pub peer : ℕ

-- the length of a path, and a next hop by its number from 0
pub record DrawnOffer : Type 0 where
  pub path : ℕ
  pub hop : ℕ

-- Three draws: how many bits, 8 to 24; the address that they are the first bits of, a multiple of 256; one of the eight peers.
unfoldable pub route : ℕ → DrawnRoute
route x = record {
  prefix = first_bits (8 + draw x 0 % 17) (record { family = V4; bits = bits_of 32 (draw x 1 % 2 ^ 24 * 256) });
  peer = draw x 2 % 8;
}

-- two draws: a path of 1 to 4, one of sixteen next hops
unfoldable pub attrs : ℕ → DrawnOffer
attrs x = record { path = 1 + draw x 0 % 4; hop = draw x 1 % 16 }

-- ---- the entries of the dump, five draws each

-- where entry i begins, from 0
abbrev pub entry_state : ℕ → ℕ → ℕ
entry_state seed i = state_after seed (5 * i)

-- its route
abbrev pub entry_route : ℕ → ℕ → DrawnRoute
entry_route seed i = route (entry_state seed i)

-- what it offers, of the two draws after the route's
abbrev pub entry_attrs : ℕ → ℕ → DrawnOffer
entry_attrs seed i = attrs (state_after (entry_state seed i) 3)

-- ---- the updates after n entries, four draws each

-- where update j begins, from 0: after the draws of the entries and of the updates before it
abbrev pub update_state : ℕ → ℕ → ℕ → ℕ
update_state seed n j = state_after seed (5 * n + 4 * j)

-- it is of the route of an entry drawn among the n
abbrev pub update_route : ℕ → ℕ → ℕ → DrawnRoute
update_route seed n j = entry_route seed (draw (update_state seed n j) 0 % n)

-- one of four kinds withdraws it
abbrev pub is_withdrawal : ℕ → ℕ → ℕ → Bool
is_withdrawal seed n j = draw (update_state seed n j) 1 % 4 == 0

-- the others announce it with this offer
abbrev pub update_attrs : ℕ → ℕ → ℕ → DrawnOffer
update_attrs seed n j = attrs (state_after (update_state seed n j) 2)

-- ---- the events

-- routes come without path identifiers
abbrev pub made_via : ℕ → Via
made_via i = record { peer = made_peer i; id = 0 }

-- the peer announces the route with this path and next hop; it originates in the peer's AS
abbrev pub announcement : DrawnRoute → DrawnOffer → Event
announcement r o = Announce (made_via r.peer) r.prefix o.path (ipv4 (hop_octets o.hop)) (Some (made_asn r.peer))

-- the peer withdraws the route
abbrev pub withdrawal : DrawnRoute → Event
withdrawal r = Withdraw (made_via r.peer) r.prefix

-- n routes are announced
abbrev pub dump_events : ℕ → ℕ → List Event
dump_events seed n = map (λ i. announcement (entry_route seed i) (entry_attrs seed i)) (range_with_len 0 n)

-- half as many are withdrawn or announced again
abbrev pub update_events : ℕ → ℕ → List Event
update_events seed n = map (λ j. if is_withdrawal seed n j then withdrawal (update_route seed n j) else announcement (update_route seed n j) (update_attrs seed n j)) (range_with_len 0 (n / 2))
