-- Candidates and their checkpoints, octet for octet: none; one; and three with path identifiers, one of them of IPv6.
use Rattle.std.specs.Prelude.{ℕ, ◌+◌, ◌*◌, ◌^◌, List, [], ◌∷◌, take}
use Rattle.table_model.specs.declared.family.Family.TheVariants.{V4, V6}
use Rattle.table_model.specs.Bits.{bits_of}
use Rattle.table_model.specs.Address.{Address, Prefix}
use Rattle.route_model.specs.Events.{Peer, Via}
use Rattle.route_model.specs.Choice.{Place, PathAttrs, Candidates}

-- 192.0.2.n
abbrev pub near : ℕ → Address
near n = record { family = V4; bits = bits_of 32 (3221225984 + n) }

-- 2001:db8::1
abbrev pub far : Address
far = record { family = V6; bits = bits_of 128 (536939960 * 2 ^ 96 + 1) }

-- 10.0.0.0/8
abbrev pub ten : Prefix
ten = record { family = V4; bits = take 8 (bits_of 32 (10 * 2 ^ 24)) }

-- 2001:db8::/32
abbrev pub documented : Prefix
documented = record { family = V6; bits = bits_of 32 536939960 }

-- a route of 192.0.2.1, AS 64500, with a path of one AS
abbrev pub route_of : Prefix → ℕ → Address → Place × PathAttrs
route_of p id hop =
    let q : Peer = record { addr = near 1; asn = 64500 } in
    let v : Via = record { peer = q; id = id } in
    let place : Place = record { prefix = p; via = v } in
    let offer : PathAttrs = record { path = 1; hop = hop } in
    (place, offer)

abbrev pub one_held : Candidates
one_held = route_of ten 0 (near 1) ∷ []

abbrev pub three_held : Candidates
three_held = route_of ten 1 (near 1) ∷ route_of ten 2 (near 2) ∷ route_of documented 0 far ∷ []

abbrev pub none_octets : List ℕ
none_octets =
    0 ∷ 0 ∷ 0 ∷ 0 ∷ 0 ∷ 13 ∷ 0 ∷ 1 ∷ 0 ∷ 0 ∷ 0 ∷ 8 ∷ 0 ∷ 0 ∷ 0 ∷ 0 ∷ 0 ∷ 0 ∷ 0 ∷ 0 ∷ []

abbrev pub one_octets : List ℕ
one_octets =
    0 ∷ 0 ∷ 0 ∷ 0 ∷ 0 ∷ 13 ∷ 0 ∷ 1 ∷ 0 ∷ 0 ∷ 0 ∷ 21 ∷ 0 ∷ 0 ∷ 0 ∷ 0 ∷ 0 ∷ 0 ∷ 0 ∷ 1 ∷ 2 ∷ 0 ∷ 0 ∷ 0 ∷ 0 ∷ 192 ∷ 0 ∷ 2 ∷ 1 ∷ 0 ∷ 0 ∷ 251 ∷ 244 ∷ 0 ∷ 0 ∷ 0
    ∷ 0 ∷ 0 ∷ 13 ∷ 0 ∷ 2 ∷ 0 ∷ 0 ∷ 0 ∷ 32 ∷ 0 ∷ 0 ∷ 0 ∷ 0 ∷ 8 ∷ 10 ∷ 0 ∷ 1 ∷ 0 ∷ 0 ∷ 0 ∷ 0 ∷ 0 ∷ 0 ∷ 0 ∷ 16 ∷ 64 ∷ 2 ∷ 6 ∷ 2 ∷ 1 ∷ 0 ∷ 0 ∷ 251 ∷ 244 ∷ 64
    ∷ 3 ∷ 4 ∷ 192 ∷ 0 ∷ 2 ∷ 1 ∷ []

abbrev pub three_octets : List ℕ
three_octets =
    0 ∷ 0 ∷ 0 ∷ 0 ∷ 0 ∷ 13 ∷ 0 ∷ 1 ∷ 0 ∷ 0 ∷ 0 ∷ 21 ∷ 0 ∷ 0 ∷ 0 ∷ 0 ∷ 0 ∷ 0 ∷ 0 ∷ 1 ∷ 2 ∷ 0 ∷ 0 ∷ 0 ∷ 0 ∷ 192 ∷ 0 ∷ 2 ∷ 1 ∷ 0 ∷ 0 ∷ 251 ∷ 244 ∷ 0 ∷ 0 ∷ 0
    ∷ 0 ∷ 0 ∷ 13 ∷ 0 ∷ 8 ∷ 0 ∷ 0 ∷ 0 ∷ 64 ∷ 0 ∷ 0 ∷ 0 ∷ 0 ∷ 8 ∷ 10 ∷ 0 ∷ 2 ∷ 0 ∷ 0 ∷ 0 ∷ 0 ∷ 0 ∷ 0 ∷ 0 ∷ 0 ∷ 0 ∷ 1 ∷ 0 ∷ 16 ∷ 64 ∷ 2 ∷ 6 ∷ 2 ∷ 1 ∷ 0 ∷ 0 ∷
    251 ∷ 244 ∷ 64 ∷ 3 ∷ 4 ∷ 192 ∷ 0 ∷ 2 ∷ 1 ∷ 0 ∷ 0 ∷ 0 ∷ 0 ∷ 0 ∷ 0 ∷ 0 ∷ 0 ∷ 0 ∷ 2 ∷ 0 ∷ 16 ∷ 64 ∷ 2 ∷ 6 ∷ 2 ∷ 1 ∷ 0 ∷ 0 ∷ 251 ∷ 244 ∷ 64 ∷ 3 ∷ 4 ∷ 192
    ∷ 0 ∷ 2 ∷ 2 ∷ 0 ∷ 0 ∷ 0 ∷ 0 ∷ 0 ∷ 13 ∷ 0 ∷ 10 ∷ 0 ∷ 0 ∷ 0 ∷ 52 ∷ 0 ∷ 0 ∷ 0 ∷ 1 ∷ 32 ∷ 32 ∷ 1 ∷ 13 ∷ 184 ∷ 0 ∷ 1 ∷ 0 ∷ 0 ∷ 0 ∷ 0 ∷ 0 ∷ 0 ∷ 0 ∷ 0 ∷ 0 ∷
    0 ∷ 0 ∷ 29 ∷ 64 ∷ 2 ∷ 6 ∷ 2 ∷ 1 ∷ 0 ∷ 0 ∷ 251 ∷ 244 ∷ 128 ∷ 14 ∷ 17 ∷ 16 ∷ 32 ∷ 1 ∷ 13 ∷ 184 ∷ 0 ∷ 0 ∷ 0 ∷ 0 ∷ 0 ∷ 0 ∷ 0 ∷ 0 ∷ 0 ∷ 0 ∷ 0 ∷ 1 ∷ []
