-- What a feed of routes says, event by event.
use Rattle.std.specs.Prelude.{ℕ, ◌&&◌, ◌==◌, Bool, Option}
use Rattle.std.specs.Ordering.{nat_cmp, ordering_then}
use Rattle.std.specs.declared.cmp.Ordering.{Ordering}
use Rattle.table_model.specs.Address.{Address, Prefix, IsAddress, IsPrefix, same_address}
use Rattle.table_model.specs.Bits.{value_of}
use Rattle.table_model.specs.Order.{family_cmp}

-- a peer: its address and its AS number (RFC 6396, 4.3.1 and 4.4)
pub record Peer : Type 0 where
  pub addr : Address
  pub asn : ℕ

abbrev pub IsPeer : Peer → Type 0
IsPeer q = IsAddress q.addr

abbrev pub same_peer : Peer → Peer → Bool
same_peer q r = same_address q.addr r.addr && q.asn == r.asn

-- IPv4 before IPv6, then by address, then by AS number
abbrev pub peer_cmp : Peer → Peer → Ordering
peer_cmp q r = ordering_then (family_cmp q.addr.family r.addr.family) (ordering_then (nat_cmp (value_of q.addr.bits) (value_of r.addr.bits)) (nat_cmp q.asn r.asn))

-- The path source of a route: its peer, and the path identifier that tells the peer's routes of one prefix apart (RFC 7911, 3), which is 0 if the peer sends none.
pub record Via : Type 0 where
  pub peer : Peer
  pub id : ℕ

abbrev pub IsVia : Via → Type 0
IsVia v = IsPeer v.peer

abbrev pub same_via : Via → Via → Bool
same_via v u = same_peer v.peer u.peer && v.id == u.id

-- by peer, then by path identifier
abbrev pub via_cmp : Via → Via → Ordering
via_cmp v u = ordering_then (peer_cmp v.peer u.peer) (nat_cmp v.id u.id)

-- What a peer says: a route of a prefix, with the length of its path, its next hop, and the AS in which it originates if its path says it (RFC 6811, 2); that a route is gone; or that the session is lost and all of the peer's routes with it.
pub data Event : Type 0 where
  Announce : Via → Prefix → ℕ → Address → Option ℕ → Event
  Withdraw : Via → Prefix → Event
  Down : Peer → Event

-- the event is of a peer, a prefix and a next hop that there are
abbrev pub IsEvent : Event → Type 0
IsEvent (Announce via prefix path hop origin) = IsVia via × IsPrefix prefix × IsAddress hop
IsEvent (Withdraw via prefix) = IsVia via × IsPrefix prefix
IsEvent (Down peer) = IsPeer peer

-- what is said of one prefix and one way
pub data Elem : Type 0 where
  Put : Via → Prefix → ℕ → Address → Elem
  Cut : Via → Prefix → Elem

-- the prefix that an elementary event is about
abbrev pub elem_prefix : Elem → Prefix
elem_prefix (Put via prefix path hop) = prefix
elem_prefix (Cut via prefix) = prefix
