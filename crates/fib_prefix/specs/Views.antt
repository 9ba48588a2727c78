-- What a clause sees of peers, of what they say, and of candidates.
use Rattle.std.specs.Prelude.{◌<◌, ◌^◌}
use Rattle.table_model.specs.Address.{IsAddress}
use Rattle.fib_addr.specs.Views.{addr_as, prefix_as}
use Rattle.route_model.specs.Events.{Peer, Via, Event, Announce, Withdraw, Down, Elem, Put, Cut}
use Rattle.route_model.specs.Choice.{Place, PathAttrs}
use Rattle.fib_prefix.specs.declared.event.Cand as code_cand
use Rattle.fib_prefix.specs.declared.event.Peer as code_peer
use Rattle.fib_prefix.specs.declared.event.Via as code_via
use Rattle.fib_prefix.specs.declared.event.Event as code_event
use Rattle.fib_prefix.specs.declared.event.Event.TheVariants as event
use Rattle.fib_prefix.specs.declared.event.Elem as code_elem
use Rattle.fib_prefix.specs.declared.event.Elem.TheVariants as elem

abbrev pub peer_as : code_peer.Peer → Peer
peer_as q = record { addr = addr_as q.addr; asn = q.asn }

abbrev pub via_as : code_via.Via → Via
via_as v = record { peer = peer_as v.peer; id = v.id }

abbrev pub event_as : code_event.Event → Event
event_as (event.Announce v p path hop origin) = Announce (via_as v) (prefix_as p) path (addr_as hop) origin
event_as (event.Withdraw v p) = Withdraw (via_as v) (prefix_as p)
event_as (event.Down q) = Down (peer_as q)

abbrev pub elem_as : code_elem.Elem → Elem
elem_as (elem.Put v p path hop) = Put (via_as v) (prefix_as p) path (addr_as hop)
elem_as (elem.Cut v p) = Cut (via_as v) (prefix_as p)

abbrev pub cand_as : code_cand.Cand → Place × PathAttrs
cand_as c = (record { prefix = prefix_as c.prefix; via = via_as c.via }, record { path = c.path; hop = addr_as c.hop })

-- What a candidate is on the wire: an AS number (RFC 6793, 3) and a path identifier (RFC 7911, 3) of four octets, and a next hop with as many bits as its family's addresses.
pub record IsOfOctets (c : Place × PathAttrs) : Type 0 where
  pub asn : c.0.via.peer.asn < 2 ^ 32
  pub id : c.0.via.id < 2 ^ 32
  pub hop : IsAddress c.1.hop
