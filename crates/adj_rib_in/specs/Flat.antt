-- What the flat candidates stand for.
use Rattle.std.specs.Prelude.{cond, ◌≡◌, ◌≢◌, ◌-◌, ◌^◌, ◌<◌, ◌≤◌, ◌⊎◌, ℕ, suc, List, [], ◌∷◌, ◌++◌, Bool, true, false, ◌&&◌, length, slice_get, Option, Some, None, option_map, is_some}
use Rattle.std.specs.List.{list_any}
use Rattle.std.specs.Ordering.{is_eq}
use Rattle.std.specs.Map.{lookup}
use Rattle.std.specs.BTreeMap.{is_at}
use Rattle.std.specs.declared.cmp.Ordering.TheVariants.{Less}
use Rattle.fib_prefix.specs.Views.{peer_as}
use Rattle.fib_addr.specs.Order.{code_cmp}
use Rattle.fib_prefix.specs.Order.{code_peer_cmp}
use Rattle.fib_addr.specs.declared.addr.Addr.{Addr}
use Rattle.fib_prefix.specs.declared.event.Peer.{Peer}
use Rattle.fib_prefix.specs.declared.event.Via.{Via}
use Rattle.fib_addr.specs.declared.prefix.Prefix as code
use Rattle.route_model.specs.Events.{same_peer}
use Rattle.adj_rib_in.specs.declared.keys.PathKey.{PathKey}
use Rattle.adj_rib_in.specs.declared.keys.PathAttrs.{PathAttrs}
use Rattle.adj_rib_in.specs.declared.rows.Row.{Row}
use Rattle.adj_rib_in.specs.declared.slot.PathSlot.{PathSlot}
use Rattle.adj_rib_in.specs.declared.flat.Flat.{Flat}
use Rattle.adj_rib_in.specs.Orders.{key_cmp}
use Rattle.adj_rib_in.specs.Paths.{Paths, attrs_at}
use Rattle.adj_rib_in.specs.Chains.{AreChained, no_peer, chain_end}

-- the hop number of a slot that offers nothing
abbrev pub no_hop : ℕ
no_hop = 4294967295

-- the path source of a peer and a path identifier, and that of a slot
abbrev pub via_or : Option Peer → ℕ → Option Via
via_or None id = None
via_or (Some q) id = Some (record { peer = q; id = id })

abbrev pub via_on : List Peer → PathSlot → Option Via
via_on peers s = via_or (slice_get peers s.peer) s.id

-- the path key of a row and a path source, and that of a slot
abbrev pub key_or : Option Row → Option Via → Option PathKey
key_or None v = None
key_or (Some r) None = None
key_or (Some r) (Some v) = Some (record { via = v; prefix = r.prefix })

abbrev pub key_on : List Row → List Peer → PathSlot → Option PathKey
key_on rows peers s = key_or (slice_get rows s.row) (via_on peers s)

-- what a slot offers
abbrev pub attrs_on : List Addr → PathSlot → Option PathAttrs
attrs_on hops s = option_map (λ h. record { path = s.path; hop = h }) (slice_get hops s.hop)

-- the path keys of slots, in their order, with what is offered at each
abbrev pub key_then : Option PathKey → Option PathAttrs → Paths → Paths
key_then None o paths = paths
key_then (Some s) o paths = (s, o) ∷ paths

unfoldable pub paths_on : List Row → List Peer → List Addr → List PathSlot → Paths
paths_on rows peers hops [] = []
paths_on rows peers hops (s ∷ slots) = key_then (key_on rows peers s) (attrs_on hops s) (paths_on rows peers hops slots)

abbrev pub flat_paths : Flat → Paths
flat_paths b = paths_on b.rows.items b.peers.keys b.hops.keys b.rows.slots

-- ---- what always holds

-- a slot's row is there, and the slot lies in its run; its peer and its hop are there or none
pub record IsSlotPlaced (rows : List Row) (peers : List Peer) (hops : List Addr) (i : ℕ) (s : PathSlot) : Type 0 where
  pub row : Row
  pub there : slice_get rows s.row ≡ Some row
  pub from : row.off ≤ i
  pub to : (next : Row) → slice_get rows (suc s.row) ≡ Some next → i < next.off
  pub peer : ((q : Peer) × (slice_get peers s.peer ≡ Some q)) ⊎ (s.peer ≡ no_peer)
  pub hop : ((h : Addr) × (slice_get hops s.hop ≡ Some h)) ⊎ (s.hop ≡ no_hop)

-- no two peers are one
abbrev pub AreNumbers : List Peer → Type 0
AreNumbers peers = (i j : ℕ) (q r : Peer) → slice_get peers i ≡ Some q → slice_get peers j ≡ Some r → same_peer (peer_as q) (peer_as r) ≡ true → i ≡ j

-- rows stand in strict order of their prefixes, slots lie in the runs of their rows and in the chains of their peers, and no two slots of a row are of one way
pub record AreFlat (rows : List Row) (slots : List PathSlot) (peers : List Peer) (hops : List Addr) (ends : List ℕ) : Type 0 where
  pub ordered : (i j : ℕ) (r t : Row) → i < j → slice_get rows i ≡ Some r → slice_get rows j ≡ Some t → code_cmp r.prefix t.prefix ≡ Less
  pub placed : (i : ℕ) (s : PathSlot) → slice_get slots i ≡ Some s → IsSlotPlaced rows peers hops i s
  pub within : (i : ℕ) (r : Row) → slice_get rows i ≡ Some r → r.off ≤ length slots
  pub alone : (i j : ℕ) (s t : PathSlot) → slice_get slots i ≡ Some s → slice_get slots j ≡ Some t → s.row ≡ t.row → s.peer ≡ t.peer → s.id ≡ t.id → s.peer ≢ no_peer → i ≡ j
  pub few : length hops ≤ no_hop
  pub few_peers : length peers ≤ no_peer
  pub numbers : AreNumbers peers
  pub listed : length peers ≤ length ends
  pub chained : AreChained slots ends

abbrev pub IsFlat : Flat → Type 0
IsFlat b = AreFlat b.rows.items b.rows.slots b.peers.keys b.hops.keys b.ends.items

-- a row, a slot, a peer and a hop more have numbers: rows and slots below 2^32 - 1, so that 1 more than a slot's place is a number too
pub record HasNumbers (b : Flat) : Type 0 where
  pub rows : length b.rows.items < 2 ^ 32 - 1
  pub slots : length b.rows.slots < 2 ^ 32 - 1
  pub peers : length b.peers.keys < no_peer
  pub hops : length b.hops.keys < no_hop

-- what is numbered stays so
abbrev pub KeepsNumbers : {X : Type 0} → List X → List X → Type 0
KeepsNumbers {X} old new = (i : ℕ) (x : X) → slice_get old i ≡ Some x → slice_get new i ≡ Some x

-- what is there keeps its place and its number
pub record Grows (old new : Flat) : Type 0 where
  pub rows : KeepsNumbers old.rows.items new.rows.items
  pub slots : KeepsNumbers old.rows.slots new.rows.slots
  pub peers : KeepsNumbers old.peers.keys new.peers.keys
  pub hops : KeepsNumbers old.hops.keys new.hops.keys

-- the peer's number, if it has one
abbrev pub IsPeerNumber : List Peer → Peer → ℕ → Type 0
IsPeerNumber peers q n = (r : Peer) × (slice_get peers n ≡ Some r) × (same_peer (peer_as q) (peer_as r) ≡ true)

abbrev pub HasNoNumber : List Peer → Peer → Type 0
HasNoNumber peers q = (i : ℕ) (r : Peer) → slice_get peers i ≡ Some r → same_peer (peer_as q) (peer_as r) ≡ false

-- ---- what is found

abbrev pub IsRowPlace : List Row → code.Prefix → ℕ → Type 0
IsRowPlace rows p r = (row : Row) × (slice_get rows r ≡ Some row) × (is_eq (code_cmp p row.prefix) ≡ true)

abbrev pub HasNoRow : List Row → code.Prefix → Type 0
HasNoRow rows p = (i : ℕ) (row : Row) → slice_get rows i ≡ Some row → is_eq (code_cmp p row.prefix) ≡ false

abbrev pub IsSlot : List PathSlot → ℕ → ℕ → ℕ → ℕ → Type 0
IsSlot slots r q id i = (s : PathSlot) × (slice_get slots i ≡ Some s) × (s.row ≡ r) × (s.peer ≡ q) × (s.id ≡ id)

abbrev pub HasNoSlot : List PathSlot → ℕ → ℕ → ℕ → Type 0
HasNoSlot slots r q id = (i : ℕ) (s : PathSlot) → slice_get slots i ≡ Some s → s.row ≡ r → s.peer ≡ q → s.id ≡ id → ⊥

-- the slot of a path key
pub record IsSlotOf (b : Flat) (t : PathKey) (i : ℕ) : Type 0 where
  pub slot : PathSlot
  pub there : slice_get b.rows.slots i ≡ Some slot
  pub key : PathKey
  pub is : key_on b.rows.items b.peers.keys slot ≡ Some key
  pub same : is_eq (key_cmp t key) ≡ true

abbrev pub HasNoKey : Flat → PathKey → Type 0
HasNoKey b t = lookup (is_at (key_cmp t)) (flat_paths b) ≡ None

-- at most one of two parts has a path key
abbrev pub ShareNoKey : Paths → Paths → Type 0
ShareNoKey base over = (s : PathKey) (attrs : PathAttrs) → attrs_at over s ≡ Some attrs → lookup (is_at (key_cmp s)) base ≡ None

-- the run of a row: it begins at the row's place, and ends where the next row's begins, or at the end
abbrev pub off_or : ℕ → Option Row → ℕ
off_or end None = end
off_or end (Some row) = row.off

-- a place in the run of a row
abbrev pub IsInRun : List Row → ℕ → ℕ → ℕ → Type 0
IsInRun rows r end i = (off_or end (slice_get rows r) ≤ i) × (i < off_or end (slice_get rows (suc r)))

abbrev pub IsSlotRun : List Row → ℕ → ℕ → ℕ → ℕ → Type 0
IsSlotRun rows r end from to = (from ≡ off_or end (slice_get rows r)) × (to ≡ off_or end (slice_get rows (suc r)))

-- the prefix comes after all rows
abbrev pub IsBehind : List Row → code.Prefix → Type 0
IsBehind rows p = (i : ℕ) (row : Row) → slice_get rows i ≡ Some row → code_cmp row.prefix p ≡ Less

-- the slot with another offer
abbrev pub with_attrs : ℕ → ℕ → PathSlot → PathSlot
with_attrs path hop s = record { path = path; peer = s.peer; id = s.id; hop = hop; row = s.row; link = s.link }

-- the slot as no path key any more
abbrev pub emptied : PathSlot → PathSlot
emptied s = record { path = s.path; peer = no_peer; id = s.id; hop = s.hop; row = s.row; link = s.link }

abbrev pub no_slot : PathSlot
no_slot = record { path = 0; peer = 0; id = 0; hop = no_hop; row = 0; link = 0 }

-- the row of the prefix is the last one
abbrev pub IsLastRow : List Row → code.Prefix → ℕ → Type 0
IsLastRow rows p r = IsRowPlace rows p r × (suc r ≡ length rows)

-- the path keys after something is offered at one of them
abbrev pub Puts : Paths → Paths → PathKey → Option PathAttrs → Type 0
Puts old new t o = (s : PathKey) → lookup (is_at (key_cmp s)) new ≡ cond (is_eq (key_cmp t s)) (Some o) (lookup (is_at (key_cmp s)) old)

-- the peer's last slot, with which its chain begins, and at which nothing is offered
pub record IsLastFree (b : Flat) (q i : ℕ) : Type 0 where
  pub listed : q ≢ no_peer
  pub slot : PathSlot
  pub there : slice_get b.rows.slots i ≡ Some slot
  pub free : slot.hop ≡ no_hop
  pub last : chain_end b.ends.items q ≡ suc i

-- a slot that may come after all others
pub record IsNextSlot (b : Flat) (s : PathSlot) : Type 0 where
  pub row : Row
  pub there : slice_get b.rows.items s.row ≡ Some row
  pub last : suc s.row ≡ length b.rows.items
  pub peer : Peer
  pub peer_there : slice_get b.peers.keys s.peer ≡ Some peer
  pub hop : Addr
  pub hop_there : slice_get b.hops.keys s.hop ≡ Some hop
  pub new : HasNoSlot b.rows.slots s.row s.peer s.id
  pub link : s.link ≡ chain_end b.ends.items s.peer

-- a path key that has no slot yet and may get one in the last row, by the numbers of its row and its peer and its path identifier
pub record IsKeyAt (b : Flat) (q : PathKey) (r n id : ℕ) : Type 0 where
  pub row : IsLastRow b.rows.items q.prefix r
  pub peer : IsPeerNumber b.peers.keys q.via.peer n
  pub id_is : id ≡ q.via.id
  pub new : HasNoKey b q

-- a hop's number, or none
abbrev pub IsHopNumber : List Addr → ℕ → Type 0
IsHopNumber hops n = ((h : Addr) × (slice_get hops n ≡ Some h)) ⊎ (n ≡ no_hop)

abbrev pub attrs_by : List Addr → ℕ → ℕ → Option PathAttrs
attrs_by hops path n = option_map (λ h. record { path = path; hop = h }) (slice_get hops n)

-- the hop has a number
abbrev pub HasHop : List Addr → Addr → Type 0
HasHop hops h = (n : ℕ) × (slice_get hops n ≡ Some h)

-- ---- two parts

abbrev pub paths_over : Flat → Paths → Paths
paths_over b over = flat_paths b ++ over

-- the offers after something is offered at a path key, and the same offers
abbrev pub Offers : Paths → Paths → PathKey → Option PathAttrs → Type 0
Offers old new t o = (s : PathKey) → attrs_at new s ≡ cond (is_eq (key_cmp t s)) o (attrs_at old s)

abbrev pub SameOffers : Paths → Paths → Type 0
SameOffers old new = (s : PathKey) → attrs_at new s ≡ attrs_at old s

-- path keys where nothing is offered may go, and all others stay
abbrev pub Thins : Paths → Paths → Type 0
Thins old new = (s : PathKey) → (lookup (is_at (key_cmp s)) new ≡ lookup (is_at (key_cmp s)) old) ⊎ ((lookup (is_at (key_cmp s)) old ≡ Some None) × (lookup (is_at (key_cmp s)) new ≡ None))

-- no path key comes
abbrev pub NoKeyComes : Paths → Paths → Type 0
NoKeyComes old new = (s : PathKey) → lookup (is_at (key_cmp s)) old ≡ None → lookup (is_at (key_cmp s)) new ≡ None

-- ---- a peer's path keys

-- the path key of a slot where something is offered
abbrev pub live_or : Option PathAttrs → Option Via → Option Row → Option PathKey
live_or None v r = None
live_or (Some o) None r = None
live_or (Some o) (Some v) None = None
live_or (Some o) (Some v) (Some r) = Some (record { via = v; prefix = r.prefix })

abbrev pub live_on : Flat → PathSlot → Option PathKey
live_on b s = live_or (attrs_on b.hops.keys s) (via_on b.peers.keys s) (slice_get b.rows.items s.row)

abbrev pub is_key : Option PathKey → PathKey → Bool
is_key None s = false
is_key (Some t) s = is_eq (key_cmp t s)

abbrev pub is_among : List PathKey → PathKey → Bool
is_among paths s = list_any (is_at (key_cmp s)) paths

-- whether the path key is the peer's, and something is offered there
abbrev pub is_offered_by : Peer → Paths → PathKey → Bool
is_offered_by q paths s = is_eq (code_peer_cmp q s.via.peer) && is_some (attrs_at paths s)
