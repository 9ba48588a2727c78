-- What an engine with its live tries is seen as.
use Rattle.std.specs.Prelude.{◌≡◌, ℕ, false, Option, Some, None}
use Rattle.table_model.specs.Address.{Prefix}
use Rattle.table_model.specs.declared.family.Family.{Family}
use Rattle.table_model.specs.Entries.{Entries}
use Rattle.route_model.specs.Events.{Elem}
use Rattle.fib_addr.specs.declared.addr.Addr.{Addr}
use Rattle.fib_addr.specs.declared.entry.Hop as code_hop
use Rattle.poptrie_update.specs.Lives.{is_pending, made_of, stores_left}
use Rattle.poptrie_update.specs.Prepares.{IsAtRest}
use Rattle.poptrie_update.specs.Reads.{published_entries}
use Rattle.poptrie_update.specs.declared.pending.Pending.{Pending}
use Rattle.fib_engine.specs.Held.{EngineState, engine_routes}
use Rattle.fib_engine.specs.Stands.{routes_after}
use Rattle.fib_engine.specs.Staged.{elem_of_plan, planned_hop, routes_once}
use Rattle.kept_model.specs.Kept.{changed_at}
use Rattle.poptrie_set.specs.declared.trie_set.Oldest.{Oldest}
use Rattle.fib_router.specs.Errors.{IsHeldUp}
use Rattle.fib_router.specs.declared.error.NotBegun.{NotBegun}
use Rattle.fib_router.specs.declared.error.NotBegun.TheVariants as error
use Rattle.fib_router.specs.Lives.{IsPendingOf, live_of}
use Rattle.fib_router.specs.declared.lives.Lives as code_lives
use Rattle.fib_router.specs.declared.router.Begun as code_begun

-- what the engine holds, the elementary event that is begun, if one is, and both live tries
pub record Routing : Type 0 where
  pub held : EngineState
  pub begun : Option Elem
  pub lives : code_lives.Lives

-- The entries that are published to an address: the routes or, if a store that was made covers its slot, those after the event that
-- is begun.
abbrev pub published_to : Routing → Addr → Entries
published_to r a = published_entries (live_of a.family r.lives) (engine_routes r.held) (routes_once r.begun r.held) a

-- ---- the token of the event that is begun
abbrev pub begun_elem : code_begun.Begun → Elem
begun_elem b = elem_of_plan b.planned

-- the hop that its end will number, with that number
abbrev pub begun_hop : code_begun.Begun → Option (code_hop.Hop × Addr)
begun_hop b = planned_hop b.planned

-- its update of its family's trie, if it changes a chosen hop
abbrev pub begun_update : code_begun.Begun → Option (Family × Pending)
begun_update b = b.pending

-- its update is pending in its family's trie, and nothing in the other; nothing in either if it changes no chosen hop
abbrev pub IsPendingIn : Option (Family × Pending) → code_lives.Lives → Type 0
IsPendingIn None t = (is_pending t.v4 ≡ false) × (is_pending t.v6 ≡ false)
IsPendingIn (Some p) t = IsPendingOf p.0 p.1 t

pub record IsBegunIn (b : code_begun.Begun) (r : Routing) : Type 0 where
  pub begun : r.begun ≡ Some (begun_elem b)
  pub pending : IsPendingIn b.pending r.lives

-- how many of its stores are left, and how many were made
abbrev pub stores_left_by : Option (Family × Pending) → code_lives.Lives → ℕ
stores_left_by None t = 0
stores_left_by (Some p) t = stores_left (live_of p.0 t)

abbrev pub stores_left_of : code_begun.Begun → Routing → ℕ
stores_left_of b r = stores_left_by b.pending r.lives

abbrev pub stores_made_by : Option (Family × Pending) → code_lives.Lives → ℕ
stores_made_by None t = 0
stores_made_by (Some p) t = made_of (live_of p.0 t)

abbrev pub stores_made_in : code_begun.Begun → Routing → ℕ
stores_made_in b r = stores_made_by b.pending r.lives

-- An event is refused as pinned exactly if its family's trie is: that of the prefix at which it changes the chosen hop.
abbrev pub IsPinnedFor : Oldest → Elem → Routing → NotBegun → Type 0
IsPinnedFor who e r error.HopsFull = Unit {0}
IsPinnedFor who e r (error.TrieFull t) = Unit {0}
IsPinnedFor who e r (error.Pinned need cursor arena largest) =
    (p : Prefix)
    × (changed_at r.held.candidates e ≡ Some p)
    × IsHeldUp who (error.Pinned need cursor arena largest) (live_of p.family r.lives) (engine_routes r.held) (routes_after e r.held)
IsPinnedFor who e r error.NoMemory = Unit {0}

-- then the trie was at rest
abbrev pub IsRestingFor : Elem → Routing → NotBegun → Type 0
IsRestingFor e r error.HopsFull = Unit {0}
IsRestingFor e r (error.TrieFull t) = Unit {0}
IsRestingFor e r (error.Pinned need cursor arena largest) = (p : Prefix) → changed_at r.held.candidates e ≡ Some p → IsAtRest (live_of p.family r.lives)
IsRestingFor e r error.NoMemory = Unit {0}
