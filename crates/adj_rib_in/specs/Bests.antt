-- The best candidate of a prefix, of the path sources that aren't left out.
use Rattle.std.specs.Prelude.{◌≡◌, ◌==◌, ◌&&◌, ◌||◌, nat_lt, ℕ, List, Bool, true, false, Option, Some, None, option_map, if◌then◌else◌}
use Rattle.std.specs.List.{list_any}
use Rattle.std.specs.Ordering.{is_eq, is_lt}
use Rattle.table_model.specs.Address.{Prefix, same_prefix}
use Rattle.fib_addr.specs.Views.{addr_as, prefix_as}
use Rattle.fib_prefix.specs.Views.{via_as}
use Rattle.fib_prefix.specs.Order.{code_via_cmp}
use Rattle.fib_addr.specs.declared.prefix.Prefix as code
use Rattle.fib_prefix.specs.declared.event.Peer.{Peer}
use Rattle.fib_prefix.specs.declared.event.Via.{Via}
use Rattle.route_model.specs.Events as events
use Rattle.route_model.specs.Events.{same_via}
use Rattle.route_model.specs.Choice as model
use Rattle.route_model.specs.Choice.{Place, Candidates, IsHeld, beats}
use Rattle.adj_rib_in.specs.declared.keys.PathAttrs.{PathAttrs}
use Rattle.adj_rib_in.specs.declared.keys.Candidate.{Candidate}
use Rattle.adj_rib_in.specs.declared.slot.PathSlot.{PathSlot}
use Rattle.adj_rib_in.specs.declared.flat.Flat.{Flat}
use Rattle.adj_rib_in.specs.Paths.{Paths, held_in}
use Rattle.adj_rib_in.specs.Flat.{attrs_on, via_on}
use Rattle.fib_addr.specs.declared.addr.Addr.{Addr}

abbrev pub attrs_as : PathAttrs → model.PathAttrs
attrs_as attrs = record { path = attrs.path; hop = addr_as attrs.hop }

abbrev pub IsBestOf : Candidates → Prefix → (events.Via → Bool) → Option (Place × model.PathAttrs) → Type 0
IsBestOf held p out None = (d : Place × model.PathAttrs) → IsHeld held d → same_prefix p d.0.prefix ≡ true → out d.0.via ≡ true
IsBestOf held p out (Some c) =
    IsHeld held c × (c.0.prefix ≡ p) × (out c.0.via ≡ false) × ((d : Place × model.PathAttrs) → IsHeld held d → same_prefix p d.0.prefix ≡ true → out d.0.via ≡ false → beats d c ≡ false)

-- whether it is the path source that is left out
abbrev pub is_excluded : Option Via → Via → Bool
is_excluded None v = false
is_excluded (Some u) v = is_eq (code_via_cmp u v)

abbrev pub out_as : Option Via → events.Via → Bool
out_as None m = false
out_as (Some q) m = same_via (via_as q) m

abbrev pub candidate_as : Prefix → Candidate → Place × model.PathAttrs
candidate_as p c = (record { prefix = p; via = via_as c.via }, attrs_as c.attrs)

-- the best candidate that path keys hold for a prefix, that of a path source left out
abbrev pub IsBestHeld : Paths → Option Via → code.Prefix → Option Candidate → Type 0
IsBestHeld paths but p c = IsBestOf (held_in paths) (prefix_as p) (out_as but) (option_map (candidate_as (prefix_as p)) c)

-- whether a candidate is preferred to another one: its path is shorter, or as long and its path source comes first
abbrev pub comes_before : Candidate → Candidate → Bool
comes_before c d = nat_lt c.attrs.path d.attrs.path || (c.attrs.path == d.attrs.path && is_lt (code_via_cmp c.via d.via))

-- the better of two candidates
abbrev pub better_one : Candidate → Option Candidate → Candidate
better_one c None = c
better_one c (Some d) = if comes_before c d then c else d

-- the better of what comes from a path source and another candidate, if the path source isn't left out
abbrev pub better_on : Option Via → Option Via → Option PathAttrs → Option Candidate → Option Candidate
better_on but None o best = best
better_on but (Some q) None best = best
better_on but (Some q) (Some o) best = if is_excluded but q then best else Some (better_one (record { via = q; attrs = o }) best)

-- the candidate of a slot
abbrev pub candidate_on : Flat → Option PathSlot → Option Candidate
candidate_on b None = None
candidate_on b (Some s) = better_on None (via_on b.peers.keys s) (attrs_on b.hops.keys s) None

-- something is offered at the slot
abbrev pub IsOffered : Flat → PathSlot → Type 0
IsOffered b s = (c : Candidate) × (candidate_on b (Some s) ≡ Some c)

-- whether a slot of the row and the path source is among these
abbrev pub is_via : events.Via → Option Via → Bool
is_via m None = false
is_via m (Some q) = same_via (via_as q) m

abbrev pub waits : List Peer → ℕ → events.Via → List PathSlot → Bool
waits peers r m slots = list_any (λ s. (s.row == r) && is_via m (via_on peers s)) slots

-- past a place of the run
abbrev pub best_step : List Peer → List Addr → ℕ → Option Via → Option PathSlot → Option Candidate → Option Candidate
best_step peers hops r but None best = best
best_step peers hops r but (Some s) best = if s.row == r then better_on but (via_on peers s) (attrs_on hops s) best else best
