-- What is offered for a prefix, by path source.
use Rattle.std.specs.Prelude.{◌≡◌, ◌==◌, ◌<◌, ◌≤◌, ℕ, List, length, Option, Some, None, if◌then◌else◌}
use Rattle.std.specs.List.{AllWithin, HoldsAt}
use Rattle.std.specs.Map.{lookup}
use Rattle.std.specs.Option.{option_or}
use Rattle.std.specs.Ordering.{is_eq}
use Rattle.std.specs.BTreeMap.{is_at}
use Rattle.std.specs.declared.cmp.Ordering.TheVariants.{Less, Equal, Greater}
use Rattle.fib_addr.specs.declared.addr.Addr.{Addr}
use Rattle.fib_addr.specs.declared.prefix.Prefix as code
use Rattle.fib_prefix.specs.Order.{code_via_cmp}
use Rattle.fib_prefix.specs.declared.event.Peer.{Peer}
use Rattle.fib_prefix.specs.declared.event.Via.{Via}
use Rattle.adj_rib_in.specs.declared.keys.PathKey.{PathKey}
use Rattle.adj_rib_in.specs.declared.keys.PathAttrs.{PathAttrs}
use Rattle.adj_rib_in.specs.declared.slot.PathSlot.{PathSlot}
use Rattle.adj_rib_in.specs.Flat.{attrs_on, via_on}
use Rattle.adj_rib_in.specs.Paths.{Paths, attrs_at}

-- offers, each with its path source
abbrev pub Ways : Type 0
Ways = List (Via × PathAttrs)

-- what comes from a path source
abbrev pub way_attrs : Ways → Via → Option PathAttrs
way_attrs ways v = lookup (is_at (code_via_cmp v)) ways

-- the place of a path source, and the one where it is to go
abbrev pub IsWayAt : Ways → Via → ℕ → Type 0
IsWayAt ways v i = (i < length ways) × HoldsAt (λ e. code_via_cmp e.0 v ≡ Equal) ways i

abbrev pub BelongsAt : Ways → Via → ℕ → Type 0
BelongsAt ways v i = (i ≤ length ways) × AllWithin (λ e. code_via_cmp e.0 v ≡ Less) ways 0 i × AllWithin (λ e. code_via_cmp e.0 v ≡ Greater) ways i (length ways)

-- the path key of a path source and a prefix
abbrev pub key_by : Via → code.Prefix → PathKey
key_by v p = record { via = v; prefix = p }

-- what is offered at the path keys of a prefix is put to its path sources, and what came from all other path sources stays
abbrev pub AddsWays : Paths → code.Prefix → Ways → Ways → Type 0
AddsWays paths p old new = (v : Via) → way_attrs new v ≡ option_or (attrs_at paths (key_by v p)) (way_attrs old v)

-- the same of what one way offers, and of a slot, if it is the row's
abbrev pub way_put : Option Via → Option PathAttrs → Via → Option PathAttrs → Option PathAttrs
way_put None o v old = old
way_put (Some u) None v old = old
way_put (Some u) (Some o) v old = if is_eq (code_via_cmp u v) then Some o else old

abbrev pub way_step : List Peer → List Addr → ℕ → Option PathSlot → Via → Option PathAttrs → Option PathAttrs
way_step peers hops row None v old = old
way_step peers hops row (Some s) v old = if s.row == row then way_put (via_on peers s) (attrs_on hops s) v old else old
