-- What a reader adds after the events that there are: what the definition gives, unless it refuses or memory runs out.
use Rattle.std.specs.Prelude.{◌≡◌, List, ◌++◌, Option, Result, Ok, Err, Bool}
use Rattle.table_model.specs.Address.{Address}
use Rattle.route_model.specs.Events.{Peer, Event}
use Rattle.wire_model.specs.declared.rule.Rule.{Rule}
use Rattle.wire_model.specs.Path.{Path}
use Rattle.wire_model.specs.Wire.{Nlri}
use Rattle.wire_model.specs.Update.{Said, routes}
use Rattle.bgp_attrs.specs.declared.refusal.Refusal.{Refusal}
use Rattle.bgp_attrs.specs.Gives.{Refuses}

-- the events that are read
abbrev pub AddsEvents : {T : Type 0} → List Event → List Event → Result T Refusal → Result (List Event) Rule → Type 0
AddsEvents old new (Ok x) read = (added : List Event) × (read ≡ Ok added) × (new ≡ old ++ added)
AddsEvents old new (Err refusal) read = Refuses refusal read

-- the events of what is said, and whether it was treated as a withdrawal
abbrev pub AddsSaid : List Event → List Event → Result Bool Refusal → Result Said Rule → Type 0
AddsSaid old new (Ok treated) read = (added : List Event) × (read ≡ Ok (record { events = added; treated = treated })) × (new ≡ old ++ added)
AddsSaid old new (Err refusal) read = Refuses refusal read

-- an event for each entry of NLRI that is read: a route of the peer with this path and this next hop, or without one its withdrawal
abbrev pub AddsRoutes : {T : Type 0} → Peer → Path → Option Address → List Event → List Event → Result T Refusal → Result (List Nlri) Rule → Type 0
AddsRoutes peer path hop old new (Ok x) read = (found : List Nlri) × (read ≡ Ok found) × (new ≡ old ++ routes peer path hop found)
AddsRoutes peer path hop old new (Err refusal) read = Refuses refusal read
