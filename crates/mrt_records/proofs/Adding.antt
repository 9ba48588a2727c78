-- Events behind those that there are.
use Rattle.std.proofs.Common.{◌≡◌, refl, sym, ap, List, [], ◌∷◌, ◌++◌, append-nil, Result, Ok, false, Option}
use Rattle.table_model.specs.Address.{Address}
use Rattle.route_model.specs.Events.{Peer, Event}
use Rattle.wire_model.specs.declared.rule.Rule.{Rule}
use Rattle.wire_model.specs.Path.{Path}
use Rattle.wire_model.specs.Wire.{Nlri}
use Rattle.wire_model.specs.Rib.{event_of}
use Rattle.wire_model.specs.Update.{Said, said, via_of, routes}

pub adds_none : (read : Result Said Rule) (old : List Event) → read ≡ Ok (said []) → (added : List Event) × (read ≡ Ok (record { events = added; treated = false })) × (old ≡ old ++ added)
adds_none read old e = ([], e, sym (append-nil old))

-- the routes of one entry more
pub routes_more : (peer : Peer) (path : Path) (hop : Option Address) (front : List Nlri) (n : Nlri) → routes peer path hop (front ++ n ∷ []) ≡ routes peer path hop front ++ event_of path hop (via_of peer n) n.prefix ∷ []
routes_more peer path hop [] n = refl
routes_more peer path hop (m ∷ front) n = ap (λ es. event_of path hop (via_of peer m) m.prefix ∷ es) (routes_more peer path hop front n)
