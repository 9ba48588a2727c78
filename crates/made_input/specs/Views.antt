-- What a clause sees of routes and offers, and the records that draws lead to.
use Rattle.std.specs.Prelude.{ℕ, ◌%◌, List, length, get_or, ◌==◌}
use Rattle.table_model.specs.declared.family.Family.TheVariants.{V4}
use Rattle.table_model.specs.Address.{first_bits}
use Rattle.table_model.specs.Bits.{bits_of}
use Rattle.made_input.specs.Draws.{state_after, draw}
use Rattle.made_input.specs.Drawn as drawn
use Rattle.wire_model.specs.Octets.{record_octets}
use Rattle.made_input.specs.Files.{rib_body, update_record}
use Rattle.made_input.specs.declared.route.Route as code_route
use Rattle.made_input.specs.declared.route.PathAttrs as code_attrs

abbrev pub drawn_route_as : code_route.Route → drawn.DrawnRoute
drawn_route_as r = record { prefix = first_bits r.len (record { family = V4; bits = bits_of 32 r.address }); peer = r.peer }

abbrev pub drawn_attrs_as : code_attrs.PathAttrs → drawn.DrawnOffer
drawn_attrs_as o = record { path = o.path; hop = o.hop }

-- the record of the entry that a state leads to
abbrev pub entry_record : ℕ → ℕ → List ℕ
entry_record number x = record_octets 13 2 (rib_body number (drawn.route x) (drawn.attrs (state_after x 3)))

-- the record of the update of these routes that a state leads to
abbrev pub next_update : List drawn.DrawnRoute → ℕ → List ℕ
next_update routes x = update_record (draw x 1 % 4 == 0) (get_or routes (draw x 0 % length routes) (drawn.route 0)) (drawn.attrs (state_after x 2))
