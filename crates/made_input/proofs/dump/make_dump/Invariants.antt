use Rattle.std.proofs.Common.{◌≡◌, ◌*◌, ◌++◌}
use Rattle.std.specs.Prelude.{map, flat_map}
use Rattle.std.specs.List.{range_with_len}
use Rattle.made_input.specs.Draws.{state_after}
use Rattle.made_input.specs.Drawn.{entry_route}
use Rattle.wire_model.specs.Octets.{record_octets}
use Rattle.made_input.specs.Files.{peer_table_body}
use Rattle.made_input.proofs.MadeReading.{rib_record}
use Rattle.made_input.specs.Views.{drawn_route_as}
use Rattle.made_input.proofs.dump.make_dump.Given as goal

abbrev pub invariant-loop-number : goal.invariant-loop-number
invariant-loop-number l = record {
  put : l.out.items ≡ record_octets 13 1 peer_table_body ++ flat_map (rib_record l.fn.from.state) (range_with_len 0 l.number);
  drawn : map drawn_route_as l.routes.items ≡ map (entry_route l.fn.from.state) (range_with_len 0 l.number);
  state : l.from.state ≡ state_after l.fn.from.state (5 * l.number);
}
