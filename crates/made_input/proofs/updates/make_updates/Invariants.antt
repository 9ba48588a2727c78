use Rattle.std.proofs.Common.{◌≡◌, ℕ, ◌*◌, length}
use Rattle.std.specs.Prelude.{map, flat_map}
use Rattle.std.specs.List.{range_with_len}
use Rattle.made_input.specs.Draws.{state_after}
use Rattle.made_input.specs.Drawn.{entry_route}
use Rattle.made_input.specs.Views.{drawn_route_as}
use Rattle.made_input.proofs.Following.{update_of}
use Rattle.made_input.proofs.updates.make_updates.Given as goal

abbrev pub invariant-loop : goal.invariant-loop
invariant-loop l = record {
  put : (seed : ℕ) → map drawn_route_as l.routes ≡ map (entry_route seed) (range_with_len 0 (length l.routes)) → l.fn.from.state ≡ state_after seed (5 * length l.routes) → l.out.items ≡ flat_map (update_of seed (length l.routes)) (range_with_len 0 l.counter);
  state : l.from.state ≡ state_after l.fn.from.state (4 * l.counter);
}
