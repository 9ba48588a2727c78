use Rattle.std.specs.Prelude.{◌≡◌, ℕ, ◌<◌}
use Rattle.path_copying.specs.Kids.{kid_at, kid_in}
use Rattle.path_copying.proofs.children.read_children.Given as goal

abbrev pub invariant-loop-slot : goal.invariant-loop-slot
invariant-loop-slot l = (v : ℕ) → v < l.slot → kid_in l.kids v ≡ kid_at l.nodes.cells l.node v
