-- Why an update isn't made ready.
use Rattle.std.specs.Prelude.{◌≡◌, ℕ, ◌^◌, ◌≤◌, List}
use Rattle.buddy_arena.specs.Space.{Space}
use Rattle.poptrie_build.specs.Tries.{IsTooMuch}
use Rattle.poptrie_build.specs.declared.node.Node.{Node}
use Rattle.path_copying.specs.Asks.{Ask, RunsOut}
use Rattle.path_copying.specs.declared.blocks.Refusal.{Refusal}
use Rattle.path_copying.specs.declared.blocks.Refusal.TheVariants as refusal
use Rattle.poptrie_set.specs.declared.reasons.NotReady.{NotReady}
use Rattle.poptrie_set.specs.declared.reasons.NotReady.TheVariants as why

-- what is reported of a refused copy, of these needs if there are this many places: that the needs are too much, or else what was refused
abbrev pub Explains : NotReady → Refusal → (nodes leaves node_places leaf_places : ℕ) → Type 0
Explains why.Memory r n l np lp = r ≡ refusal.Memory
Explains (why.TooMuch t) r n l np lp = IsTooMuch t.arena t.need t.have n l np lp
Explains (why.NodesOut e) r n l np lp = (r ≡ refusal.Nodes e) × (n ≤ np) × (l ≤ lp)
Explains (why.LeavesOut e) r n l np lp = (r ≡ refusal.Leaves e) × (n ≤ np) × (l ≤ lp)

-- the same in terms of what is asked for: if the needs are not too much, the asks before one are met from the free blocks of these
-- arenas, and that one is refused
abbrev pub IsReason : NotReady → List Ask → Space Node → Space ℕ → (nodes leaves : ℕ) → Type 0
IsReason why.Memory asks s t n l = Unit {0}
IsReason (why.TooMuch e) asks s t n l = IsTooMuch e.arena e.need e.have n l (2 ^ s.order) (2 ^ t.order)
IsReason (why.NodesOut e) asks s t n l = (n ≤ 2 ^ s.order) × (l ≤ 2 ^ t.order) × RunsOut s.order t.order asks (s.free, t.free) (refusal.Nodes e)
IsReason (why.LeavesOut e) asks s t n l = (n ≤ 2 ^ s.order) × (l ≤ 2 ^ t.order) × RunsOut s.order t.order asks (s.free, t.free) (refusal.Leaves e)
