-- The cells that a lookup can reach in either set: none of them is written, and none is given back.
use Rattle.std.specs.Prelude.{◌≡◌, ℕ, ◌≤◌, Bool, true, false, ◌&&◌, cond, nat_eq, nat_lt, slice_index_or}
use Rattle.buddy_arena.specs.Places.{is_out}
use Rattle.poptrie_build.specs.Stands.{node_at}
use Rattle.poptrie_set.specs.Rooms.{Room, safe}
use Rattle.poptrie_update.specs.Lives.{Living, numbered_set}
use Rattle.poptrie_update.specs.declared.live.Other.{Other}
use Rattle.poptrie_update.specs.declared.live.Other.TheVariants as other

-- the places of an arena of the other set that a lookup of this start may read: all that are out in a set that was replaced, at an end
-- after its start if that end is over; no lookup is in any other
abbrev pub safe_beside : {T : Type 0} → Other → Room T → ℕ → ℕ → Bool
safe_beside other.Free r t i = false
safe_beside (other.Retired end) r t i = nat_lt t end && is_out r.space.free i
safe_beside other.Built r t i = false
safe_beside other.Replaced r t i = is_out r.space.free i

-- the places of the nodes, and those of the leaves, that a lookup of this start may read in the set of a number
abbrev pub reaches_node : Living → ℕ → ℕ → ℕ → Bool
reaches_node l n t i = cond (nat_eq n l.number) (safe l.selected.nodes l.selected.made t i) (safe_beside l.state l.other.nodes t i)

abbrev pub reaches_leaf : Living → ℕ → ℕ → ℕ → Bool
reaches_leaf l n t i = cond (nat_eq n l.number) (safe l.selected.leaves l.selected.made t i) (safe_beside l.state l.other.leaves t i)

-- these places stay so, and hold what they held
pub record KeepsReached (n t : ℕ) (old new : Living) : Type 0 where
  pub nodes : (i : ℕ) → reaches_node old n t i ≡ true → (reaches_node new n t i ≡ true) × (node_at (numbered_set new n).nodes.space.cells i ≡ node_at (numbered_set old n).nodes.space.cells i)
  pub leaves : (i : ℕ) → reaches_leaf old n t i ≡ true → (reaches_leaf new n t i ≡ true) × (slice_index_or (numbered_set new n).leaves.space.cells i 0 ≡ slice_index_or (numbered_set old n).leaves.space.cells i 0)

-- in both sets, of all lookups that started at this time or later
abbrev pub KeepsAllReached : ℕ → Living → Living → Type 0
KeepsAllReached since old new = (n t : ℕ) → since ≤ t → t ≤ old.selected.time → KeepsReached n t old new
