-- An update that is made ready, and why one isn't.
use Rattle.std.specs.Prelude.{◌≡◌, ℕ, ◌^◌, ◌<◌, ◌≤◌, zero, suc, []}
use Rattle.table_model.specs.Entries.{Entries}
use Rattle.buddy_arena.specs.Space.{Space}
use Rattle.buddy_arena.specs.declared.arena.Full.{Full}
use Rattle.buddy_arena.specs.Blocks.{GivesBack}
use Rattle.poptrie_build.specs.Tries.{node_need, leaf_need}
use Rattle.poptrie_build.specs.declared.node.Node.{Node}
use Rattle.path_copying.specs.Asks.{MeetsInTurn, RunsOut}
use Rattle.path_copying.specs.declared.blocks.Refusal.{Refusal}
use Rattle.path_copying.specs.declared.blocks.Refusal.TheVariants as refusal
use Rattle.poptrie_set.specs.Lives.{Seen, IsTooMuchFor}
use Rattle.poptrie_set.specs.Prepares.{StoresJust, asks_of, GaveBack, AsksRun}
use Rattle.poptrie_set.specs.declared.trie_set.Oldest.{Oldest}
use Rattle.poptrie_set.specs.declared.trie_set.Oldest.TheVariants as oldest
use Rattle.poptrie_update.specs.Lives.{Living, HasNoneRetired, freed}
use Rattle.poptrie_update.specs.declared.live.Other.{Other}
use Rattle.poptrie_update.specs.declared.live.Other.TheVariants as other
use Rattle.poptrie_update.specs.declared.pending.Pending.{Pending}
use Rattle.poptrie_update.specs.declared.pending.Stores.{Stores}
use Rattle.poptrie_update.specs.declared.pending.Stores.TheVariants as stores
use Rattle.poptrie_update.specs.declared.pending.NotReady.{NotReady}
use Rattle.poptrie_update.specs.declared.pending.NotReady.TheVariants as why

-- the words that an update stores are just those of the slots at which an address gets another answer; the selector is stored for
-- all
abbrev pub StoresBy : Stores → Living → Entries → Entries → Type 0
StoresBy (stores.Words w) l L M = StoresJust l.selected.family l.selected.direct_bits L M l.selected.stores
StoresBy (stores.Selector stored) l L M = Unit {0}

abbrev pub StoresChanges : Pending → Living → Entries → Entries → Type 0
StoresChanges p l L M = StoresBy p.stores l L M

-- the other set isn't retired, or was at an end by this time
abbrev pub IsFreeBy : ℕ → Other → Type 0
IsFreeBy since other.Free = Unit {0}
IsFreeBy since (other.Retired end) = end ≤ since
IsFreeBy since other.Built = ⊥
IsFreeBy since other.Replaced = ⊥

-- it was retired at an end after this time
abbrev pub IsRetiredAfter : ℕ → Other → Type 0
IsRetiredAfter since other.Free = ⊥
IsRetiredAfter since (other.Retired end) = since < end
IsRetiredAfter since other.Built = ⊥
IsRetiredAfter since other.Replaced = ⊥

-- as it is if nothing is pending: no block was taken for an update, and the end at which the other set was retired is over
pub record IsAtRest (l : Living) : Type 0 where
  pub nodes : l.selected.nodes.taken ≡ []
  pub leaves : l.selected.leaves.taken ≡ []
  pub ended : (end : ℕ) → l.state ≡ other.Retired end → end ≤ l.selected.time

-- nothing is retired in the selected set, and the other isn't retired
abbrev pub NoneRetired : Living → Type 0
NoneRetired l = HasNoneRetired l.selected × ((end : ℕ) → l.state ≡ other.Retired end → ⊥)

-- the needs of the second entries fit into arenas of these sizes; yet of the blocks that an update from the first to the second
-- asks for, taken in turn from what is free there, this one is refused first
pub record RunsShort (s : Seen) (L M : Entries) (nodes : Space Node) (leaves : Space ℕ) (first : Refusal) : Type 0 where
  pub nodes_fit : node_need s.family s.direct_bits M ≤ 2 ^ nodes.order
  pub leaves_fit : leaf_need s.family s.direct_bits M ≤ 2 ^ leaves.order
  pub refused : RunsOut nodes.order leaves.order (asks_of s.family s.direct_bits L M) (nodes.free, leaves.free) first

-- words are stored if each ask is met in its turn, and the selector if one is refused and the other set is free
abbrev pub IsMadeIn : ℕ → Stores → Living → Living → Entries → Entries → Space Node → Space ℕ → Type 0
IsMadeIn since (stores.Words w) old new L M nodes leaves = (new.state ≡ freed since old.state) × MeetsInTurn nodes.order leaves.order (asks_of old.selected.family old.selected.direct_bits L M) (nodes.free, leaves.free) (new.selected.nodes.space.free, new.selected.leaves.space.free)
IsMadeIn since (stores.Selector stored) old new L M nodes leaves = IsFreeBy since old.state × ((first : Refusal) × RunsShort old.selected L M nodes leaves first)

-- the same, once what was retired by this time was given back
abbrev pub IsMade : ℕ → Pending → Living → Living → Entries → Entries → Type 0
IsMade since p old new L M = (nodes : Space Node) × (leaves : Space ℕ) × GaveBack since old.selected nodes leaves × IsMadeIn since p.stores old new L M nodes leaves

-- the refusal of a block in an arena, 0 the nodes' and 1 the leaves'
abbrev pub refusal_in : ℕ → Full → Refusal
refusal_in zero e = refusal.Nodes e
refusal_in (suc n) e = refusal.Leaves e

-- the lookup started first, before the end at which the other set was retired; and once what was retired by its start was given
-- back, the set runs short of a block of this arena and of n places, of which the greatest that is free has this order
abbrev pub IsPinned : Oldest → Living → Entries → Entries → (need cursor arena : ℕ) → Full → Type 0
IsPinned who old L M need cursor arena e =
    (since : ℕ)
    × (who ≡ oldest.Started cursor since)
    × IsRetiredAfter since old.state
    × (arena ≤ 1)
    × (need ≡ 2 ^ e.order)
    × ((nodes : Space Node) × (leaves : Space ℕ) × GaveBack since old.selected nodes leaves × RunsShort old.selected L M nodes leaves (refusal_in arena e))

-- some block is refused so: the update is to wait for the oldest lookup
abbrev pub IsToWait : Oldest → Living → Entries → Entries → Type 0
IsToWait who old L M = (need : ℕ) × (cursor : ℕ) × (arena : ℕ) × (e : Full) × IsPinned who old L M need cursor arena e

-- why an update isn't made ready
abbrev pub IsNotReady : Oldest → NotReady → Living → Entries → Entries → Type 0
IsNotReady who why.Memory old L M = Unit {0}
IsNotReady who (why.TooMuch t) old L M = IsTooMuchFor old.selected M t
IsNotReady who (why.Pinned need cursor arena largest) old L M = (e : Full) × (e.largest ≡ largest) × IsPinned who old L M need cursor arena e

-- what was retired by this time was given back, and else the selected set's words and free places are as they were, and the other
-- set too
abbrev pub IsUndone : ℕ → Living → Living → Type 0
IsUndone since old new =
    (new.selected.words ≡ old.selected.words)
    × (new.state ≡ freed since old.state)
    × ((nodes : Space Node) × (leaves : Space ℕ) × GaveBack since old.selected nodes leaves × (new.selected.nodes.space.free ≡ nodes.free) × (new.selected.leaves.space.free ≡ leaves.free))

-- what the update took was given back, in the selected set or as the other set, and else all is as it was
pub record TakesBack (s t : Seen) : Type 0 where
  pub words : t.words ≡ s.words
  pub nodes : GivesBack s.nodes.taken s.nodes.space t.nodes.space
  pub leaves : GivesBack s.leaves.taken s.leaves.space t.leaves.space
  pub nodes_retired : t.nodes.retired ≡ s.nodes.retired
  pub leaves_retired : t.leaves.retired ≡ s.leaves.retired

abbrev pub IsCancelledBy : Other → Living → Living → Type 0
IsCancelledBy other.Free old new = (new.state ≡ other.Free) × TakesBack old.selected new.selected
IsCancelledBy (other.Retired end) old new = (new.state ≡ other.Retired end) × TakesBack old.selected new.selected
IsCancelledBy other.Built old new = (new.state ≡ other.Free) × (new.selected ≡ old.selected)
IsCancelledBy other.Replaced old new = ⊥

abbrev pub IsCancelled : Living → Living → Type 0
IsCancelled old new = IsCancelledBy old.state old new

-- ---- once what may be given back was
-- the needs fit, and yet one of the blocks that are asked for is refused
abbrev pub IsShort : Seen → Entries → Entries → Type 0
IsShort s L M = (first : Refusal) × RunsShort s L M s.nodes.space s.leaves.space first

-- words are made beside the old ones, or the other set is free and the selected one runs short
abbrev pub IsBeside : Stores → Living → Living → Entries → Entries → Type 0
IsBeside (stores.Words w) old new L M = (new.state ≡ old.state) × AsksRun old.selected new.selected L M
IsBeside (stores.Selector stored) old new L M = (old.state ≡ other.Free) × IsShort old.selected L M

-- the other set is retired, and the oldest lookup may be in it
abbrev pub HoldsRetired : Oldest → Other → ℕ → Type 0
HoldsRetired who state cursor = (since : ℕ) × (end : ℕ) × (who ≡ oldest.Started cursor since) × (state ≡ other.Retired end)

abbrev pub IsNotBeside : Oldest → NotReady → Living → Entries → Entries → Type 0
IsNotBeside who why.Memory old L M = Unit {0}
IsNotBeside who (why.TooMuch t) old L M = IsTooMuchFor old.selected M t
IsNotBeside who (why.Pinned need cursor arena largest) old L M =
    (e : Full)
    × (e.largest ≡ largest)
    × HoldsRetired who old.state cursor
    × (arena ≤ 1)
    × (need ≡ 2 ^ e.order)
    × RunsShort old.selected L M old.selected.nodes.space old.selected.leaves.space (refusal_in arena e)
