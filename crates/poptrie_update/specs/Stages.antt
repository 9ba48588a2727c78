-- What an open lookup reads next, what becomes of it, and which of two started first.
use Rattle.std.specs.Prelude.{◌≡◌, ℕ, ◌+◌, ◌*◌, ◌<◌, ◌≤◌, Option, None, Some, Bool, slice_set}
use Rattle.fib_addr.specs.declared.addr.Addr.{Addr}
use Rattle.fib_addr.specs.declared.entry.Hop.{Hop}
use Rattle.table_model.specs.Entries.{Entries}
use Rattle.poptrie_set.specs.Reading.{ReadsOn, CanRead, bits_after}
use Rattle.poptrie_set.specs.declared.trie_set.Oldest.{Oldest}
use Rattle.poptrie_set.specs.declared.trie_set.Oldest.TheVariants as oldest
use Rattle.poptrie_update.specs.Lives.{Living, Shows, numbered_set}
use Rattle.poptrie_update.specs.Reads.{Starts, Leads, published_entries}
use Rattle.poptrie_update.specs.Cursors.{OpenLookups}
use Rattle.poptrie_update.specs.declared.live.At.{At}
use Rattle.poptrie_update.specs.declared.live.At.TheVariants as at
use Rattle.poptrie_update.specs.declared.cursors.Lookup.{Lookup}
use Rattle.poptrie_update.specs.declared.cursors.Stage.{Stage}
use Rattle.poptrie_update.specs.declared.cursors.Stage.TheVariants as stage

-- a node that is next can be read on from, for a bit of the address at least
abbrev pub CanGo : Living → Addr → Stage → Type 0
CanGo l a stage.Word = Unit {0}
CanGo l a (stage.Node i set t) =
    (l.selected.direct_bits + 6 * t < 128)
    × CanRead (numbered_set l set).nodes.space.cells (numbered_set l set).leaves.space.cells i (bits_after l.selected.direct_bits t a)

-- what was read next: what is published to the address, or what the node leads to
abbrev pub IsStageRead : At → Living → Addr → Stage → Type 0
IsStageRead r l a stage.Word = (L M : Entries) → Shows l L M → Starts r l (published_entries l L M a) a
IsStageRead r l a (stage.Node i set t) =
    (left h : ℕ) (N L : ℕ → Bool)
    → ReadsOn left (numbered_set l set).nodes.space.cells N (numbered_set l set).leaves.space.cells L i (bits_after l.selected.direct_bits t a) h
    → Leads r left set (numbered_set l set).nodes.space.cells N (numbered_set l set).leaves.space.cells L l.selected.direct_bits t a h

-- an answer closes the lookup, and a node is where it stands then
abbrev pub Moves : Option Hop → At → Lookup → ℕ → OpenLookups → OpenLookups → Type 0
Moves r (at.Answer h) k n old new = (r ≡ Some h) × (new ≡ slice_set old n None)
Moves r (at.Node i set t) k n old new = (r ≡ None) × (new ≡ slice_set old n (Some (record { addr = k.addr; since = k.since; stage = stage.Node i set t })))

-- of the first so far and a lookup of a greater number, the one that started first
abbrev pub IsEarlier : Oldest → ℕ → ℕ → Oldest → Type 0
IsEarlier oldest.Nobody n t r = r ≡ oldest.Started n t
IsEarlier (oldest.Started cursor since) n t r = (since ≤ t → r ≡ oldest.Started cursor since) × (t < since → r ≡ oldest.Started n t)
