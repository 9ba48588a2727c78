-- Why an event isn't begun.
use Rattle.std.specs.Prelude.{◌≡◌}
use Rattle.table_model.specs.Entries.{Entries}
use Rattle.poptrie_set.specs.declared.trie_set.Oldest.{Oldest}
use Rattle.poptrie_update.specs.Lives.{Living}
use Rattle.poptrie_update.specs.Prepares.{IsNotReady}
use Rattle.poptrie_update.specs.declared.pending.NotReady.{NotReady}
use Rattle.poptrie_update.specs.declared.pending.NotReady.TheVariants as why
use Rattle.fib_engine.specs.declared.error.EngineError.{EngineError}
use Rattle.fib_engine.specs.declared.error.EngineError.TheVariants as engine
use Rattle.fib_router.specs.declared.error.NotBegun.{NotBegun}
use Rattle.fib_router.specs.declared.error.NotBegun.TheVariants as error

abbrev pub as_not_begun : EngineError → NotBegun
as_not_begun engine.HopsFull = error.HopsFull
as_not_begun (engine.TrieFull t) = error.TrieFull t
as_not_begun engine.NoMemory = error.NoMemory

-- what is said if a family's live trie isn't made ready
abbrev pub IsSaidOf : NotReady → NotBegun → Type 0
IsSaidOf why.Memory e = e ≡ error.NoMemory
IsSaidOf (why.TooMuch t) e = ⊥
IsSaidOf (why.Pinned need cursor arena largest) e = e ≡ error.Pinned need cursor arena largest

-- why a family's live trie isn't made ready for an event that fits: out of memory, or pinned by the oldest lookup
abbrev pub IsHeldUp : Oldest → NotBegun → Living → Entries → Entries → Type 0
IsHeldUp who error.HopsFull l L M = ⊥
IsHeldUp who (error.TrieFull t) l L M = ⊥
IsHeldUp who (error.Pinned need cursor arena largest) l L M = IsNotReady who (why.Pinned need cursor arena largest) l L M
IsHeldUp who error.NoMemory l L M = Unit {0}

-- it isn't pinned
abbrev pub IsUnpinned : NotBegun → Type 0
IsUnpinned error.HopsFull = Unit {0}
IsUnpinned (error.TrieFull t) = Unit {0}
IsUnpinned (error.Pinned need cursor arena largest) = ⊥
IsUnpinned error.NoMemory = Unit {0}
