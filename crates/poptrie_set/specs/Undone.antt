-- An update that is made ready, and a set that is again as it was.
use Rattle.std.specs.Prelude.{◌≡◌, ℕ, ◌+◌, true, length, slice_index_or}
use Rattle.buddy_arena.specs.Places.{Keeps, is_out, count_free, since}
use Rattle.buddy_arena.specs.Arrays.{AreApart, places_of}
use Rattle.poptrie_build.specs.Stands.{blank}
use Rattle.poptrie_set.specs.Rooms.{Room}
use Rattle.poptrie_set.specs.Lives.{Seen, HasSizesOf}

-- an update took free blocks of an arena and wrote no other cells: what was out is out and holds what it held, and what is retired stays so
pub record TakesFree {T : Type 0} (empty : T) (old new : Room T) : Type 0 where
  pub keeps : Keeps empty old.space.cells (is_out old.space.free) new.space.cells (is_out new.space.free)
  pub places : length new.space.free ≡ length old.space.free
  pub order : new.space.order ≡ old.space.order
  pub fill : new.space.fill ≡ old.space.fill
  pub apart : AreApart (since (is_out old.space.free) (is_out new.space.free)) new.taken
  pub left : count_free new.space + places_of new.taken ≡ count_free old.space
  pub retired : new.retired ≡ old.retired

-- an update was made ready in this set: its words are as they were, and in both arenas it took free blocks
pub record IsReadyFrom (old new : Seen) : Type 0 where
  pub sizes : HasSizesOf old new
  pub words : new.words ≡ old.words
  pub time : new.time ≡ old.time
  pub nodes : TakesFree blank old.nodes new.nodes
  pub leaves : TakesFree 0 old.leaves new.leaves

-- an arena as it was: the same places are free, each place that is out holds what it held, and the same blocks are retired
pub record IsSameRoom {T : Type 0} (empty : T) (old new : Room T) : Type 0 where
  pub free : new.space.free ≡ old.space.free
  pub held : (i : ℕ) → is_out old.space.free i ≡ true → slice_index_or new.space.cells i empty ≡ slice_index_or old.space.cells i empty
  pub order : new.space.order ≡ old.space.order
  pub fill : new.space.fill ≡ old.space.fill
  pub retired : new.retired ≡ old.retired

-- a set as it was: the same words, and both arenas as they were
pub record IsAsBefore (old new : Seen) : Type 0 where
  pub sizes : HasSizesOf old new
  pub words : new.words ≡ old.words
  pub time : new.time ≡ old.time
  pub nodes : IsSameRoom blank old.nodes new.nodes
  pub leaves : IsSameRoom 0 old.leaves new.leaves
