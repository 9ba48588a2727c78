-- The blocks that are out if nothing is retired.
use Rattle.std.specs.Prelude.{◌≡◌, ◌+◌, ◌^◌, []}
use Rattle.table_model.specs.Entries.{Entries}
use Rattle.buddy_arena.specs.Places.{count_free}
use Rattle.buddy_arena.specs.Arrays.{places_of}
use Rattle.poptrie_build.specs.Tries.{node_need, leaf_need}
use Rattle.poptrie_set.specs.Lives.{Seen}
use Rattle.poptrie_update.specs.Lives.{Living}
use Rattle.poptrie_update.specs.declared.live.Other.{Other}
use Rattle.poptrie_update.specs.declared.live.Other.TheVariants as other

-- in both arenas of a set the free places, those of the pending blocks and as many as these entries need are all places: no other block
-- is out
pub record HasOutJust (s : Seen) (L : Entries) : Type 0 where
  pub nodes : count_free s.nodes.space + (places_of s.nodes.taken + node_need s.family s.direct_bits L) ≡ 2 ^ s.nodes.space.order
  pub leaves : count_free s.leaves.space + (places_of s.leaves.taken + leaf_need s.family s.direct_bits L) ≡ 2 ^ s.leaves.space.order

-- the blocks that are out are those of the version of the first entries and the pending ones: words are stored beside that version, and
-- the other set has none out; or the other set has those of the second entries' version, which the selector is to select
abbrev pub OutJustBy : Other → Seen → Seen → Entries → Entries → Type 0
OutJustBy other.Free s o L M = HasOutJust s L × HasOutJust o []
OutJustBy (other.Retired end) s o L M = ⊥
OutJustBy other.Built s o L M = HasOutJust s L × HasOutJust o M
OutJustBy other.Replaced s o L M = ⊥

abbrev pub OutJust : Living → Entries → Entries → Type 0
OutJust l L M = OutJustBy l.state l.selected l.other L M
