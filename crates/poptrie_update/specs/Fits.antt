-- What the open lookups may read.
use Rattle.std.specs.Prelude.{◌≡◌, ℕ, ◌<◌, ◌≤◌, List, [], Bool, true, false, nat_eq}
use Rattle.std.specs.List.{AllByRecursion}
use Rattle.buddy_arena.specs.Places.{is_out}
use Rattle.poptrie_set.specs.Lives.{Seen}
use Rattle.poptrie_set.specs.Fits.{Reader, ReadsIn}
use Rattle.poptrie_set.specs.Reading.{ReadsOn}
use Rattle.poptrie_set.specs.declared.trie_set.Oldest.{Oldest}
use Rattle.poptrie_set.specs.declared.trie_set.Oldest.TheVariants as oldest
use Rattle.poptrie_update.specs.Lives.{Living}
use Rattle.poptrie_update.specs.declared.live.Other.{Other}
use Rattle.poptrie_update.specs.declared.live.Other.TheVariants as other

-- a lookup that is past its first go, in the set of a number
pub record Open : Type 0 where
  pub set : ℕ
  pub reader : Reader

-- reading on in a set of which nothing is given back before the lookup ends, or written, ends as it is due
abbrev pub ReadsOut : Seen → Reader → Type 0
ReadsOut o r = (r.since ≤ o.time) × ReadsOn r.left o.nodes.space.cells (is_out o.nodes.space.free) o.leaves.space.cells (is_out o.leaves.space.free) r.node r.bits r.answer

-- in the set that isn't selected: it was replaced, at an end after the lookup's start if that end is over; a lookup is in no other
abbrev pub ReadsOther : Other → Seen → Reader → Type 0
ReadsOther other.Free o r = ⊥
ReadsOther (other.Retired end) o r = (r.since < end) × ReadsOut o r
ReadsOther other.Built o r = ⊥
ReadsOther other.Replaced o r = ReadsOut o r

-- the first if it is so
abbrev pub ByTruth : Bool → Type 0 → Type 0 → Type 0
ByTruth true P Q = P
ByTruth false P Q = Q

-- reading on ends as it is due, in places that nothing writes or gives back before the lookup ends
abbrev pub Reads : Living → Open → Type 0
Reads l o = ByTruth (nat_eq o.set l.number) (ReadsIn l.selected o.reader) (ReadsOther l.state l.other o.reader)

abbrev pub Fits : Living → List Open → Type 0
Fits l os = AllByRecursion (Reads l) os

-- no open lookup started earlier
abbrev pub IsOldest : Oldest → List Open → Type 0
IsOldest oldest.Nobody os = os ≡ []
IsOldest (oldest.Started cursor since) os = AllByRecursion (λ (o : Open). since ≤ o.reader.since) os
