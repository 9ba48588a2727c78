-- An update that is made ready once blocks were given back, and a trie that is again as it was.
use Rattle.std.specs.Prelude.{◌≡◌, ℕ, []}
use Rattle.buddy_arena.specs.Blocks.{late}
use Rattle.poptrie_set.specs.Lives.{Seen, ShowsIn}
use Rattle.poptrie_set.specs.Prepares.{GaveBack}
use Rattle.poptrie_set.specs.Undone.{IsReadyFrom, IsAsBefore}
use Rattle.poptrie_update.specs.Lives.{Living, HasShapeOf, HasNoneRetired, freed}
use Rattle.poptrie_update.specs.declared.live.Other.{Other}
use Rattle.poptrie_update.specs.declared.live.Other.TheVariants as other

-- what was retired by this time is given back, and all else is as it was: the other set too, if it isn't among this
pub record IsGivenBack (since : ℕ) (old new : Living) : Type 0 where
  pub shape : HasShapeOf old new
  pub number : new.number ≡ old.number
  pub state : new.state ≡ freed since old.state
  pub other : new.state ≡ old.state → new.other ≡ old.other
  pub words : new.selected.words ≡ old.selected.words
  pub time : new.selected.time ≡ old.selected.time
  pub spaces : GaveBack since old.selected new.selected.nodes.space new.selected.leaves.space
  pub nodes : new.selected.nodes.retired ≡ late since old.selected.nodes.retired
  pub leaves : new.selected.leaves.retired ≡ late since old.selected.leaves.retired

-- an update was made ready: words beside what the selected set has, or, if the other set was free, a trie in it that is to be selected
abbrev pub IsReadyBy : Other → Living → Living → Type 0
IsReadyBy other.Free old new = (old.state ≡ other.Free) × (new.other ≡ old.other) × IsReadyFrom old.selected new.selected
IsReadyBy (other.Retired end) old new = (old.state ≡ other.Retired end) × (new.other ≡ old.other) × IsReadyFrom old.selected new.selected
IsReadyBy other.Built old new = (old.state ≡ other.Free) × IsAsBefore old.selected new.selected
IsReadyBy other.Replaced old new = ⊥

abbrev pub IsReadyAfter : Living → Living → Type 0
IsReadyAfter old new = (new.number ≡ old.number) × IsReadyBy new.state old new

-- the other set as it was: one that is free shows no entries, and nothing of it is retired
abbrev pub IsSameOther : Other → Seen → Seen → Type 0
IsSameOther other.Free o q = ShowsIn q [] [] × HasNoneRetired q
IsSameOther (other.Retired end) o q = q ≡ o
IsSameOther other.Built o q = q ≡ o
IsSameOther other.Replaced o q = q ≡ o

-- both sets as they were
pub record IsAsItWas (old new : Living) : Type 0 where
  pub number : new.number ≡ old.number
  pub state : new.state ≡ old.state
  pub selected : IsAsBefore old.selected new.selected
  pub other : IsSameOther old.state old.other new.other
