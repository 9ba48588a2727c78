-- What a live trie is seen as, and what it shows.
use Rattle.std.specs.Prelude.{◌≡◌, ℕ, ◌-◌, ◌≤◌, List, [], Bool, true, false, cond, nat_eq, nat_le, length, map}
use Rattle.table_model.specs.Entries.{Entries}
use Rattle.poptrie_build.specs.Tries.{node_need, leaf_need}
use Rattle.poptrie_set.specs.Lives.{Seen, ShowsIn, HasSizesOf, KeepsBlocks}
use Rattle.poptrie_set.specs.Past.{PastIn}
use Rattle.poptrie_update.specs.declared.live.Other.{Other}
use Rattle.poptrie_update.specs.declared.live.Other.TheVariants as other

-- the set that lookups begin in and the other one, what that one holds, and the number of the first, 0 or 1
pub record Living : Type 0 where
  pub selected : Seen
  pub other : Seen
  pub state : Other
  pub number : ℕ

-- the set of a number
abbrev pub numbered_set : Living → ℕ → Seen
numbered_set l n = cond (nat_eq n l.number) l.selected l.other

-- a trie of the same family, direct bits and arenas
abbrev pub HasShapeOf : Living → Living → Type 0
HasShapeOf old new = HasSizesOf old.selected new.selected

-- ---- the pending update
-- whether an update stores the selector
abbrev pub is_selecting : Other → Bool
is_selecting other.Free = false
is_selecting (other.Retired end) = false
is_selecting other.Built = true
is_selecting other.Replaced = true

abbrev pub is_pending : Living → Bool
is_pending l = cond (is_selecting l.state) true l.selected.pending

-- how many of its stores were made: words, or the one of the selector
abbrev pub stores_made : Other → ℕ → ℕ
stores_made other.Free words = words
stores_made (other.Retired end) words = words
stores_made other.Built words = 0
stores_made other.Replaced words = 1

abbrev pub made_of : Living → ℕ
made_of l = stores_made l.state l.selected.made

-- how many of its stores are left
abbrev pub left_by : Other → ℕ → ℕ
left_by other.Free words = words
left_by (other.Retired end) words = words
left_by other.Built words = 1
left_by other.Replaced words = 0

abbrev pub stores_left : Living → ℕ
stores_left l = left_by l.state (length l.selected.stores - l.selected.made)

-- what becomes of the stores left when one is made: they are the same, words or the selector
abbrev pub KeepsBy : Other → Living → Living → Type 0
KeepsBy other.Free old new = (new.state ≡ other.Free) × (new.selected.stores ≡ old.selected.stores)
KeepsBy (other.Retired end) old new = (new.state ≡ other.Retired end) × (new.selected.stores ≡ old.selected.stores)
KeepsBy other.Built old new = new.state ≡ other.Replaced
KeepsBy other.Replaced old new = new.state ≡ other.Replaced

abbrev pub KeepsStores : Living → Living → Type 0
KeepsStores old new = KeepsBy old.state old new

-- ---- the other set
abbrev pub IsFree : Living → Type 0
IsFree l = l.state ≡ other.Free

-- it is free once what was retired by this time is given back
abbrev pub freed : ℕ → Other → Other
freed since other.Free = other.Free
freed since (other.Retired end) = cond (nat_le end since) other.Free (other.Retired end)
freed since other.Built = other.Built
freed since other.Replaced = other.Replaced

-- at an end a set that was replaced is retired
abbrev pub retired_at_end : ℕ → Other → Other
retired_at_end time other.Free = other.Free
retired_at_end time (other.Retired end) = other.Retired end
retired_at_end time other.Built = other.Built
retired_at_end time other.Replaced = other.Retired time

-- ---- what it shows
-- Of the first entries those before the pending update, and of the second those after it: in the selected set, word by word; or,
-- if the selector is to be stored, the selected set shows the first and the other the second; or, if it was, the selected set
-- the second
abbrev pub ShowsBy : Other → Seen → Seen → Entries → Entries → Type 0
ShowsBy other.Free s o L M = ShowsIn s L M
ShowsBy (other.Retired end) s o L M = ShowsIn s L M
ShowsBy other.Built s o L M = ShowsIn s L L × ShowsIn o M M
ShowsBy other.Replaced s o L M = ShowsIn s M M

abbrev pub Shows : Living → Entries → Entries → Type 0
Shows l L M = ShowsBy l.state l.selected l.other L M

-- of these two the present version's entries: the first, or, where the selector was stored, the second
abbrev pub present_by : Other → Entries → Entries → Entries
present_by other.Free L M = L
present_by (other.Retired end) L M = L
present_by other.Built L M = L
present_by other.Replaced L M = M

-- the list has for each end so far the needs of the version before it, and what is retired at that end in the selected set takes no
-- more places
abbrev pub Past : Living → List ℕ → List ℕ → Type 0
Past l node_needs leaf_needs = PastIn l.selected node_needs leaf_needs

-- these are the tables before each end so far, the first end's first: what is retired at an end takes no more places than the table before
-- it needed
abbrev pub PastTables : Living → List Entries → Type 0
PastTables l Ls = Past l (map (λ (L : Entries). node_need l.selected.family l.selected.direct_bits L) Ls) (map (λ (L : Entries). leaf_need l.selected.family l.selected.direct_bits L) Ls)

-- ---- as it is kept
-- nothing is retired in a set
abbrev pub HasNoneRetired : Seen → Type 0
HasNoneRetired s = (s.nodes.retired ≡ []) × (s.leaves.retired ≡ [])

-- what the other set holds: if it is free, no block of it is out; a whole set is retired at an end that is over; if the
-- selector is to be stored or was, nothing is pending in the selected set
abbrev pub Holds : Other → Seen → Seen → Type 0
Holds other.Free s o = ShowsIn o [] [] × HasNoneRetired o
Holds (other.Retired end) s o = end ≤ s.time
Holds other.Built s o = (s.pending ≡ false) × HasNoneRetired o
Holds other.Replaced s o = s.pending ≡ false

pub record IsSetPair (s o : Seen) (state : Other) (number : ℕ) : Type 0 where
  pub sizes : HasSizesOf s o
  pub times : o.time ≡ s.time
  pub quiet : o.pending ≡ false
  pub holds : Holds state s o
  pub few : number ≤ 1
  pub nodes_small : s.nodes.space.order ≤ 26
  pub leaves_small : s.leaves.space.order ≤ 26

-- What it keeps of its blocks at every moment: in both sets all that a set keeps, whatever the other one holds. The other set is free,
-- or retired whole at an end that is over, or the pending update's, or the one that a stored selector replaced.
pub record KeepsBothSets (l : Living) : Type 0 where
  pub selected : KeepsBlocks l.selected
  pub other : KeepsBlocks l.other
  pub pair : IsSetPair l.selected l.other l.state l.number
