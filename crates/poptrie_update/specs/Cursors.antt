-- The lookups that are open in a live trie, by number, and what is due of them.
use Rattle.std.specs.Prelude.{◌≡◌, ℕ, suc, ◌+◌, ◌<◌, ◌≤◌, List, [], ◌∷◌, ◌++◌, Option, None, Some, cond, nat_eq, slice_index_or, slice_set}
use Rattle.fib_addr.specs.declared.addr.Addr.{Addr}
use Rattle.fib_addr.specs.declared.entry.Hop.{Hop}
use Rattle.fib_addr.specs.Views.{addr_as}
use Rattle.table_model.specs.Entries.{Entries, match_in}
use Rattle.poptrie_build.specs.Strides.{strides}
use Rattle.poptrie_build.specs.Tries.{rest, visits_of}
use Rattle.poptrie_set.specs.Reading.{bits_after}
use Rattle.poptrie_set.specs.declared.trie_set.Oldest.{Oldest}
use Rattle.poptrie_set.specs.declared.trie_set.Oldest.TheVariants as oldest
use Rattle.poptrie_update.specs.Lives.{Living, HasShapeOf}
use Rattle.poptrie_update.specs.Fits.{Open, Fits, IsOldest}
use Rattle.poptrie_update.specs.declared.cursors.Lookup.{Lookup}
use Rattle.poptrie_update.specs.declared.cursors.Stage.{Stage}
use Rattle.poptrie_update.specs.declared.cursors.Stage.TheVariants as stage

-- by number, those that are open
abbrev pub OpenLookups : Type 0
OpenLookups = List (Option Lookup)

-- the lookup of a number, if it is open
abbrev pub lookup_of : OpenLookups → ℕ → Option Lookup
lookup_of cs n = slice_index_or cs n None

-- ---- what is due
-- of a lookup that is past its first go: its version's answer, and how many nodes are left to be visited
pub record Due : Type 0 where
  pub answer : ℕ
  pub left : ℕ

-- of a lookup whose first go was just made, if these entries are published to its address: all the visits of its way are left
abbrev pub due_of : ℕ → Entries → Addr → Due
due_of s E a = record { answer = match_in E (addr_as a); left = visits_of s E (addr_as a) }

-- by number
abbrev pub Dues : Type 0
Dues = ℕ → Due

abbrev pub with_due : ℕ → Due → Dues → Dues
with_due n d due m = cond (nat_eq m n) d (due m)

-- those that are past their first go, s being the direct bits
abbrev pub open_at : ℕ → Addr → ℕ → Stage → Due → List Open
open_at s a since stage.Word d = []
open_at s a since (stage.Node i set t) d = record { set = set; reader = record { since = since; node = i; bits = bits_after s t a; answer = d.answer; left = d.left } } ∷ []

abbrev pub open_of : ℕ → Option Lookup → Due → List Open
open_of s None d = []
open_of s (Some k) d = open_at s k.addr k.since k.stage d

abbrev pub opens_from : ℕ → ℕ → OpenLookups → Dues → List Open
opens_from n s [] due = []
opens_from n s (c ∷ cs) due = open_of s c (due n) ++ opens_from (suc n) s cs due

abbrev pub opens_of : ℕ → OpenLookups → Dues → List Open
opens_of s cs due = opens_from 0 s cs due

-- ---- what every step keeps
-- the nodes behind it on the way and those left are at most as many as there are strides
abbrev pub IsBounded : Living → ℕ → Stage → Type 0
IsBounded l left stage.Word = Unit {0}
IsBounded l left (stage.Node i set t) = t + left ≤ strides (rest l.selected.family l.selected.direct_bits)

-- an open lookup is of the trie's family and started by now
pub record IsGoing (l : Living) (left : ℕ) (k : Lookup) : Type 0 where
  pub family : k.addr.family ≡ l.selected.family
  pub started : k.since ≤ l.selected.time
  pub bounded : IsBounded l left k.stage

-- every open lookup goes on as it is due, in places that nothing writes or gives back before it ends
pub record FitsAll (l : Living) (cs : OpenLookups) (due : Dues) : Type 0 where
  pub going : (n : ℕ) (k : Lookup) → lookup_of cs n ≡ Some k → IsGoing l (due n).left k
  pub reads : Fits l (opens_of l.selected.direct_bits cs due)

-- a step of the trie that lets time go on at most, and after which every list of lookups reads on as before: so are the steps of an
-- update
pub record KeepsReads (old new : Living) : Type 0 where
  pub shape : HasShapeOf old new
  pub time : old.selected.time ≤ new.selected.time
  pub reads : (os : List Open) → Fits old os → Fits new os

-- the same said of the lookups of which none started before the oldest: so is the step that makes an update ready
pub record KeepsReadsSince (first : Oldest) (old new : Living) : Type 0 where
  pub shape : HasShapeOf old new
  pub time : old.selected.time ≤ new.selected.time
  pub reads : (os : List Open) → IsOldest first os → Fits old os → Fits new os

-- ---- the calls
-- a lookup of the address was opened now, with the least number that wasn't open
pub record IsStarted (l : Living) (a : Addr) (old new : OpenLookups) (n : ℕ) : Type 0 where
  pub few : n < 64
  pub free : lookup_of old n ≡ None
  pub least : (m : ℕ) → m < n → lookup_of old m ≡ None → ⊥
  pub now : new ≡ slice_set old n (Some (record { addr = a; since = l.selected.time; stage = stage.Word }))

-- all numbers are open
abbrev pub IsFull : OpenLookups → Type 0
IsFull cs = (n : ℕ) → n < 64 → lookup_of cs n ≡ None → ⊥

-- the lookup is still open, and the same but for the node that it stands at now
abbrev pub GoesOn : OpenLookups → OpenLookups → ℕ → Type 0
GoesOn old new n = (k : Lookup) × (lookup_of old n ≡ Some k) × ((i : ℕ) × (set : ℕ) × (t : ℕ) × (new ≡ slice_set old n (Some (record { addr = k.addr; since = k.since; stage = stage.Node i set t }))))

-- a go after which this is due: if no node is left to be visited it gives the answer, and the lookup is closed; else it leads on
-- to a node, from which the lookup goes on as it is due
abbrev pub GoesAsDue : Option Hop → Due → ℕ → Living → OpenLookups → OpenLookups → Dues → Type 0
GoesAsDue (Some h) d n l old new due = (d.left ≡ 0) × (h.0 ≡ d.answer) × (new ≡ slice_set old n None) × FitsAll l new due
GoesAsDue None d n l old new due = (0 < d.left) × GoesOn old new n × FitsAll l new (with_due n d due)

-- a node was visited since this was due: one is left less
abbrev pub GoesFurther : Option Hop → Due → ℕ → Living → OpenLookups → OpenLookups → Dues → Type 0
GoesFurther r d n l old new due = (left : ℕ) × (d.left ≡ suc left) × GoesAsDue r (record { answer = d.answer; left = left }) n l old new due

-- it is the open lookup that started first, and of several such the one with the least number
abbrev pub IsFirst : Oldest → OpenLookups → Type 0
IsFirst oldest.Nobody cs = (n : ℕ) (k : Lookup) → lookup_of cs n ≡ Some k → ⊥
IsFirst (oldest.Started cursor since) cs =
    ((k : Lookup) × (lookup_of cs cursor ≡ Some k) × (k.since ≡ since))
    × ((n : ℕ) (k : Lookup) → lookup_of cs n ≡ Some k → since ≤ k.since)
    × ((n : ℕ) (k : Lookup) → lookup_of cs n ≡ Some k → k.since ≡ since → cursor ≤ n)
