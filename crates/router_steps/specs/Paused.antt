-- What the live trie of a family with the lookups that are open in it is, in a state of the machine of steps.
use Rattle.std.specs.Prelude.{◌≡◌, ℕ, zero, suc, ◌+◌, ◌≤◌, List, [], ◌∷◌, ◌++◌, Bool, true, false, cond, map, Option, Some, None, length}
use Rattle.table_model.specs.Address.{Prefix}
use Rattle.table_model.specs.declared.family.Family.{Family}
use Rattle.table_model.specs.Entries.{Entries, match_in}
use Rattle.fib_addr.specs.Views.{addr_as}
use Rattle.fib_addr.specs.Answers.{all_answers}
use Rattle.poptrie_build.specs.Tries.{visits_of, node_need, leaf_need}
use Rattle.poptrie_set.specs.Lives.{Seen}
use Rattle.poptrie_set.specs.Prepares.{AgreeOutside}
use Rattle.poptrie_update.specs.Lives.{Living, Shows, Past, is_pending, made_of}
use Rattle.poptrie_update.specs.declared.live.Other.{Other}
use Rattle.poptrie_update.specs.declared.live.Other.TheVariants as other
use Rattle.poptrie_update.specs.Cursors.{OpenLookups, Due, Dues, lookup_of, FitsAll}
use Rattle.poptrie_update.specs.declared.cursors.Lookup as code_lookup
use Rattle.poptrie_update.specs.declared.cursors.Stage.{Stage}
use Rattle.poptrie_update.specs.declared.cursors.Stage.TheVariants as stage
use Rattle.step_script.specs.Machine.{World, State, Lookup, Begun, Stores, words, selector, changes_family, changes_before}

-- the live trie of a family, and the lookups that are open in it
pub record FamilyLive : Type 0 where
  pub live : Living
  pub cursors : OpenLookups

-- ---- the world, as it concerns a family
-- an event of another family changes none of the family's answers, and one of its own changes them within the event's prefix alone
pub record IsWorld (w : World) (f : Family) : Type 0 where
  pub stays : (n : ℕ) → changes_family f (w.changed n) ≡ false → all_answers f (w.routes (suc n)) ≡ all_answers f (w.routes n)
  pub changes : (n : ℕ) (p : Prefix) → w.changed n ≡ Some p → p.family ≡ f → AgreeOutside p (w.routes n) (w.routes (suc n))

-- whether the event that is begun, if one is, is of the family, n events having ended
abbrev pub is_own : World → Family → ℕ → Option Begun → Bool
is_own w f n None = false
is_own w f n (Some b) = changes_family f (w.changed n)

-- how many events the family's routes are those after, once an event of its own that is begun has ended
abbrev pub shown_after : World → Family → ℕ → Option Begun → ℕ
shown_after w f n b = cond (is_own w f n b) (suc n) n

-- what each version of the family needed that one of the first n events replaced
unfoldable pub needs_before : World → Family → (Entries → ℕ) → ℕ → List ℕ
needs_before w f need zero = []
needs_before w f need (suc n) = needs_before w f need n ++ cond (changes_family f (w.changed n)) (need (w.routes n) ∷ []) []

-- ---- a lookup
-- before its first go, or in its version, of which as many nodes are left as are due
abbrev pub IsStage : World → Lookup → Stage → Due → Type 0
IsStage w k stage.Word d = (k.gone ≡ 0) × (k.version ≡ None)
IsStage w k (stage.Node i set t) d = (m : ℕ) × (k.version ≡ Some m) × (d.answer ≡ match_in (w.routes m) k.addr) × (k.gone + d.left ≡ suc (visits_of w.direct (w.routes m) k.addr))

-- the same lookup: its start is given by the changes of its family
pub record IsSameLookup (w : World) (f : Family) (k : Lookup) (c : code_lookup.Lookup) (d : Due) : Type 0 where
  pub addr : k.addr ≡ addr_as c.addr
  pub since : c.since ≡ changes_before w f k.since
  pub stage : IsStage w k c.stage d

-- both are open, and the same, or neither is
abbrev pub AreSame : World → Family → Option Lookup → Option code_lookup.Lookup → Due → Type 0
AreSame w f None None d = Unit {0}
AreSame w f (Some k) (Some c) d = IsSameLookup w f k c d
AreSame w f None (Some c) d = ⊥
AreSame w f (Some k) None d = ⊥

-- ---- the pending update
-- what it stores: the words of these slots, or the selector
abbrev pub stores_in : Other → Seen → Stores
stores_in other.Free s = words (map (λ (x : ℕ × ℕ). x.0) s.stores)
stores_in (other.Retired end) s = words (map (λ (x : ℕ × ℕ). x.0) s.stores)
stores_in other.Built s = selector
stores_in other.Replaced s = selector

-- an update is pending that has the event's stores, of which as many were made
pub record IsUnderWay (l : Living) (b : Begun) : Type 0 where
  pub pending : is_pending l ≡ true
  pub stores : b.stores ≡ stores_in l.state l.selected
  pub made : b.made ≡ made_of l

-- an update is pending exactly if an event of the family is begun
abbrev pub IsBegun : World → Family → ℕ → Living → Option Begun → Type 0
IsBegun w f n l None = is_pending l ≡ false
IsBegun w f n l (Some b) = (changes_family f (w.changed n) ≡ true → IsUnderWay l b) × (changes_family f (w.changed n) ≡ false → is_pending l ≡ false)

-- ---- the parts, n events having ended
-- the trie: its time is the number of its family's changes, and it shows the routes before the event that is begun, if it is of the
-- family, and after it
pub record IsTrieAt (w : World) (f : Family) (n : ℕ) (b : Option Begun) (l : Living) : Type 0 where
  pub family : l.selected.family ≡ f
  pub direct : l.selected.direct_bits ≡ w.direct
  pub few : w.direct ≤ 18
  pub node_order : l.selected.nodes.space.order ≡ w.nodes
  pub leaf_order : l.selected.leaves.space.order ≡ w.leaves
  pub time : l.selected.time ≡ changes_before w f n
  pub shows : Shows l (w.routes n) (w.routes (shown_after w f n b))
  pub past : Past l (needs_before w f (node_need f w.direct) n) (needs_before w f (leaf_need f w.direct) n)
  pub begun : IsBegun w f n l b

-- ---- all of it
-- what the machine's state says of the family
pub record IsFamilyState (w : World) (f : Family) (s : State) (p : FamilyLive) (due : Dues) : Type 0 where
  pub world : IsWorld w f
  pub trie : IsTrieAt w f s.ended s.begun p.live
  pub fits : FitsAll p.live p.cursors due
  pub same : (n : ℕ) → AreSame w f (s.lookups f n) (lookup_of p.cursors n) (due n)
  pub started : (n : ℕ) (k : Lookup) → s.lookups f n ≡ Some k → k.since ≤ s.ended
  pub many : length p.cursors ≡ 64

abbrev pub IsAt : World → Family → State → FamilyLive → Type 0
IsAt w f s p = (due : Dues) × IsFamilyState w f s p due

-- in some world, and some state of the machine
abbrev pub IsSomewhere : FamilyLive → Type 0
IsSomewhere p = (w : World) × (f : Family) × (s : State) × IsAt w f s p
