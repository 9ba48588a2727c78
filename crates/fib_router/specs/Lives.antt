-- The live tries of both families beside an engine's routes.
use Rattle.std.specs.Prelude.{◌≡◌, ◌≤◌, ◌<◌, ℕ, suc, ◌+◌, ◌^◌, List, [], ◌∷◌, ◌++◌, Bool, true, false, Option, Some, None}
use Rattle.table_model.specs.declared.family.Family.{Family}
use Rattle.table_model.specs.declared.family.Family.TheVariants.{V4, V6}
use Rattle.table_model.specs.Entries.{Entries}
use Rattle.route_model.specs.Events.{Elem}
use Rattle.fib_addr.specs.Answers.{all_answers}
use Rattle.poptrie_build.specs.Tries.{node_need, leaf_need}
use Rattle.poptrie_set.specs.Fits.{until}
use Rattle.poptrie_set.specs.Prepares.{StoresJust}
use Rattle.poptrie_set.specs.declared.trie_set.Oldest.{Oldest}
use Rattle.poptrie_set.specs.declared.trie_set.Oldest.TheVariants as oldest
use Rattle.poptrie_update.specs.Cells.{KeepsAllReached}
use Rattle.poptrie_update.specs.Fits.{Fits, IsOldest, Open}
use Rattle.poptrie_update.specs.Lives.{HasShapeOf, KeepsStores, Living, Past, Shows, is_pending, made_of, retired_at_end, stores_left}
use Rattle.poptrie_update.specs.Outs.{OutJust}
use Rattle.poptrie_update.specs.Pendings.{IsTokenOf}
use Rattle.poptrie_update.specs.Prepares.{IsCancelled, IsMade, IsToWait, NoneRetired}
use Rattle.poptrie_update.specs.Undone.{IsAsItWas, IsGivenBack, IsReadyAfter}
use Rattle.poptrie_update.specs.declared.live.Other.{Other}
use Rattle.poptrie_update.specs.declared.live.Other.TheVariants as other
use Rattle.poptrie_update.specs.declared.pending.Pending.{Pending}
use Rattle.route_tries.specs.declared.sizes.Sizes as code_sizes
use Rattle.fib_engine.specs.Held.{EngineState, engine_routes}
use Rattle.fib_engine.specs.Staged.{routes_once}
use Rattle.fib_router.specs.declared.lives.Lives as code_lives

-- that of a family
abbrev pub live_of : Family → code_lives.Lives → Living
live_of V4 t = t.v4
live_of V6 t = t.v6

-- arenas of these sizes have room for a trie of the family's entries
abbrev pub HasRoomIn : Family → code_sizes.Sizes → Entries → Type 0
HasRoomIn f z L = (node_need f z.direct L ≤ 2 ^ z.nodes) × (leaf_need f z.direct L ≤ 2 ^ z.leaves)

-- a live trie of these sizes that was filled with these entries
pub record IsFilledWith (f : Family) (z : code_sizes.Sizes) (L : Entries) (l : Living) : Type 0 where
  pub few : z.direct ≤ 18
  pub past : Past l [] []
  pub family : l.selected.family ≡ f
  pub direct : l.selected.direct_bits ≡ z.direct
  pub nodes : l.selected.nodes.space.order ≡ z.nodes
  pub leaves : l.selected.leaves.space.order ≡ z.leaves
  pub time : l.selected.time ≡ 0
  pub quiet : is_pending l ≡ false
  pub shows : (M : Entries) → all_answers f L ≡ all_answers f M → Shows l M M

-- A family's live trie beside what an engine holds, with this event begun or none: it has the engine's sizes, and shows the routes before
-- the event and after it. If nothing is pending in it, these give the family's addresses the same.
pub record IsLiveOf (f : Family) (held : EngineState) (begun : Option Elem) (l : Living) : Type 0 where
  pub family : l.selected.family ≡ f
  pub direct : l.selected.direct_bits ≡ held.sizes.direct
  pub nodes : l.selected.nodes.space.order ≡ held.sizes.nodes
  pub leaves : l.selected.leaves.space.order ≡ held.sizes.leaves
  pub time : l.selected.time ≤ held.events
  pub counted : (e : Elem) → begun ≡ Some e → held.events + 1 < 2 ^ 64
  pub shows : Shows l (engine_routes held) (routes_once begun held)
  pub quiet : begun ≡ None → is_pending l ≡ false
  pub same : is_pending l ≡ false → all_answers f (engine_routes held) ≡ all_answers f (routes_once begun held)

abbrev pub AreLives : EngineState → Option Elem → code_lives.Lives → Type 0
AreLives held begun t = IsLiveOf V4 held begun t.v4 × IsLiveOf V6 held begun t.v6

-- a token of the family's pending update, and nothing is pending in the other trie
abbrev pub IsPendingOf : Family → Pending → code_lives.Lives → Type 0
IsPendingOf V4 p t = IsTokenOf p t.v4 × (is_pending t.v6 ≡ false)
IsPendingOf V6 p t = IsTokenOf p t.v6 × (is_pending t.v4 ≡ false)

-- before the first event
pub record IsNewLive (f : Family) (held : EngineState) (l : Living) : Type 0 where
  pub live : IsLiveOf f held None l
  pub few : held.sizes.direct ≤ 18
  pub time : l.selected.time ≡ 0
  pub past : Past l [] []

abbrev pub AreNewLives : EngineState → code_lives.Lives → Type 0
AreNewLives held t = IsNewLive V4 held t.v4 × IsNewLive V6 held t.v6

-- ---- a family's live trie through an event
-- What stays of it if its update is made ready, or isn't, with its oldest open lookup: its sizes and its time, what the open lookups
-- read, and what was replaced before.
pub record Readies (who : Oldest) (l r : Living) : Type 0 where
  pub shape : HasShapeOf l r
  pub time : r.selected.time ≡ l.selected.time
  pub fits : (os : List Open) → IsOldest who os → Fits l os → Fits r os
  pub past : (ns ls : List ℕ) → Past l ns ls → Past r ns ls

-- the words that are to be stored are just those of the slots at which an address gets another answer; the selector is stored for all
abbrev pub StoresJustBy : Other → Living → Entries → Entries → Type 0
StoresJustBy other.Free l L M = StoresJust l.selected.family l.selected.direct_bits L M l.selected.stores
StoresJustBy (other.Retired end) l L M = StoresJust l.selected.family l.selected.direct_bits L M l.selected.stores
StoresJustBy other.Built l L M = Unit {0}
StoresJustBy other.Replaced l L M = Unit {0}

-- its update is ready, from the first entries to the second, and no store was made
pub record IsReadyFor (L M : Entries) (l : Living) : Type 0 where
  pub pending : is_pending l ≡ true
  pub made : made_of l ≡ 0
  pub shows : Shows l L M
  pub stores : StoresJustBy l.state l L M

-- How it was made ready, from the first entries to the second, with its oldest open lookup. What no open lookup may be in was given back
-- first. Then words were made if each block that is asked for was free in its turn, else a trie in the other set if that was free: there was
-- no cause to wait. No cell that an open lookup can reach was written. If none is open nothing stays retired, and the blocks that are out
-- are the present version's and the pending ones.
pub record IsPrepared (who : Oldest) (p : Pending) (l r : Living) (L M : Entries) : Type 0 where
  pub made : IsMade (until who l.selected.time) p l r L M
  pub unpinned : IsToWait who l L M → ⊥
  pub ready : (b : Living) × IsGivenBack (until who l.selected.time) l b × IsReadyAfter b r
  pub cells : KeepsAllReached (until who l.selected.time) l r
  pub alone : who ≡ oldest.Nobody → NoneRetired r × OutJust r L M

-- it isn't made ready: but for what was given back it is as it was
pub record IsUnprepared (who : Oldest) (l r : Living) : Type 0 where
  pub back : (b : Living) × IsGivenBack (until who l.selected.time) l b × IsAsItWas b r
  pub cells : KeepsAllReached (until who l.selected.time) l r
  pub alone : who ≡ oldest.Nobody → NoneRetired r

-- an event's update, if it has one, is of this family, and was made ready so
abbrev pub IsPreparedBy : Oldest → Family → Option (Family × Pending) → Living → Living → Entries → Entries → Type 0
IsPreparedBy who f None l r L M = ⊥
IsPreparedBy who f (Some p) l r L M = (p.0 ≡ f) × IsPrepared who p.1 l r L M

-- what stays if a store is made, or the update is forgotten
pub record CarriesOn (l r : Living) : Type 0 where
  pub shape : HasShapeOf l r
  pub time : r.selected.time ≡ l.selected.time
  pub fits : (os : List Open) → Fits l os → Fits r os
  pub past : (ns ls : List ℕ) → Past l ns ls → Past r ns ls

-- the next store is made, or none is left
pub record StoresNext (done : Bool) (l r : Living) : Type 0 where
  pub carries : CarriesOn l r
  pub pending : is_pending r ≡ true
  pub kept : KeepsStores l r
  pub shows : (L M : Entries) → Shows l L M → Shows r L M
  pub made : done ≡ true → (0 < stores_left l) × (made_of r ≡ suc (made_of l))
  pub none : done ≡ false → (stores_left l ≡ 0) × (r ≡ l)

-- its update is over: what the first entries needed is what was replaced last
pub record GoesBy (l r : Living) : Type 0 where
  pub shape : HasShapeOf l r
  pub time : r.selected.time ≡ suc l.selected.time
  pub all : stores_left l ≡ 0
  pub quiet : is_pending r ≡ false
  pub fits : (os : List Open) → Fits l os → Fits r os
  pub shows : (L M : Entries) → Shows l L M → Shows r M M
  pub past : (L M : Entries) (ns ls : List ℕ) → Shows l L M → Past l ns ls → Past r (ns ++ node_need l.selected.family l.selected.direct_bits L ∷ []) (ls ++ leaf_need l.selected.family l.selected.direct_bits L ∷ [])

-- if the selector was stored, the set that it replaced is retired at this end, else the other set is as it was
abbrev pub RetiresOther : Living → Living → Type 0
RetiresOther l r = r.state ≡ retired_at_end (suc l.selected.time) l.state

-- what stays if some of its stores, or none, were made
pub record StoresOn (l r : Living) : Type 0 where
  pub carries : CarriesOn l r
  pub pending : is_pending r ≡ is_pending l
  pub idle : is_pending l ≡ false → r ≡ l
  pub shows : (L M : Entries) → Shows l L M → Shows r L M
  pub cells : KeepsAllReached 0 l r

-- the stores that were left of its update were made, and then it was over
pub record Finishes (l r : Living) : Type 0 where
  pub shape : HasShapeOf l r
  pub time : r.selected.time ≡ suc l.selected.time
  pub quiet : is_pending r ≡ false
  pub fits : (os : List Open) → Fits l os → Fits r os
  pub shows : (L M : Entries) → Shows l L M → Shows r M M
  pub past : (L M : Entries) (ns ls : List ℕ) → Shows l L M → Past l ns ls → Past r (ns ++ node_need l.selected.family l.selected.direct_bits L ∷ []) (ls ++ leaf_need l.selected.family l.selected.direct_bits L ∷ [])
  pub cells : KeepsAllReached 0 l r

-- an event was applied to it, before which it showed these entries: what they needed is what was replaced last
pub record IsAppliedTo (L : Entries) (l r : Living) : Type 0 where
  pub shape : HasShapeOf l r
  pub time : r.selected.time ≡ suc l.selected.time
  pub quiet : is_pending r ≡ false
  pub past : (ns ls : List ℕ) → Past l ns ls → Past r (ns ++ node_need l.selected.family l.selected.direct_bits L ∷ []) (ls ++ leaf_need l.selected.family l.selected.direct_bits L ∷ [])

-- its update is forgotten
pub record IsForgotten (l r : Living) : Type 0 where
  pub carries : CarriesOn l r
  pub none : made_of l ≡ 0
  pub quiet : is_pending r ≡ false
  pub shows : (L M : Entries) → Shows l L M → Shows r L L
  pub undone : IsCancelled l r
