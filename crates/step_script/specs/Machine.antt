-- What a run in steps may do: lookups that pause between their reads, beside events whose stores are made one by one. It is defined over lists of
-- routes alone. A run is a list of rows that the machine allows, step by step.
use Rattle.std.specs.Prelude.{◌≡◌, ◌≢◌, ◌↔◌, ◌⊎◌, ℕ, zero, suc, ◌+◌, ◌*◌, ◌^◌, ◌<◌, ◌≤◌, List, [], ◌∷◌, ◌++◌, Bool, true, false, ◌&&◌, cond, nat_eq, nat_lt, length, take, Option, Some, None}
use Rattle.std.specs.List.{list_any}
use Rattle.table_model.specs.Address.{Address, Prefix, IsAddress, same_family}
use Rattle.table_model.specs.Bits.{value_of}
use Rattle.table_model.specs.declared.family.Family.{Family}
use Rattle.table_model.specs.Entries.{Entries, match_in}
use Rattle.fib_addr.specs.Hops.{hop_at}
use Rattle.poptrie_build.specs.Tries.{visits_of, node_need, leaf_need, IsTooMuch}
use Rattle.step_script.specs.Script.{Step, opens, goes, prepares, stores, ends, cancels}
use Rattle.step_script.specs.Rows.{StepRow, opened, full, went_on, answered, not_open, prepared, pinned, busy, stored, ended, left, cancelled, late, nothing, printed_number}

-- ---- what happens

-- The routes after n ended events, and the hops that have numbers, in the order of numbers; the events that there are, whether one more follows
-- that brings one different hop too many, and for each number of ended events the prefix at which the next one changes a chosen hop, if it
-- does; how many direct bits the tries have, and the orders of their arenas.
pub record World : Type 0 where
  pub routes : ℕ → Entries
  pub hops : List Address
  pub events : ℕ
  pub is_full : Bool
  pub changed : ℕ → Option Prefix
  pub direct : ℕ
  pub nodes : ℕ
  pub leaves : ℕ

-- what an event stores: the direct words of slots, a slot being the number that the first direct bits of its addresses are; or the
-- selector, one store for all slots
pub data Stores : Type 0 where
  words : List ℕ → Stores
  selector : Stores

-- an event that is begun: its stores, and how many were made
pub record Begun : Type 0 where
  pub stores : Stores
  pub made : ℕ

-- An open lookup: its address, how many events had ended when it was opened, and how often it went on. The version in which it goes on is
-- the number of events after which routes have its answer, from its first go on.
pub record Lookup : Type 0 where
  pub addr : Address
  pub since : ℕ
  pub gone : ℕ
  pub version : Option ℕ

-- how many events have ended, the one that is begun, and the open lookups of each family by number
pub record State : Type 0 where
  pub ended : ℕ
  pub begun : Option Begun
  pub lookups : Family → ℕ → Option Lookup

-- no step was made yet
abbrev pub at_first : State
at_first = record { ended = 0; begun = None; lookups = λ f n. None }

-- the lookups with this one of a number, or without it
abbrev pub with_lookup : Family → ℕ → Option Lookup → (Family → ℕ → Option Lookup) → Family → ℕ → Option Lookup
with_lookup f n k lookups g m = cond (same_family f g && nat_eq n m) k (lookups g m)

-- ---- stores

abbrev pub count_of : Stores → ℕ
count_of (words slots) = length slots
count_of selector = 1

-- the slot of an address
abbrev pub direct_slot : World → Address → ℕ
direct_slot w a = value_of (take w.direct a.bits)

-- some address of the slot gets another answer from the routes after the next event
abbrev pub Differs : World → ℕ → Family → ℕ → Type 0
Differs w n f v = (a : Address) × IsAddress a × (a.family ≡ f) × (direct_slot w a ≡ v) × (match_in (w.routes n) a ≢ match_in (w.routes (suc n)) a)

unfoldable pub Ascends : List ℕ → Type 0
Ascends [] = Unit {0}
Ascends (v ∷ []) = Unit {0}
Ascends (v ∷ u ∷ more) = (v < u) × Ascends (u ∷ more)

-- just the slots at which some address gets another answer, in ascending order
abbrev pub AreChanges : World → ℕ → Family → List ℕ → Type 0
AreChanges w n f slots = Ascends slots × ((v : ℕ) → (list_any (nat_eq v) slots ≡ true) ↔ Differs w n f v)

-- what the next event stores: nothing if it changes no chosen hop, else these words or the selector
abbrev pub MayStore : World → ℕ → Option Prefix → Stores → Type 0
MayStore w n None (words slots) = slots ≡ []
MayStore w n None selector = ⊥
MayStore w n (Some p) (words slots) = AreChanges w n p.family slots
MayStore w n (Some p) selector = Unit {0}

-- whether one of the first n stores covers the slot
abbrev pub covers : Stores → ℕ → ℕ → Bool
covers (words slots) made v = list_any (nat_eq v) (take made slots)
covers selector made v = nat_lt 0 made

-- ---- what is published

abbrev pub changes_family : Family → Option Prefix → Bool
changes_family f None = false
changes_family f (Some p) = same_family f p.family

-- whether a store that the begun event made covers the address's slot
abbrev pub is_stored : World → State → Option Begun → Address → Bool
is_stored w s None a = false
is_stored w s (Some b) a = changes_family a.family (w.changed s.ended) && covers b.stores b.made (direct_slot w a)

-- the number of events that are published to an address: one more than have ended if a store that was made covers its slot
abbrev pub published : World → State → Address → ℕ
published w s a = cond (is_stored w s s.begun a) (suc s.ended) s.ended

-- the version of a lookup at its next go: the one published then, at its first
abbrev pub version_at : World → State → Lookup → Option ℕ → ℕ
version_at w s k None = published w s k.addr
version_at w s k (Some m) = m

abbrev pub version_of : World → State → Lookup → ℕ
version_of w s k = version_at w s k k.version

-- ---- what is held

-- how many of the first n events change a chosen hop of the family
unfoldable pub changes_before : World → Family → ℕ → ℕ
changes_before w f zero = 0
changes_before w f (suc n) = cond (changes_family f (w.changed n)) 1 0 + changes_before w f n

-- the needs, added up, of the routes after each event from one number to another that changes a chosen hop of the family
unfoldable pub needs_between : World → Family → (Entries → ℕ) → ℕ → ℕ → ℕ
needs_between w f need n zero = 0
needs_between w f need n (suc m) = cond (changes_family f (w.changed (n + m))) (need (w.routes (n + suc m))) 0 + needs_between w f need n m

-- an arena of this order has at most 64 places for each that the family's routes needed since n ended events, and will need
abbrev pub IsCrowded : World → Family → (Entries → ℕ) → (order from now : ℕ) → Type 0
IsCrowded w f need order from now = (gap : ℕ) × (from + gap ≡ now) × (2 ^ order ≤ 64 * (need (w.routes from) + needs_between w f need from gap + need (w.routes (suc now))))

-- tries of the family's routes after n events have room
abbrev pub HasRoom : World → Family → ℕ → Type 0
HasRoom w f n = (node_need f w.direct (w.routes n) ≤ 2 ^ w.nodes) × (leaf_need f w.direct (w.routes n) ≤ 2 ^ w.leaves)

-- those of the family of which the next event changes a chosen hop have room after it, if it does
abbrev pub HasRoomNext : World → ℕ → Option Prefix → Type 0
HasRoomNext w n None = Unit {0}
HasRoomNext w n (Some p) = HasRoom w p.family (suc n)

-- the lookup of this number may hold what the next event, of its family, would need: no other of the family is before it, by the changes
-- that had ended when it was opened and then by number; at least one has ended since; the needs after the event fit; and an arena is crowded
pub record MayPin (w : World) (s : State) (f : Family) (n : ℕ) (k : Lookup) : Type 0 where
  pub held : s.lookups f n ≡ Some k
  pub family : changes_family f (w.changed s.ended) ≡ true
  pub oldest : (m : ℕ) (j : Lookup) → s.lookups f m ≡ Some j → changes_before w f k.since ≤ changes_before w f j.since
  pub first : (m : ℕ) (j : Lookup) → s.lookups f m ≡ Some j → changes_before w f j.since ≡ changes_before w f k.since → n ≤ m
  pub since : changes_before w f k.since < changes_before w f s.ended
  pub fits : HasRoom w f (suc s.ended)
  pub crowded : IsCrowded w f (node_need f w.direct) w.nodes k.since s.ended ⊎ IsCrowded w f (leaf_need f w.direct) w.leaves k.since s.ended

-- ---- the steps, each with its row and the state after it

-- opened with the least free number of 64
abbrev pub Opens : State → Address → StepRow → State → Type 0
Opens s a (opened c) t =
    (n : ℕ)
    × (c ≡ printed_number a.family n)
    × (n < 64)
    × (s.lookups a.family n ≡ None)
    × ((m : ℕ) → m < n → s.lookups a.family m ≢ None)
    × (t ≡ record s { lookups = with_lookup a.family n (Some (record { addr = a; since = s.ended; gone = 0; version = None })) s.lookups })
Opens s a full t = ((m : ℕ) → m < 64 → s.lookups a.family m ≢ None) × (t ≡ s)
Opens s a row t = ⊥

-- led on as often as its version's answer takes visits; then it has the answer, and is closed
abbrev pub Goes : World → State → Family → ℕ → StepRow → State → Type 0
Goes w s f n (went_on c) t =
    (c ≡ printed_number f n)
    × ((k : Lookup)
    × (s.lookups f n ≡ Some k)
    × (k.gone < visits_of w.direct (w.routes (version_of w s k)) k.addr)
    × (t ≡ record s { lookups = with_lookup f n (Some (record k { gone = suc k.gone; version = Some (version_of w s k) })) s.lookups }))
Goes w s f n (answered c hop) t =
    (c ≡ printed_number f n)
    × ((k : Lookup)
    × (s.lookups f n ≡ Some k)
    × (k.gone ≡ visits_of w.direct (w.routes (version_of w s k)) k.addr)
    × (hop ≡ hop_at w.hops (match_in (w.routes (version_of w s k)) k.addr))
    × (t ≡ record s { lookups = with_lookup f n None s.lookups }))
Goes w s f n (not_open c) t = (c ≡ printed_number f n) × (s.lookups f n ≡ None) × (t ≡ s)
Goes w s f n row t = ⊥

abbrev pub Prepares : World → State → Option Begun → StepRow → State → Type 0
Prepares w s (Some b) row t = (row ≡ busy) × (t ≡ s)
Prepares w s None prepared t = (s.ended < w.events) × HasRoomNext w s.ended (w.changed s.ended) × ((what : Stores) × MayStore w s.ended (w.changed s.ended) what × (t ≡ record s { begun = Some (record { stores = what; made = 0 }) }))
Prepares w s None (pinned c) t = (s.ended < w.events) × ((f : Family) × (n : ℕ) × (k : Lookup) × (c ≡ printed_number f n) × MayPin w s f n k × (t ≡ s))
Prepares w s None nothing t = (w.events ≤ s.ended) × (w.is_full ≡ false) × (t ≡ s)
Prepares w s None row t = ⊥

abbrev pub StoresOne : State → Option Begun → StepRow → State → Type 0
StoresOne s None row t = (row ≡ nothing) × (t ≡ s)
StoresOne s (Some b) stored t = (b.made < count_of b.stores) × (t ≡ record s { begun = Some (record b { made = suc b.made }) })
StoresOne s (Some b) nothing t = (count_of b.stores ≤ b.made) × (t ≡ s)
StoresOne s (Some b) row t = ⊥

abbrev pub EndsEvent : State → Option Begun → StepRow → State → Type 0
EndsEvent s None row t = (row ≡ nothing) × (t ≡ s)
EndsEvent s (Some b) ended t = (count_of b.stores ≤ b.made) × (t ≡ record s { ended = suc s.ended; begun = None })
EndsEvent s (Some b) left t = (b.made < count_of b.stores) × (t ≡ s)
EndsEvent s (Some b) row t = ⊥

abbrev pub Cancels : State → Option Begun → StepRow → State → Type 0
Cancels s None row t = (row ≡ nothing) × (t ≡ s)
Cancels s (Some b) cancelled t = (b.made ≡ 0) × (t ≡ record s { begun = None })
Cancels s (Some b) late t = (0 < b.made) × (t ≡ s)
Cancels s (Some b) row t = ⊥

-- the family and number of a printed number
abbrev pub Names : ℕ → Family → ℕ → Type 0
Names c f n = (c ≡ printed_number f n) × (n < 64)

abbrev pub Takes : World → State → Step → StepRow → State → Type 0
Takes w s (opens a) row t = Opens s a row t
Takes w s (goes c) row t = (f : Family) × (n : ℕ) × Names c f n × Goes w s f n row t
Takes w s prepares row t = Prepares w s s.begun row t
Takes w s stores row t = StoresOne s s.begun row t
Takes w s ends row t = EndsEvent s s.begun row t
Takes w s cancels row t = Cancels s s.begun row t

-- a lookup after a step: it was closed, or has the same address, start and, if it had one, version
abbrev pub SameVersion : Option ℕ → Option ℕ → Type 0
SameVersion None now = Unit {0}
SameVersion (Some m) now = now ≡ Some m

abbrev pub StaysOrEnds : Lookup → Option Lookup → Type 0
StaysOrEnds k None = Unit {0}
StaysOrEnds k (Some j) = (j.addr ≡ k.addr) × (j.since ≡ k.since) × SameVersion k.version j.version

-- the rows are a run over the steps, from one state to another
unfoldable pub Runs : World → State → List Step → List StepRow → State → Type 0
Runs w s [] [] t = s ≡ t
Runs w s (step ∷ steps) (row ∷ rows) t = (m : State) × Takes w s step row m × Runs w m steps rows t
Runs w s [] (row ∷ rows) t = ⊥
Runs w s (step ∷ steps) [] t = ⊥

-- ---- a prepare that ends the run

-- no event is begun, and the next one brings one different hop too many
pub record IsHopsFull (w : World) (s : State) : Type 0 where
  pub quiet : s.begun ≡ None
  pub last : w.events ≤ s.ended
  pub full : w.is_full ≡ true

-- No event is begun, and tries of the routes of the family of which the next one changes a chosen hop need this many places after it, more
-- than this arena has: 0 is the family's nodes', 1 its leaves', of which the first is named.
pub record IsTrieFull (w : World) (s : State) (f : Family) (arena need have : ℕ) : Type 0 where
  pub quiet : s.begun ≡ None
  pub next : s.ended < w.events
  pub family : changes_family f (w.changed s.ended) ≡ true
  pub much : IsTooMuch arena need have (node_need f w.direct (w.routes (suc s.ended))) (leaf_need f w.direct (w.routes (suc s.ended))) (2 ^ w.nodes) (2 ^ w.leaves)

-- the steps before one of the prepares are a run, and this is so after it
abbrev pub ComesTo : World → List Step → (State → Type 0) → Type 0
ComesTo w steps P = (front : List Step) × (rest : List Step) × (rows : List StepRow) × (s : State) × (steps ≡ front ++ prepares ∷ rest) × Runs w at_first front rows s × P s
