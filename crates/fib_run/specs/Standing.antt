-- What a state holds after elementary events.
use Rattle.std.specs.Prelude.{◌≡◌, ◌≤◌, ℕ, List, [], ◌++◌, length, map, codes, unwrap_or, Option, Some, None, true, false, Result, Ok, Err}
use Rattle.table_model.specs.Address.{Address}
use Rattle.table_model.specs.Changes.{Change}
use Rattle.route_model.specs.Events.{Elem, Event}
use Rattle.printed_text.specs.Rows.{Vrp}
use Rattle.fib_report.specs.Views.{invalid_as}
use Rattle.route_model.specs.Choice.{after_elems, elems_after}
use Rattle.fib_engine.specs.Held.{EngineState}
use Rattle.fib_engine.specs.Stands.{IsLoading, EngineStands}
use Rattle.fib_engine.specs.declared.error.EngineError.{EngineError}
use Rattle.fib_engine.specs.declared.error.EngineError.TheVariants as engine
use Rattle.wire_model.specs.Rules.{rule_number}
use Rattle.fib_addr.specs.Hops.{most_hops}
use Rattle.fib_due.specs.declared.outcome.MrtInput.{MrtInput}
use Rattle.fib_due.specs.declared.outcome.MrtInput.TheVariants.{Dump, Updates}
use Rattle.fib_due.specs.declared.outcome.Outcome.{Outcome}
use Rattle.fib_due.specs.declared.outcome.Outcome.TheVariants as outcome
use Rattle.fib_run.specs.declared.feed.Counts.{Counts}
use Rattle.fib_run.specs.declared.state.State.{State}
use Rattle.fib_run.specs.declared.state.FeedError.{FeedError}
use Rattle.fib_run.specs.declared.state.FeedError.TheVariants.{Malformed, HopsFull, TrieFull, NoMemory, Fault, TooLarge}
use Rattle.fib_io.specs.Causes.{Rose}
use Rattle.fib_run.specs.declared.report.InputCounts.{InputCounts}
use Rattle.mrt_read.specs.declared.whole.WholeError.{WholeError}
use Rattle.mrt_read.specs.declared.whole.WholeError.TheVariants as whole
use Rattle.fib_run.specs.Told.{told_changes, told_moves}
use Rattle.fib_due.specs.Stops.{Stop, IsDueIfTold, FailsDue, event_in, input_of}
use Rattle.fib_due.specs.Refusals.{Limits, ManyHops, Refusal, Short, routes_by, stop_at, too_much}
use Rattle.fib_due.specs.Due.{Feed, run_changes, feeds_at, limits_of, run_moves}
use Rattle.made_input.specs.Files.{dump_octets, updates_octets}
use Rattle.fib_io.specs.Held.{held_under}
use Rattle.fib_io.specs.declared.memory_inputs.SureInputs.{SureInputs}
use Rattle.fib_words.specs.Commands.{Named}
use Rattle.route_tries.specs.Sizes.{shortage, shortage_as}

-- the engine has these elementary events of an input, which came after those: of a dump they are its load, and updates came since the load
abbrev pub EngineHas : MrtInput → List Elem → List Elem → EngineState → Type 0
EngineHas Dump before elems e = IsLoading (before ++ elems) e
EngineHas Updates before elems e = EngineStands before elems e

-- the engine takes the elementary events of an input, after n of them: those of a dump before the load ended, and those of updates since, which it counts
abbrev pub IsAtEvent : MrtInput → ℕ → EngineState → Type 0
IsAtEvent Dump count e = (e.loaded ≡ false) × (e.events ≡ 0)
IsAtEvent Updates count e = (e.loaded ≡ true) × (e.events ≡ count)

-- the changes so far: none until the load ended, and then those of the load and of these elementary events of updates
abbrev pub changes_so_far : MrtInput → Limits → List Address → List Elem → List Elem → List (ℕ × Change)
changes_so_far Dump limits hops before elems = []
changes_so_far Updates limits hops before elems = run_changes limits.fewest limits.steady limits.every hops before elems

-- how many changes each of the events so far needed, if that is asked for
abbrev pub moves_so_far : MrtInput → Limits → List Address → List Elem → List Elem → List (ℕ × ℕ)
moves_so_far Dump limits hops before elems = []
moves_so_far Updates limits hops before elems = run_moves limits.fewest limits.every hops before elems

-- The state after these elementary events of an input, which came after earlier ones, within these limits. Its hops are few enough, and its changes are those so far, as is the number of those that each event needed.
pub record StateStands (which : MrtInput) (limits : Limits) (before elems : List Elem) (state : State) : Type 0 where
  pub engine : EngineHas which before elems state.engine
  pub every_is : state.engine.every ≡ limits.every
  pub fewest_is : state.engine.fewest ≡ limits.fewest
  pub counted_is : state.fewest ≡ limits.fewest
  pub steady_is : state.steady ≡ limits.steady
  pub sizes_are : state.engine.sizes ≡ limits.sizes
  pub few : length state.engine.hops ≤ most_hops
  pub fits : stop_at (too_much which limits.sizes) before elems ≡ None
  pub changes : told_changes state ≡ changes_so_far which limits state.engine.hops before elems
  pub moves : told_moves state ≡ moves_so_far which limits state.engine.hops before elems

-- the first of these elementary events after which something is too much has this number
abbrev pub IsStopped : MrtInput → Limits → List Elem → List Elem → ℕ → Refusal → Type 0
IsStopped which limits before elems n r = stop_at (too_much which limits.sizes) before elems ≡ Some (n, r)

-- what became of a state that took elementary events, the last of which has this number in its input
abbrev pub StateTakes : {T : Type 0} → MrtInput → ℕ → List Elem → State → Result T FeedError → State → Type 0
StateTakes which event elems old (Ok x) new = (limits : Limits) (before done : List Elem) → event ≡ length (done ++ elems) → StateStands which limits before done old → StateStands which limits before (done ++ elems) new
StateTakes which event elems old (Err (HopsFull n)) new = (limits : Limits) (before done : List Elem) → event ≡ length (done ++ elems) → StateStands which limits before done old → IsStopped which limits before (done ++ elems) n ManyHops
StateTakes which event elems old (Err (TrieFull n full)) new = (limits : Limits) (before done : List Elem) → event ≡ length (done ++ elems) → StateStands which limits before done old → IsStopped which limits before (done ++ elems) n (Short (shortage_as full))
StateTakes which event elems old (Err (Malformed malformed)) new = ⊥
StateTakes which event elems old (Err Fault) new = ⊥
StateTakes which event elems old (Err TooLarge) new = ⊥
StateTakes which event elems old (Err NoMemory) new = Unit {0}

-- the elementary events of events that come after others
abbrev pub next_elems : List Elem → List Elem → List Event → List Elem
next_elems before done events = elems_after (after_elems [] (before ++ done)) events

-- the same of events, after n elementary events of the input
abbrev pub StateTakesAll : MrtInput → ℕ → List Event → State → Result ℕ FeedError → State → Type 0
StateTakesAll which count events old (Ok n) new = (limits : Limits) (before done : List Elem) → count ≡ length done → StateStands which limits before done old → (n ≡ length (done ++ next_elems before done events)) × StateStands which limits before (done ++ next_elems before done events) new
StateTakesAll which count events old (Err (HopsFull n)) new = (limits : Limits) (before done : List Elem) → count ≡ length done → StateStands which limits before done old → IsStopped which limits before (done ++ next_elems before done events) n ManyHops
StateTakesAll which count events old (Err (TrieFull n full)) new = (limits : Limits) (before done : List Elem) → count ≡ length done → StateStands which limits before done old → IsStopped which limits before (done ++ next_elems before done events) n (Short (shortage_as full))
StateTakesAll which count events old (Err (Malformed malformed)) new = ⊥
StateTakesAll which count events old (Err Fault) new = ⊥
StateTakesAll which count events old (Err TooLarge) new = ⊥
StateTakesAll which count events old (Err NoMemory) new = Unit {0}

-- an elementary event of this number that the engine didn't take, as a refusal of an input
abbrev pub refusal_at : ℕ → EngineError → FeedError
refusal_at event engine.HopsFull = HopsFull event
refusal_at event (engine.TrieFull full) = TrieFull event full
refusal_at event engine.NoMemory = NoMemory

-- the counts are those of what an input brings
pub record IsCounted (feed : Feed) (counts : Counts) : Type 0 where
  pub records : counts.records ≡ feed.records
  pub skipped : counts.skipped ≡ feed.skipped
  pub treated : counts.treated ≡ feed.treated
  pub events : counts.events ≡ length feed.elems
  pub invalid : map invalid_as counts.invalid.items ≡ feed.invalid

-- the state has what the input brings, and it was counted
pub record StateHas (which : MrtInput) (limits : Limits) (before : List Elem) (feed : Feed) (counts : Counts) (state : State) : Type 0 where
  pub counted : IsCounted feed counts
  pub stands : StateStands which limits before feed.elems state

-- why an input isn't read on, as a refusal of what it brings
abbrev pub feed_of_read : WholeError → FeedError
feed_of_read (whole.Malformed malformed) = Malformed malformed
feed_of_read whole.NoMemory = NoMemory
feed_of_read whole.Fault = Fault
feed_of_read whole.TooLarge = TooLarge

-- the outcome if an input brings nothing
abbrev pub feed_outcome : MrtInput → FeedError → Outcome
feed_outcome which (HopsFull n) = outcome.HopsFull (event_in which n)
feed_outcome which (TrieFull n full) = outcome.TrieFull (event_in which n) full.need full.have full.arena
feed_outcome which (Malformed malformed) = outcome.Malformed (input_of which) malformed.number (rule_number malformed.rule)
feed_outcome which NoMemory = outcome.NoMemory
feed_outcome which Fault = outcome.ReadFault
feed_outcome which TooLarge = outcome.TooLarge (input_of which)

-- what was brought is what the definition gives, but for a fault of reading or running out of memory
abbrev pub StateBrings : MrtInput → Limits → List Elem → Result Counts FeedError → State → Result Feed Stop → Type 0
StateBrings which limits before (Ok counts) new due = (feed : Feed) × StateHas which limits before feed counts new × IsDueIfTold due (Ok feed)
StateBrings which limits before (Err error) new due = FailsDue (feed_outcome which error) due

-- a fault comes only if the count of the name rose, and every other answer leaves all counts
abbrev pub FeedsFrom : {T : Type 0} → (List ℕ → ℕ) → (List ℕ → ℕ) → List ℕ → Result T FeedError → Type 0
FeedsFrom before now name (Err Fault) = Rose (before name) (now name)
FeedsFrom before now name result = now ≡ before

-- the same of a call that answers an outcome
abbrev pub StateFeeds : MrtInput → Limits → List Elem → Result Counts Outcome → State → Result Feed Stop → Type 0
StateFeeds which limits before (Ok counts) new due = (feed : Feed) × StateHas which limits before feed counts new × IsDueIfTold due (Ok feed)
StateFeeds which limits before (Err o) new due = FailsDue o due

-- both inputs were counted, and the state has what they bring
pub record IsFed (limits : Limits) (load updates : Feed) (fed : InputCounts) (state : State) : Type 0 where
  pub counted : IsCounted load fed.load
  pub has : StateHas Updates limits load.elems updates fed.updates state

-- what became of a state that was to take the dump and the updates that are named
abbrev pub FeedsBoth : (List ℕ → Option (List ℕ)) → List Vrp → Named → Result InputCounts Outcome → State → Type 0
FeedsBoth content vrps named (Ok fed) new = (feeds : Feed × Feed) × IsFed (limits_of named) feeds.0 feeds.1 fed new × IsDueIfTold (feeds_at content vrps named) (Ok feeds)
FeedsBoth content vrps named (Err o) new = FailsDue o (feeds_at content vrps named)

-- what inputs in memory hold under a name
abbrev pub holds : SureInputs → List ℕ → List ℕ
holds inputs name = unwrap_or (held_under inputs.names.items name) []

-- under their names the inputs hold what is made of n routes from a seed
abbrev pub HoldsMade : ℕ → ℕ → SureInputs → Type 0
HoldsMade routes seed inputs = (holds inputs (codes "dump") ≡ dump_octets seed routes) × (holds inputs (codes "updates") ≡ updates_octets seed routes)

-- why a load's end may not be reached
abbrev pub IsOfLoad : FeedError → Type 0
IsOfLoad (TrieFull n full) = Unit {0}
IsOfLoad NoMemory = Unit {0}
IsOfLoad (HopsFull n) = ⊥
IsOfLoad (Malformed malformed) = ⊥
IsOfLoad Fault = ⊥
IsOfLoad TooLarge = ⊥

-- The load's end was not reached: an arena is too small for tries of its routes, or memory ran out.
abbrev pub EndsShort : Limits → List Elem → FeedError → Type 0
EndsShort limits load (TrieFull n full) = (n ≡ 0) × (shortage limits.sizes (routes_by load) ≡ Some (shortage_as full))
EndsShort limits load NoMemory = Unit {0}
EndsShort limits load (HopsFull n) = ⊥
EndsShort limits load (Malformed malformed) = ⊥
EndsShort limits load Fault = ⊥
EndsShort limits load TooLarge = ⊥
