-- Where a pass over asks or records ends.
use Rattle.std.specs.Prelude.{◌≡◌, ◌≤◌, Result, Ok, Err}
use Rattle.fib_io.specs.Reads.{Anywhere, AtEnd, AtFault, PassEnd, PastMost}
use Rattle.fib_run.specs.declared.asks.AskError.{AskError}
use Rattle.fib_run.specs.declared.asks.AskError.TheVariants as ask
use Rattle.fib_due.specs.declared.outcome.MrtInput.{MrtInput}
use Rattle.fib_due.specs.declared.outcome.MrtInput.TheVariants.{Updates as OfUpdates}
use Rattle.fib_run.specs.declared.state.FeedError.{FeedError}
use Rattle.fib_run.specs.declared.state.FeedError.TheVariants as feed

-- where a pass over asks ends that brings none
abbrev pub asks_end : AskError → PassEnd
asks_end (ask.BadLine line) = Anywhere
asks_end ask.NoMemory = Anywhere
asks_end ask.Fault = AtFault
asks_end ask.TooLarge = PastMost

-- where a pass over asks ends
abbrev pub ask_end : {T : Type 0} → Result T AskError → PassEnd
ask_end (Ok x) = AtEnd
ask_end (Err error) = asks_end error

-- where a pass over records ends that brings nothing
abbrev pub feeds_end : FeedError → PassEnd
feeds_end feed.Fault = AtFault
feeds_end feed.TooLarge = PastMost
feeds_end feed.NoMemory = Anywhere
feeds_end (feed.Malformed malformed) = Anywhere
feeds_end (feed.HopsFull event) = Anywhere
feeds_end (feed.TrieFull event full) = Anywhere

-- where a pass over records ends
abbrev pub feed_end : {T : Type 0} → Result T FeedError → PassEnd
feed_end (Ok x) = AtEnd
feed_end (Err error) = feeds_end error

-- elementary events are numbered from 1, and none of a dump is refused for want of room in tries
abbrev pub EventNumbered : MrtInput → FeedError → Type 0
EventNumbered which (feed.HopsFull event) = 1 ≤ event
EventNumbered which (feed.TrieFull event full) = (which ≡ OfUpdates) × (1 ≤ event)
EventNumbered which feed.Fault = Unit {0}
EventNumbered which feed.TooLarge = Unit {0}
EventNumbered which feed.NoMemory = Unit {0}
EventNumbered which (feed.Malformed malformed) = Unit {0}
