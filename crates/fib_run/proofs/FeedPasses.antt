-- The reads of asks, of records and of steps.
use Rattle.std.specs.Prelude.{IfErr, IsErrAnd, IsErrOf, MatchResult}
use Rattle.std.proofs.lemmas.Result.{err_from_is_err_and}
use Rattle.std.proofs.Common.{◌≡◌, ℕ, zero, suc, ◌≤◌, List, [], ◌∷◌, Option, Result, Ok, Err, refl, sym, subst, arith}
use Rattle.fib_io.specs.Reads.{Anywhere, Makes, PassInTime, Read}
use Rattle.fib_io.specs.declared.pieces.ReadError.{ReadError}
use Rattle.fib_io.specs.declared.pieces.ReadError.TheVariants as pieces
use Rattle.fib_io.specs.Reads as io
use Rattle.fib_io.proofs.Passing.{makes_as}
use Rattle.fib_engine.specs.declared.error.EngineError.{EngineError}
use Rattle.fib_engine.specs.declared.error.EngineError.TheVariants as engine
use Rattle.route_model.specs.Events.{Event}
use Rattle.route_tries.specs.declared.sizes.TrieFull as short
use Rattle.step_script.specs.Machine.{World}
use Rattle.step_script.specs.Script.{Step}
use Rattle.router_steps.specs.Runs as runs
use Rattle.router_steps.specs.declared.error.StepError.{StepError}
use Rattle.router_steps.specs.declared.error.StepError.TheVariants as step
use Rattle.mrt_read.specs.Whole as whole_input
use Rattle.mrt_read.specs.declared.whole.WholeError.{WholeError}
use Rattle.mrt_read.specs.declared.whole.WholeError.TheVariants as whole
use Rattle.fib_run.specs.declared.asks.AskError.{AskError}
use Rattle.fib_run.specs.declared.asks.AskError.TheVariants as ask
use Rattle.fib_due.specs.declared.outcome.MrtInput.{MrtInput}
use Rattle.fib_due.specs.declared.outcome.MrtInput.TheVariants as mrt
use Rattle.fib_due.specs.declared.outcome.Outcome.{Outcome}
use Rattle.fib_due.specs.declared.outcome.Outcome.TheVariants.{HopsFull, TrieFull}
use Rattle.fib_due.specs.declared.outcome.Which.TheVariants.{Asks, Dump, Updates}
use Rattle.fib_run.specs.declared.state.State.{State}
use Rattle.fib_run.specs.declared.state.FeedError.{FeedError}
use Rattle.fib_run.specs.declared.state.FeedError.TheVariants as feed
use Rattle.fib_run.specs.Asking.{ask_of_input, ask_refusal}
use Rattle.fib_run.specs.Loaded.{of_step}
use Rattle.fib_due.specs.Passes.{InputsRead, Content, Judge, ReadUpTo, ReadsOf, StopsReading}
use Rattle.fib_run.specs.Feeds.{EventNumbered, ask_end, asks_end, feed_end, feeds_end}
use Rattle.fib_run.specs.Standing.{IsOfLoad, StateTakesAll, feed_of_read, refusal_at, feed_outcome}
use Rattle.fib_due.specs.Stepped.{arena_of}
use Rattle.fib_due.specs.Stepping.{refusal_of_whole}
use Rattle.fib_due.specs.Stops.{input_of}
use Rattle.fib_due.proofs.Passes.{input_refused, one_ended_early, input_read, input_begun, input_fails, input_large, text_refused, out_of_memory}

pub asks_stop : (content : Content) (Goes : Judge) (before now : Option (List Read)) (name : List ℕ) (error : AskError) → Makes before now (PassInTime (content name) (Goes Asks) (asks_end error) name) → Makes before now (StopsReading content Goes ((Asks, name) ∷ []) (ask_refusal error))
asks_stop content Goes before now name (ask.BadLine line) made = input_refused content Goes before now Asks Anywhere name made
asks_stop content Goes before now name ask.NoMemory made = input_begun content Goes before now Asks name made
asks_stop content Goes before now name ask.Fault made = input_fails content Goes before now Asks name made
asks_stop content Goes before now name ask.TooLarge made = input_large content Goes before now Asks name made

pub asks_read : {X : Type 0} (content : Content) (Goes : Judge) (before now : Option (List Read)) (name : List ℕ) (r : Result X AskError) (s : Result X Outcome) → Makes before now (PassInTime (content name) (Goes Asks) (ask_end r) name) → MatchResult r (λ x. s ≡ Ok x) (λ e. IsErrAnd s (λ o. o ≡ ask_refusal e)) → Makes before now (ReadsOf content Goes ((Asks, name) ∷ []) s)
asks_read content Goes before now name (Ok x) s made is = rw is (input_read content Goes before now Asks name made)
asks_read content Goes before now name (Err e) s made is =
    let p = err_from_is_err_and s is in
    rw (p.1, p.2) (asks_stop content Goes before now name e made)

pub asks_end_of_input : (error : ReadError) → asks_end (ask_of_input error) ≡ io.end_by error
asks_end_of_input pieces.Fault = refl
asks_end_of_input pieces.TooLarge = refl
asks_end_of_input pieces.NoMemory = refl

later_event : (content : Content) (Goes : Judge) (n : ℕ) (before now : Option (List Read)) (name : List ℕ) → 1 ≤ n → Makes before now (PassInTime (content name) (Goes Updates) Anywhere name) → Makes before now (StopsReading content Goes ((Updates, name) ∷ []) (HopsFull n))
later_event content Goes zero before now name h made = absurd (omega (arith, h))
later_event content Goes (suc n) before now name h made = input_refused content Goes before now Updates Anywhere name made

later_short : (content : Content) (Goes : Judge) (n need have arena : ℕ) (before now : Option (List Read)) (name : List ℕ) → 1 ≤ n → Makes before now (PassInTime (content name) (Goes Updates) Anywhere name) → Makes before now (StopsReading content Goes ((Updates, name) ∷ []) (TrieFull n need have arena))
later_short content Goes zero need have arena before now name h made = absurd (omega (arith, h))
later_short content Goes (suc n) need have arena before now name h made = input_refused content Goes before now Updates Anywhere name made

pub feeds_stop : (content : Content) (Goes : Judge) (before now : Option (List Read)) (which : MrtInput) (name : List ℕ) (error : FeedError) → EventNumbered which error → Makes before now (PassInTime (content name) (Goes (input_of which)) (feeds_end error) name) → Makes before now (StopsReading content Goes ((input_of which, name) ∷ []) (feed_outcome which error))
feeds_stop content Goes before now which name (feed.Malformed malformed) numbered made = input_refused content Goes before now (input_of which) Anywhere name made
feeds_stop content Goes before now which name feed.NoMemory numbered made = input_begun content Goes before now (input_of which) name made
feeds_stop content Goes before now which name feed.Fault numbered made = input_fails content Goes before now (input_of which) name made
feeds_stop content Goes before now which name feed.TooLarge numbered made = input_large content Goes before now (input_of which) name made
feeds_stop content Goes before now mrt.Dump name (feed.HopsFull n) numbered made = input_refused content Goes before now Dump Anywhere name made
feeds_stop content Goes before now mrt.Updates name (feed.HopsFull n) numbered made = later_event content Goes n before now name numbered made
feeds_stop content Goes before now mrt.Dump name (feed.TrieFull n full) numbered made = absurd (let e : mrt.Dump ≡ mrt.Updates = numbered.0 in cc)
feeds_stop content Goes before now mrt.Updates name (feed.TrieFull n full) numbered made = later_short content Goes n full.need full.have full.arena before now name numbered.1 made

pub feeds_read : {X : Type 0} (content : Content) (Goes : Judge) (before now : Option (List Read)) (which : MrtInput) (name : List ℕ) (r : Result X FeedError) (s : Result X Outcome) → Makes before now (PassInTime (content name) (Goes (input_of which)) (feed_end r) name) → IfErr r (EventNumbered which) → MatchResult r (λ x. s ≡ Ok x) (λ e. IsErrAnd s (λ o. o ≡ feed_outcome which e)) → Makes before now (ReadsOf content Goes ((input_of which, name) ∷ []) s)
feeds_read content Goes before now which name (Ok x) s made numbered is = rw is (input_read content Goes before now (input_of which) name made)
feeds_read content Goes before now which name (Err e) s made numbered is =
    let p = err_from_is_err_and s is in
    rw (p.1, p.2) (feeds_stop content Goes before now which name e numbered made)

pub feeds_end_of_read : (error : WholeError) → feeds_end (feed_of_read error) ≡ whole_input.pass_end_by error
feeds_end_of_read (whole.Malformed malformed) = refl
feeds_end_of_read whole.NoMemory = refl
feeds_end_of_read whole.Fault = refl
feeds_end_of_read whole.TooLarge = refl

-- elementary events that aren't taken end the pass where they stand
pub taken_end : (which : MrtInput) (count : ℕ) (events : List Event) (old new : State) (error : FeedError) → StateTakesAll which count events old (Err error) new → feeds_end error ≡ Anywhere
taken_end which count events old new (feed.HopsFull n) takes = refl
taken_end which count events old new (feed.TrieFull n full) takes = refl
taken_end which count events old new feed.NoMemory takes = refl
taken_end which count events old new (feed.Malformed malformed) takes = absurd takes
taken_end which count events old new feed.Fault takes = absurd takes
taken_end which count events old new feed.TooLarge takes = absurd takes

pub read_numbered : (which : MrtInput) (error : WholeError) → EventNumbered which (feed_of_read error)
read_numbered which (whole.Malformed malformed) = tt
read_numbered which whole.NoMemory = tt
read_numbered which whole.Fault = tt
read_numbered which whole.TooLarge = tt

pub load_numbered : {X : Type 0} (which : MrtInput) (event : ℕ) (error : EngineError) (r : FeedError) → r ≡ refusal_at event error → 1 ≤ event → ((t : short.TrieFull) → IsErrOf {T = X} (Err error) (engine.TrieFull t) → ⊥) → EventNumbered which r
load_numbered which event engine.HopsFull r e first fits = rw e first
load_numbered which event (engine.TrieFull t) r e first fits = absurd (fits t refl)
load_numbered which event engine.NoMemory r e first fits = rw e tt

pub update_numbered : (which : MrtInput) (event : ℕ) (error : EngineError) (r : FeedError) → which ≡ mrt.Updates → r ≡ refusal_at event error → 1 ≤ event → EventNumbered which r
update_numbered which event engine.HopsFull r is e first = rw e first
update_numbered which event (engine.TrieFull t) r is e first = rw e (is, first)
update_numbered which event engine.NoMemory r is e first = rw e tt

-- the load is refused once the dump was read to its end
pub load_stops : (content : Content) (Goes : Judge) (before now : Option (List Read)) (name : List ℕ) (error : FeedError) → IsOfLoad error → Makes before now (InputsRead content Goes ((Dump, name) ∷ [])) → Makes before now (StopsReading content Goes ((Dump, name) ∷ []) (feed_outcome mrt.Dump error))
load_stops content Goes before now name (feed.TrieFull n full) of made = text_refused content Goes before now Dump name made
load_stops content Goes before now name feed.NoMemory of made = out_of_memory content Goes before now ((Dump, name) ∷ []) made
load_stops content Goes before now name (feed.HopsFull n) of made = absurd of
load_stops content Goes before now name (feed.Malformed malformed) of made = absurd of
load_stops content Goes before now name feed.Fault of made = absurd of
load_stops content Goes before now name feed.TooLarge of made = absurd of

pub events_stop : (content : Content) (Goes : Judge) (before now : Option (List Read)) (name : List ℕ) (error : WholeError) → Makes before now (PassInTime (content name) (Goes Updates) (whole_input.pass_end_by error) name) → Makes before now (StopsReading content Goes ((Updates, name) ∷ []) (refusal_of_whole error))
events_stop content Goes before now name (whole.Malformed malformed) made = input_refused content Goes before now Updates Anywhere name made
events_stop content Goes before now name whole.NoMemory made = input_begun content Goes before now Updates name made
events_stop content Goes before now name whole.Fault made = input_fails content Goes before now Updates name made
events_stop content Goes before now name whole.TooLarge made = input_large content Goes before now Updates name made

pub events_read : {X : Type 0} (content : Content) (Goes : Judge) (before now : Option (List Read)) (name : List ℕ) (r : Result X WholeError) (s : Result X Outcome) → Makes before now (PassInTime (content name) (Goes Updates) (whole_input.end_of r) name) → MatchResult r (λ x. s ≡ Ok x) (λ e. IsErrAnd s (λ o. o ≡ refusal_of_whole e)) → Makes before now (ReadsOf content Goes ((Updates, name) ∷ []) s)
events_read content Goes before now name (Ok x) s made is = rw is (input_read content Goes before now Updates name made)
events_read content Goes before now name (Err e) s made is =
    let p = err_from_is_err_and s is in
    rw (p.1, p.2) (events_stop content Goes before now name e made)

updates_ended : (content : Content) (Goes : Judge) (before now : Option (List Read)) (name : List ℕ) → Makes before now (InputsRead content Goes ((Updates, name) ∷ [])) → Makes before now (ReadUpTo content Goes ((Updates, name) ∷ []) Updates Anywhere)
updates_ended content Goes before now name made = makes_as before now (InputsRead content Goes ((Updates, name) ∷ [])) (ReadUpTo content Goes ((Updates, name) ∷ []) Updates Anywhere) made (one_ended_early content Goes Updates name)

-- a step is refused once the updates were read to their end
pub step_stops_reading : (content : Content) (Goes : Judge) (w : World) (script : List Step) (before now : Option (List Read)) (name : List ℕ) (error : StepError) → runs.StepsEndBy w script error → Makes before now (InputsRead content Goes ((Updates, name) ∷ [])) → Makes before now (StopsReading content Goes ((Updates, name) ∷ []) (of_step error))
step_stops_reading content Goes w script before now name (step.HopsFull n) (front, rest, rows, s, e, run, p) made =
    subst (λ k. Makes before now (StopsReading content Goes ((Updates, name) ∷ []) (HopsFull k))) (sym p.1) (updates_ended content Goes before now name made)
step_stops_reading content Goes w script before now name (step.TrieFull n f t) (front, rest, rows, s, e, run, p) made =
    subst (λ k. Makes before now (StopsReading content Goes ((Updates, name) ∷ []) (TrieFull k t.need t.have (arena_of f t.arena)))) (sym p.1) (updates_ended content Goes before now name made)
step_stops_reading content Goes w script before now name step.NoMemory ends made = out_of_memory content Goes before now ((Updates, name) ∷ []) made
