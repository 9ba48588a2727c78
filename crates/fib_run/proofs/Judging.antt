-- Inputs of records that are judged as those of a run, or of a run in steps.
use Rattle.std.proofs.Common.{List, [], ◌∷◌, ℕ, Option, Some, None, Result, Ok, Err, subst, sym, ◌≡◌}
use Rattle.std.specs.Prelude.{IfOk}
use Rattle.fib_io.specs.Reads.{Makes, Read}
use Rattle.printed_text.specs.Rows.{Vrp}
use Rattle.fib_words.specs.Commands.{Named, NamedSteps}
use Rattle.mrt_read.specs.Whole.{MayGoOn}
use Rattle.fib_due.specs.declared.outcome.MrtInput.TheVariants as mrt
use Rattle.fib_due.specs.declared.outcome.Outcome.{Outcome}
use Rattle.fib_due.specs.declared.outcome.Which.TheVariants.{Dump, Updates, Script, Vrps}
use Rattle.fib_due.specs.Due.{Feed, load_at, sizes_of, steps_sizes, vrps_at}
use Rattle.fib_due.specs.InTime.{AreTaken, FeedMayGoOn, TextMayGoOn, RunMayGoOn, StepsMayGoOn}
use Rattle.fib_due.specs.Passes.{InputsRead, Content, ReadsOf, StopsReading, input_for}
use Rattle.fib_due.specs.Stops.{IsDueIfTold, Refused, LongPath, Stop, Untold}
use Rattle.fib_due.proofs.Passes.{Lets, all_lets, stopped_lets}

-- ---- what holds of what is due, if it is told

if_told : {A : Type 0} (d : Result A Stop) (x : A) (P : A → Type 0) → IsDueIfTold d (Ok x) → P x → IfOk d P
if_told (Ok y) x P is p = subst P (let same : y ≡ x = cc in sym same) p
if_told (Err Untold) x P is p = tt
if_told (Err (Refused o)) x P is p = tt
if_told (Err (LongPath q n)) x P is p = tt

-- ---- the dump

dump_lets : (content : Content) (named : Named) (vrps : List Vrp) → IsDueIfTold (vrps_at content named.vrps) (Ok vrps) → Lets (λ _. FeedMayGoOn (sizes_of named) vrps mrt.Dump []) (RunMayGoOn content named) ((Dump, named.dump) ∷ [])
dump_lets content named vrps list = (λ octets p. (p.whole, if_told (vrps_at content named.vrps) vrps (λ v. AreTaken (sizes_of named) v mrt.Dump [] octets) list p.taken), tt)

pub dump_read : (content : Content) (named : Named) (vrps : List Vrp) (before now : Option (List Read)) → IsDueIfTold (vrps_at content named.vrps) (Ok vrps) → Makes before now (InputsRead content (λ _. FeedMayGoOn (sizes_of named) vrps mrt.Dump []) ((Dump, named.dump) ∷ [])) → Makes before now (InputsRead content (RunMayGoOn content named) ((Dump, named.dump) ∷ []))
dump_read content named vrps before now list made = all_lets content (λ _. FeedMayGoOn (sizes_of named) vrps mrt.Dump []) (RunMayGoOn content named) before now ((Dump, named.dump) ∷ []) (dump_lets content named vrps list) made

pub dump_stops : (content : Content) (named : Named) (vrps : List Vrp) (before now : Option (List Read)) (o : Outcome) → IsDueIfTold (vrps_at content named.vrps) (Ok vrps) → Makes before now (StopsReading content (λ _. FeedMayGoOn (sizes_of named) vrps mrt.Dump []) ((Dump, named.dump) ∷ []) o) → Makes before now (StopsReading content (RunMayGoOn content named) ((Dump, named.dump) ∷ []) o)
dump_stops content named vrps before now o list made = stopped_lets content (λ _. FeedMayGoOn (sizes_of named) vrps mrt.Dump []) (RunMayGoOn content named) before now ((Dump, named.dump) ∷ []) o (dump_lets content named vrps list) made

-- the same of a run in steps
load_lets : (named : NamedSteps) → Lets (λ _. FeedMayGoOn (steps_sizes named) [] mrt.Dump []) (StepsMayGoOn named) ((Dump, named.dump) ∷ [])
load_lets named = (λ octets p. p, tt)

pub load_read : (content : Content) (named : NamedSteps) (before now : Option (List Read)) → Makes before now (InputsRead content (λ _. FeedMayGoOn (steps_sizes named) [] mrt.Dump []) ((Dump, named.dump) ∷ [])) → Makes before now (InputsRead content (StepsMayGoOn named) ((Dump, named.dump) ∷ []))
load_read content named before now made = all_lets content (λ _. FeedMayGoOn (steps_sizes named) [] mrt.Dump []) (StepsMayGoOn named) before now ((Dump, named.dump) ∷ []) (load_lets named) made

pub load_stopped : (content : Content) (named : NamedSteps) (before now : Option (List Read)) (o : Outcome) → Makes before now (StopsReading content (λ _. FeedMayGoOn (steps_sizes named) [] mrt.Dump []) ((Dump, named.dump) ∷ []) o) → Makes before now (StopsReading content (StepsMayGoOn named) ((Dump, named.dump) ∷ []) o)
load_stopped content named before now o made = stopped_lets content (λ _. FeedMayGoOn (steps_sizes named) [] mrt.Dump []) (StepsMayGoOn named) before now ((Dump, named.dump) ∷ []) o (load_lets named) made

-- ---- the updates

update_lets : (content : Content) (named : Named) (vrps : List Vrp) (load : Feed) → IsDueIfTold (vrps_at content named.vrps) (Ok vrps) → IsDueIfTold (load_at (sizes_of named) content vrps named.dump) (Ok load) → (octets : List ℕ) → FeedMayGoOn (sizes_of named) vrps mrt.Updates load.elems octets → RunMayGoOn content named Updates octets
update_lets content named vrps load list is octets p = (p.whole, if_told (vrps_at content named.vrps) vrps (λ v. IfOk (load_at (sizes_of named) content v named.dump) (λ l. AreTaken (sizes_of named) v mrt.Updates l.elems octets)) list (if_told (load_at (sizes_of named) content vrps named.dump) load (λ l. AreTaken (sizes_of named) vrps mrt.Updates l.elems octets) is p.taken))

updates_let : (content : Content) (named : Named) (vrps : List Vrp) (load : Feed) (name : Option (List ℕ)) → IsDueIfTold (vrps_at content named.vrps) (Ok vrps) → IsDueIfTold (load_at (sizes_of named) content vrps named.dump) (Ok load) → Lets (λ _. FeedMayGoOn (sizes_of named) vrps mrt.Updates load.elems) (RunMayGoOn content named) (input_for Updates name)
updates_let content named vrps load None list is = tt
updates_let content named vrps load (Some n) list is = (update_lets content named vrps load list is, tt)

pub updates_end : (content : Content) (named : Named) (vrps : List Vrp) (load : Feed) (before now : Option (List Read)) → IsDueIfTold (vrps_at content named.vrps) (Ok vrps) → IsDueIfTold (load_at (sizes_of named) content vrps named.dump) (Ok load) → Makes before now (InputsRead content (λ _. FeedMayGoOn (sizes_of named) vrps mrt.Updates load.elems) (input_for Updates named.updates)) → Makes before now (InputsRead content (RunMayGoOn content named) (input_for Updates named.updates))
updates_end content named vrps load before now list is made = all_lets content (λ _. FeedMayGoOn (sizes_of named) vrps mrt.Updates load.elems) (RunMayGoOn content named) before now (input_for Updates named.updates) (updates_let content named vrps load named.updates list is) made

pub updates_stop : (content : Content) (named : Named) (vrps : List Vrp) (load : Feed) (before now : Option (List Read)) (o : Outcome) → IsDueIfTold (vrps_at content named.vrps) (Ok vrps) → IsDueIfTold (load_at (sizes_of named) content vrps named.dump) (Ok load) → Makes before now (StopsReading content (λ _. FeedMayGoOn (sizes_of named) vrps mrt.Updates load.elems) (input_for Updates named.updates) o) → Makes before now (StopsReading content (RunMayGoOn content named) (input_for Updates named.updates) o)
updates_stop content named vrps load before now o list is made = stopped_lets content (λ _. FeedMayGoOn (sizes_of named) vrps mrt.Updates load.elems) (RunMayGoOn content named) before now (input_for Updates named.updates) o (updates_let content named vrps load named.updates list is) made

-- the same of a run in steps
events_let : (named : NamedSteps) → Lets (λ _. MayGoOn) (StepsMayGoOn named) ((Updates, named.updates) ∷ [])
events_let named = (λ octets p. p, tt)

pub events_end : (content : Content) (named : NamedSteps) (before now : Option (List Read)) → Makes before now (InputsRead content (λ _. MayGoOn) ((Updates, named.updates) ∷ [])) → Makes before now (InputsRead content (StepsMayGoOn named) ((Updates, named.updates) ∷ []))
events_end content named before now made = all_lets content (λ _. MayGoOn) (StepsMayGoOn named) before now ((Updates, named.updates) ∷ []) (events_let named) made

pub events_stopped : (content : Content) (named : NamedSteps) (before now : Option (List Read)) (o : Outcome) → Makes before now (StopsReading content (λ _. MayGoOn) ((Updates, named.updates) ∷ []) o) → Makes before now (StopsReading content (StepsMayGoOn named) ((Updates, named.updates) ∷ []) o)
events_stopped content named before now o made = stopped_lets content (λ _. MayGoOn) (StepsMayGoOn named) before now ((Updates, named.updates) ∷ []) o (events_let named) made

-- ---- the script

script_let : (named : NamedSteps) → Lets TextMayGoOn (StepsMayGoOn named) ((Script, named.script) ∷ [])
script_let named = (λ octets p. p, tt)

pub script_end : (content : Content) (named : NamedSteps) (before now : Option (List Read)) → Makes before now (InputsRead content TextMayGoOn ((Script, named.script) ∷ [])) → Makes before now (InputsRead content (StepsMayGoOn named) ((Script, named.script) ∷ []))
script_end content named before now made = all_lets content TextMayGoOn (StepsMayGoOn named) before now ((Script, named.script) ∷ []) (script_let named) made

pub script_stopped : (content : Content) (named : NamedSteps) (before now : Option (List Read)) (o : Outcome) → Makes before now (StopsReading content TextMayGoOn ((Script, named.script) ∷ []) o) → Makes before now (StopsReading content (StepsMayGoOn named) ((Script, named.script) ∷ []) o)
script_stopped content named before now o made = stopped_lets content TextMayGoOn (StepsMayGoOn named) before now ((Script, named.script) ∷ []) o (script_let named) made

-- ---- the list of VRPs

list_let : (content : Content) (named : Named) (name : List ℕ) → Lets TextMayGoOn (RunMayGoOn content named) ((Vrps, name) ∷ [])
list_let content named name = (λ octets p. p, tt)

pub list_end : (content : Content) (named : Named) (name : List ℕ) (before now : Option (List Read)) → Makes before now (InputsRead content TextMayGoOn ((Vrps, name) ∷ [])) → Makes before now (InputsRead content (RunMayGoOn content named) ((Vrps, name) ∷ []))
list_end content named name before now made = all_lets content TextMayGoOn (RunMayGoOn content named) before now ((Vrps, name) ∷ []) (list_let content named name) made

pub list_stopped : (content : Content) (named : Named) (name : List ℕ) (before now : Option (List Read)) (o : Outcome) → Makes before now (StopsReading content TextMayGoOn ((Vrps, name) ∷ []) o) → Makes before now (StopsReading content (RunMayGoOn content named) ((Vrps, name) ∷ []) o)
list_stopped content named name before now o made = stopped_lets content TextMayGoOn (RunMayGoOn content named) before now ((Vrps, name) ∷ []) o (list_let content named name) made

-- whatever comes of the call that reads it
pub list_reads : {X : Type 0} (content : Content) (named : Named) (name : List ℕ) (before now : Option (List Read)) (result : Result X Outcome) → Makes before now (ReadsOf content TextMayGoOn ((Vrps, name) ∷ []) result) → Makes before now (ReadsOf content (RunMayGoOn content named) ((Vrps, name) ∷ []) result)
list_reads content named name before now (Ok x) made = list_end content named name before now made
list_reads content named name before now (Err o) made = list_stopped content named name before now o made
