-- A run in steps: what its inputs bring, and its text as a reply.
use Rattle.std.proofs.Common.{◌≡◌, ℕ, List, [], ◌∷◌, Option, Some, None, Result, Ok, Err, inl, inr, refl, sym, ap, subst}
use Rattle.std.specs.Prelude.{◌⊎◌, option_map}
use Rattle.std.specs.declared.vec.Vec.{Vec}
use Rattle.octet_fields.specs.Field.{◌>>=◌}
use Rattle.route_model.specs.Events.{Event}
use Rattle.step_script.specs.Script.{Step}
use Rattle.step_script.specs.Machine.{World}
use Rattle.router_steps.specs.declared.error.StepError.{StepError}
use Rattle.router_steps.specs.declared.error.StepError.TheVariants as step
use Rattle.router_steps.specs.Runs.{StepsEndBy}
use Rattle.router_steps.specs.Stepping.{Stepping, IsTextOf, world_of}
use Rattle.fib_io.specs.Causes.{Rose}
use Rattle.fib_words.specs.Commands.{Asked, Named, NamedMoves, NamedSame, NamedSave, NamedSteps, Run, Check, Make, Steps, Same, Save, Moves}
use Rattle.fib_due.specs.declared.reply.Reply as code_reply
use Rattle.fib_due.specs.declared.reply.Wrong as code_wrong
use Rattle.fib_due.specs.declared.outcome.Outcome.{Outcome}
use Rattle.fib_due.specs.declared.outcome.Outcome.TheVariants.{Done, CheckNo, Differ, MovesNo, Usage, ReadFault, WriteFault, NoMemory, TooLarge, Malformed, HopsFull, TrieFull, BadLine, PeersFull, PathTooLong}
use Rattle.fib_due.specs.Views.{reply_as, wrong_as}
use Rattle.fib_due.specs.Stops.{Stop, Untold, Refused, LongPath, GivesDue, IsDueIfTold, FailsDue}
use Rattle.fib_due.specs.Stepping.{events_at}
use Rattle.fib_due.specs.Due.{Feed, Reply, load_at, output_at, script_at, stepped, stepping_at, steps_sizes, with_reply, with_world, world_at}
use Rattle.fib_due.specs.declared.outcome.Which.TheVariants as which
use Rattle.fib_due.specs.Ends.{OneRose, ReadsBy, after}
use Rattle.fib_run.specs.Loaded.{of_step}
use Rattle.fib_due.specs.Owned.{StopsIn}
use Rattle.fib_due.specs.Stepped.{EndsEarly, GivesSteps, IfStepping}
use Rattle.fib_due.specs.Untold.{GivesSome, GivesStepping, GivesText, StepsOfSome, untold_text}
use Rattle.fib_due.proofs.Due.{after_is, fails_by, reads_more, retyped}

abbrev Content : Type 0
Content = List ℕ → Option (List ℕ)

-- ---- refusals that come first

-- where something is due, want of memory and a fault of reading alone may come in its place
spared : {A : Type 0} (x : A) (o : Outcome) → FailsDue o (Ok x) → (o ≡ NoMemory) ⊎ (o ≡ ReadFault)
spared x NoMemory f = inl refl
spared x ReadFault f = inr refl
spared x Done f = absurd f
spared x (CheckNo n) f = absurd f
spared x (Differ d) f = absurd f
spared x (MovesNo w) f = absurd f
spared x (PeersFull peers) f = absurd cc
spared x (PathTooLong p n) f = absurd cc
spared x WriteFault f = absurd f
spared x Usage f = absurd cc
spared x (TooLarge input) f = absurd cc
spared x (Malformed input number rule) f = absurd cc
spared x (HopsFull event) f = absurd cc
spared x (TrieFull event need have arena) f = absurd cc
spared x (BadLine input line why) f = absurd cc

any_run : (P : Stepping → Type 0) → ((s : Stepping) → P s) → (d : Result Stepping Stop) → IfStepping d P
any_run P f (Ok s) = f s
any_run P f (Err stop) = tt

-- these two may come whatever is due
spared_gives : (X : Type 0) (d : Result Stepping Stop) (o : Outcome) → (o ≡ NoMemory) ⊎ (o ≡ ReadFault) → GivesText {X = X} d (Err o)
spared_gives X d o (inl e) = subst (λ (p : Outcome). GivesText {X = X} d (Err p)) (sym e) (tt, any_run (λ s. EndsEarly s NoMemory) (λ s. tt) d)
spared_gives X d o (inr e) = subst (λ (p : Outcome). GivesText {X = X} d (Err p)) (sym e) (tt, any_run (λ s. EndsEarly s ReadFault) (λ s. tt) d)

stop_gives : (A X : Type 0) (stop : Stop) (o : Outcome) → FailsDue {Y = A} o (Err stop) → GivesText {X = X} (Err stop) (Err o)
stop_gives A X stop o f = (fails_by (Err stop) (untold_text (Err stop)) (λ p i. retyped A (List ℕ) stop p i) o f, tt)

-- so of a part of what is due that wasn't accepted
part_gives : (A X : Type 0) (h : Result A Stop → Result Stepping Stop) → ((stop : Stop) → h (Err stop) ≡ Err stop) → (d : Result A Stop) (o : Outcome) → FailsDue o d → GivesText {X = X} (h d) (Err o)
part_gives A X h s (Ok x) o f = spared_gives X (h (Ok x)) o (spared x o f)
part_gives A X h s (Err stop) o f = subst (λ (d : Result Stepping Stop). GivesText {X = X} d (Err o)) (sym (s stop)) (stop_gives A X stop o f)

untold_gives : (A X : Type 0) (d : Result A Stop) (o : Outcome) → FailsDue o d → GivesText {X = X} (Err Untold) (Err o)
untold_gives A X d o f = (fails_by d (untold_text (Err Untold)) (λ p i. tt) o f, tt)

-- ---- the world that the dump and the updates bring

module _ (content : Content) (named : NamedSteps) where
  abbrev Loaded : Result Feed Stop
  Loaded = load_at (steps_sizes named) content [] named.dump

  abbrev Later : Result (List Event) Stop
  Later = events_at content named.updates

  abbrev fine : Feed → List Event → Result World Stop
  fine load events = Ok (world_of (steps_sizes named) load.elems events)

  abbrev with_later : Feed → Result (List Event) Stop → Result World Stop
  with_later load e = e >>= fine load

  -- once both are read the world is theirs
  pub world_due : (load : Feed) (events : List Event) → IsDueIfTold Loaded (Ok load) → IsDueIfTold Later (Ok events) → IsDueIfTold (world_at content named) (fine load events)
  unfolding world_at
  world_due load events i j = by_load Loaded i
    where
      by_events : (e : Result (List Event) Stop) → IsDueIfTold e (Ok events) → IsDueIfTold (with_later load e) (fine load events)
      by_events (Ok y) j = let same : y ≡ events = cc in ap (fine load) same
      by_events (Err Untold) j = tt
      by_events (Err (Refused o)) j = absurd cc
      by_events (Err (LongPath p n)) j = absurd cc

      by_load : (l : Result Feed Stop) → IsDueIfTold l (Ok load) → IsDueIfTold (l >>= λ x. with_later x Later) (fine load events)
      by_load (Ok x) i = let same : x ≡ load = cc in subst (λ (z : Feed). IsDueIfTold (with_later z Later) (fine load events)) (sym same) (by_events Later j)
      by_load (Err Untold) i = tt
      by_load (Err (Refused o)) i = absurd cc
      by_load (Err (LongPath p n)) i = absurd cc

  -- a dump that isn't accepted
  pub dump_stops : (X : Type 0) (script : List Step) (o : Outcome) → FailsDue o Loaded → GivesText {X = X} (with_world script (world_at content named)) (Err o)
  unfolding world_at
  dump_stops X script o f = part_gives Feed X (λ l. with_world script (l >>= λ load. with_later load Later)) (λ stop. refl) Loaded o f

  -- updates that aren't
  pub updates_stop : (X : Type 0) (script : List Step) (load : Feed) (o : Outcome) → IsDueIfTold Loaded (Ok load) → FailsDue o Later → GivesText {X = X} (with_world script (world_at content named)) (Err o)
  unfolding world_at
  updates_stop X script load o i f = by_load Loaded i
    where
      by_load : (l : Result Feed Stop) → IsDueIfTold l (Ok load) → GivesText {X = X} (with_world script (l >>= λ x. with_later x Later)) (Err o)
      by_load (Ok x) i = part_gives (List Event) X (λ e. with_world script (with_later x e)) (λ stop. refl) Later o f
      by_load (Err Untold) i = untold_gives (List Event) X Later o f
      by_load (Err (Refused p)) i = absurd cc
      by_load (Err (LongPath p n)) i = absurd cc

-- the text of a run in the world that is due, or how it ends early
pub text_due : (X : Type 0) (script : List Step) (due : Result World Stop) (w : World) (text : Vec ℕ X) → IsDueIfTold due (Ok w) → IsTextOf (record { script = script; world = w }) text.items → GivesText (with_world script due) (Ok text)
text_due X script (Ok v) w text i x = let same : v ≡ w = cc in (tt, subst (λ (z : World). IsTextOf (record { script = script; world = z }) text.items) (sym same) x)
text_due X script (Err Untold) w text i x = (tt, tt)
text_due X script (Err (Refused o)) w text i x = absurd cc
text_due X script (Err (LongPath p n)) w text i x = absurd cc

-- an outcome that a step may have
abbrev pub IsOfStep : Outcome → Type 0
IsOfStep (HopsFull event) = Unit {0}
IsOfStep (TrieFull event need have arena) = Unit {0}
IsOfStep NoMemory = Unit {0}
IsOfStep o = ⊥

pub early_due : (X : Type 0) (script : List Step) (due : Result World Stop) (w : World) (o : Outcome) → IsDueIfTold due (Ok w) → IsOfStep o → EndsEarly (record { script = script; world = w }) o → GivesText {X = X} (with_world script due) (Err o)
early_due X script due w o i s x = (fails o s due i, ends due i)
  where
    told : (o : Outcome) (d : Result World Stop) → IsDueIfTold d (Ok w) → IsDueIfTold (untold_text (with_world script d)) (Err (Refused o))
    told o (Ok v) i = tt
    told o (Err Untold) i = tt
    told o (Err (Refused p)) i = absurd cc
    told o (Err (LongPath p n)) i = absurd cc

    fails : (o : Outcome) → IsOfStep o → (d : Result World Stop) → IsDueIfTold d (Ok w) → FailsDue o (untold_text (with_world script d))
    fails (HopsFull event) s d i = told (HopsFull event) d i
    fails (TrieFull event need have arena) s d i = told (TrieFull event need have arena) d i
    fails NoMemory s d i = tt
    fails (Differ x) s d i = absurd s
    fails (MovesNo x) s d i = absurd s
    fails (PeersFull peers) s d i = absurd s
    fails (PathTooLong p n) s d i = absurd s
    fails Done s d i = absurd s
    fails (CheckNo n) s d i = absurd s
    fails WriteFault s d i = absurd s
    fails ReadFault s d i = absurd s
    fails Usage s d i = absurd s
    fails (TooLarge input) s d i = absurd s
    fails (Malformed input number rule) s d i = absurd s
    fails (BadLine input line why) s d i = absurd s

    ends : (d : Result World Stop) → IsDueIfTold d (Ok w) → IfStepping (with_world script d) (λ s. EndsEarly s o)
    ends (Ok v) i = let same : v ≡ w = cc in subst (λ (z : World). EndsEarly (record { script = script; world = z }) o) (sym same) x
    ends (Err stop) i = tt

-- ---- why a step isn't made

pub is_of_step : (e : StepError) → IsOfStep (of_step e)
is_of_step (step.HopsFull n) = tt
is_of_step (step.TrieFull n f t) = tt
is_of_step step.NoMemory = tt

pub early_of : (script : List Step) (w : World) (e : StepError) → StepsEndBy w script e → EndsEarly (record { script = script; world = w }) (of_step e)
early_of script w (step.HopsFull n) c = c
early_of script w (step.TrieFull n f t) (front, rest, rows, s, e, runs, p) = (front, rest, rows, s, e, runs, (f, t.arena, p.0, refl, p.1))
early_of script w step.NoMemory c = tt

pub step_stops : (named : NamedSteps) (e : StepError) → StopsIn (Steps named) (of_step e)
step_stops named (step.HopsFull n) = (which.Updates, tt, tt)
step_stops named (step.TrieFull n f t) = (which.Updates, tt, tt)
step_stops named step.NoMemory = (which.Updates, tt, tt)

-- ---- the inputs that are read

pub first_read : (name : List ℕ) (names : List (List ℕ)) (before now : List ℕ → ℕ) (o : Outcome) → ReadsBy (Rose (before name) (now name)) before now o → ReadsBy (OneRose (name ∷ names) before now) before now o
first_read name names before now o r = reads_more (Rose (before name) (now name)) (OneRose (name ∷ names) before now) before now o (λ rose. inl rose) r

-- those that are read behind one that is accepted
pub later_read : {A : Type 0} (d : Result A Stop) (x : A) (name : List ℕ) (names : List (List ℕ)) (before mid now : List ℕ → ℕ) (o : Outcome) → IsDueIfTold d (Ok x) → mid ≡ before → ReadsBy (OneRose names mid now) mid now o → ReadsBy (OneRose (name ∷ after d names) before now) before now o
later_read d x name names before mid now o i same r =
    let at : ReadsBy (OneRose names before now) before now o = subst (λ b. ReadsBy (OneRose names b now) b now o) same r in
    reads_more (OneRose names before now) (OneRose (name ∷ after d names) before now) before now o (λ rose. inr (subst (λ ns. OneRose ns before now) (sym (after_is d x names i)) rose)) at

-- ---- the script

module _ (content : Content) (named : NamedSteps) where
  abbrev Read : Result (List Step) Stop
  Read = script_at content named.script

  abbrev with_script : Result (List Step) Stop → Result Stepping Stop
  with_script r = r >>= λ script. with_world script (world_at content named)

  -- one that isn't accepted
  pub script_stops : (X : Type 0) (o : Outcome) → FailsDue o Read → GivesText {X = X} (stepping_at content named) (Err o)
  unfolding stepping_at
  script_stops X o f = part_gives (List Step) X with_script (λ stop. refl) Read o f

  -- what is due of these steps is due of the script
  pub script_gives : (X : Type 0) (script : List Step) (result : Result (Vec ℕ X) Outcome) → IsDueIfTold Read (Ok script) → GivesText (with_world script (world_at content named)) result → GivesText (stepping_at content named) result
  unfolding stepping_at
  script_gives X script result i g = by_script Read i
    where
      untold : (r : Result (Vec ℕ X) Outcome) → GivesText (with_world script (world_at content named)) r → GivesText (Err Untold) r
      untold (Ok text) g = (tt, tt)
      untold (Err o) g = untold_gives (List ℕ) X (untold_text (with_world script (world_at content named))) o g.0

      by_script : (r : Result (List Step) Stop) → IsDueIfTold r (Ok script) → GivesText (with_script r) result
      by_script (Ok x) i = let same : x ≡ script = cc in subst (λ (z : List Step). GivesText (with_world z (world_at content named)) result) (sym same) g
      by_script (Err Untold) i = untold result g
      by_script (Err (Refused o)) i = absurd cc
      by_script (Err (LongPath p n)) i = absurd cc

-- ---- the reply

abbrev plain : List ℕ → Reply
plain text = record { text = text; wrong = None }

none_wrong : (o : Option code_wrong.Wrong) → option_map wrong_as o ≡ None → o ≡ None
none_wrong None e = refl
none_wrong (Some x) e = absurd cc

-- the reply with the text of a run is one to it
text_replied : (X : Type 0) (d : Result Stepping Stop) (text : Vec ℕ X) (reply : code_reply.Reply) → reply_as reply ≡ plain text.items → GivesText d (Ok text) → GivesStepping d (Ok reply)
text_replied X (Ok s) text reply r g = (tt, (subst (λ (t : List ℕ). IsTextOf s t) (sym (ap (λ (x : Reply). x.text) r)) g.1, none_wrong reply.wrong (ap (λ (x : Reply). x.wrong) r)))
text_replied X (Err Untold) text reply r g = (tt, tt)
text_replied X (Err (Refused o)) text reply r g = absurd cc
text_replied X (Err (LongPath p n)) text reply r g = absurd cc

text_refused : (X : Type 0) (d : Result Stepping Stop) (o : Outcome) → GivesText {X = X} d (Err o) → GivesStepping d (Err o)
text_refused X d o g = (fails_by (untold_text d) (with_reply (stepped d)) (λ p i. passed d p i) o g.0, g.1)
  where
    passed : (d : Result Stepping Stop) (other : Stop) → IsDueIfTold (untold_text d) (Err other) → IsDueIfTold (with_reply (stepped d)) (Err other)
    passed (Ok s) other i = tt
    passed (Err stop) other i = retyped (List ℕ) Reply stop other i

module _ (content : Content) (named : NamedSteps) (asked : Asked) (a : asked ≡ Steps named) where
  pub steps_replied : (X : Type 0) (text : Vec ℕ X) (reply : code_reply.Reply) → reply_as reply ≡ plain text.items → GivesText (stepping_at content named) (Ok text) → GivesDue reply_as (Ok reply) (with_reply (output_at content asked)) × GivesSteps content (Some asked) (Ok reply)
  unfolding output_at
  steps_replied X text reply r g = rw a (text_replied X (stepping_at content named) text reply r g)

  pub steps_refused : (X : Type 0) (o : Outcome) → GivesText {X = X} (stepping_at content named) (Err o) → GivesDue {X = code_reply.Reply} reply_as (Err o) (with_reply (output_at content asked)) × GivesSteps content (Some asked) (Err o)
  unfolding output_at
  steps_refused X o g = rw a (text_refused X (stepping_at content named) o g)

  pub some_replied : (X : Type 0) (text : Vec ℕ X) (reply : code_reply.Reply) → reply_as reply ≡ plain text.items → StepsOfSome content named (Ok text) → GivesSome content (Some asked) (Ok reply)
  some_replied X text reply r s = rw a (by_part s)
    where
      by_part : StepsOfSome content named (Ok text) → GivesSome content (Some (Steps named)) (Ok reply)
      by_part (inl s) = absurd s
      by_part (inr t) = inr (t.0, text_replied X (with_world t.0 (world_at content named)) text reply r t.1)

  pub some_steps_refused : (X : Type 0) (o : Outcome) → StepsOfSome {X = X} content named (Err o) → GivesSome content (Some asked) (Err o)
  some_steps_refused X o s = rw a (by_part s)
    where
      by_part : StepsOfSome {X = X} content named (Err o) → GivesSome content (Some (Steps named)) (Err o)
      by_part (inl s) = inl s
      by_part (inr t) = inr (t.0, text_refused X (with_world t.0 (world_at content named)) o t.1)

-- what the words ask for where it is no run in steps
pub run_gives : (content : Content) (named : Named) (asked : Asked) (result : Result code_reply.Reply Outcome) → asked ≡ Run named → GivesSteps content (Some asked) result
run_gives content named asked result a = rw a tt

pub check_gives : (content : Content) (name : List ℕ) (asked : Asked) (result : Result code_reply.Reply Outcome) → asked ≡ Check name → GivesSteps content (Some asked) result
check_gives content name asked result a = rw a tt

pub make_gives : (content : Content) (routes seed : ℕ) (asked : Asked) (result : Result code_reply.Reply Outcome) → asked ≡ Make routes seed → GivesSteps content (Some asked) result
make_gives content routes seed asked result a = rw a tt

pub same_gives : (content : Content) (named : NamedSame) (asked : Asked) (result : Result code_reply.Reply Outcome) → asked ≡ Same named → GivesSteps content (Some asked) result
same_gives content named asked result a = rw a tt

pub save_gives : (content : Content) (named : NamedSave) (asked : Asked) (result : Result code_reply.Reply Outcome) → asked ≡ Save named → GivesSteps content (Some asked) result
save_gives content named asked result a = rw a tt

pub moves_gives : (content : Content) (named : NamedMoves) (asked : Asked) (result : Result code_reply.Reply Outcome) → asked ≡ Moves named → GivesSteps content (Some asked) result
moves_gives content named asked result a = rw a tt
