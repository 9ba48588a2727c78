-- What comes of both inputs.
use Rattle.std.proofs.Common.{◌≡◌, ◌≤◌, ℕ, List, [], ◌++◌, length, Option, Some, None, Result, Ok, Err, refl, sym, ap, subst, ◌∙◌, append-nil}
use Rattle.std.specs.List.{AllByRecursion}
use Rattle.route_model.specs.Events.{Event}
use Rattle.fib_prefix.specs.Views.{IsOfOctets}
use Rattle.mrt_write.specs.Saved.{long_one, most_peers, peers_with_candidates, saved}
use Rattle.mrt_write.specs.Answers.{WriterAnswers}
use Rattle.mrt_write.specs.Reads.{ReadsAs, after_events}
use Rattle.mrt_write.proofs.Reading.{saved_reads}
use Rattle.mrt_write.specs.declared.write.WriteError.{WriteError}
use Rattle.fib_save.specs.Restores.{Restores}
use Rattle.std.specs.Prelude.{IfSome}
use Rattle.std.specs.declared.vec.Vec.{Vec}
use Rattle.route_model.specs.Choice.{AreCandidates, Candidates}
use Rattle.fib_io.specs.Reads.{AtEnd, Makes, PassEnd, Read}
use Rattle.fib_io.proofs.Passing.{makes_then}
use Rattle.mrt_read.specs.Whole.{FaultRose, HasEvents, pass_end_by}
use Rattle.mrt_read.specs.declared.whole.WholeError.{WholeError}
use Rattle.mrt_read.specs.declared.whole.WholeError.TheVariants as whole
use Rattle.fib_save.specs.Brings.{Brings, HasNamed, TakesInput}
use Rattle.fib_save.specs.Saves.{BringsNone, FaultOf, PassOf, SaveAnswers, SaveFaults, SaveReads, UpdatesStop, Written}
use Rattle.fib_save.specs.declared.save.SaveError.{SaveError}
use Rattle.fib_save.specs.declared.save.SaveError.TheVariants.{Dump, Updates, Unwritten}
use Rattle.fib_save.proofs.Taking.{events_more}

abbrev pub Content : Type 0
Content = List ℕ → Option (List ℕ)

-- the dump alone
pub brings_dump : (content : Content) (dump : List ℕ) (updates : Option (List ℕ)) (none held : Candidates) → none ≡ [] → updates ≡ None → TakesInput (content dump) none held → Brings content dump updates held
brings_dump content dump updates none held e n t = record {
  load = t.events;
  loaded = t.has;
  later = [];
  updated = subst (λ u. HasNamed content u []) (sym n) refl;
  are = t.are ∙ (ap (λ c. after_events c t.events) e ∙ ap (after_events []) (sym (append-nil t.events)));
}

-- and then the updates
pub brings_updates : (content now : Content) (dump name : List ℕ) (updates : Option (List ℕ)) (none mid held : Candidates) → none ≡ [] → updates ≡ Some name → now ≡ content → TakesInput (content dump) none mid → TakesInput (now name) mid held → Brings content dump updates held
brings_updates content now dump name updates none mid held e n same t u = record {
  load = t.events;
  loaded = t.has;
  later = u.events;
  updated = subst (λ k. HasNamed content k u.events) (sym n) (subst (λ (c : Content). IfSome (c name) (HasEvents u.events)) same u.has);
  are = u.are ∙ (ap (λ c. after_events c u.events) (t.are ∙ ap (λ c. after_events c t.events) e) ∙ sym (events_more [] t.events u.events));
}

-- ---- faults

pub fault_of : {T : Type 0} (before now : List ℕ → ℕ) (name : List ℕ) (result : Result T WholeError) (error : WholeError) → result ≡ Err error → FaultRose before now name result → FaultOf before now name error
fault_of before now name result whole.Fault e h = subst (FaultRose before now name) e h
fault_of before now name result whole.TooLarge e h = subst (FaultRose before now name) e h
fault_of before now name result (whole.Malformed m) e h = subst (FaultRose before now name) e h
fault_of before now name result whole.NoMemory e h = subst (FaultRose before now name) e h

pub later_fault : (before mid now : List ℕ → ℕ) (name : List ℕ) (error : WholeError) → mid ≡ before → FaultOf mid now name error → FaultOf before now name error
later_fault before mid now name error e h = subst (λ (b : List ℕ → ℕ). FaultOf b now name error) e h

-- ---- reads

-- the content of the inputs is what it was
pub reads_of_same : (content later : Content) (before now : Option (List Read)) (end : PassEnd) (name : List ℕ) → later ≡ content → Makes before now (PassOf later end name) → Makes before now (PassOf content end name)
reads_of_same content later before now end name e h = subst (λ (c : Content). Makes before now (PassOf c end name)) e h

pub updates_read : (content : Content) (before mid now : Option (List Read)) (dump name : List ℕ) (updates : Option (List ℕ)) (error : WholeError) → updates ≡ Some name → Makes before mid (PassOf content AtEnd dump) → Makes mid now (PassOf content (pass_end_by error) name) → Makes before now (UpdatesStop content dump updates (pass_end_by error))
updates_read content before mid now dump name updates error e h g = makes_then before mid now (PassOf content AtEnd dump) (PassOf content (pass_end_by error) name) (UpdatesStop content dump updates (pass_end_by error)) h g (λ first next p q. (first, next, refl, p, name, e, q))

-- ---- what isn't brought isn't saved

saved_none : (A : Type 0) (content : Content) (dump : List ℕ) (updates : Option (List ℕ)) (error : SaveError) → BringsNone content dump updates error → SaveAnswers {A = A} content dump updates (Err error)
saved_none A content dump updates (Dump error) h = h
saved_none A content dump updates (Updates error) h = h
saved_none A content dump updates (Unwritten error) h = absurd h

pub none_saved : {A : Type 0} (content : Content) (dump : List ℕ) (updates : Option (List ℕ)) (error : SaveError) (result : Result (Vec ℕ A) SaveError) → result ≡ Err error → BringsNone content dump updates error → SaveAnswers content dump updates result
none_saved {A = A} content dump updates error result e h = subst (λ (r : Result (Vec ℕ A) SaveError). SaveAnswers content dump updates r) (sym e) (saved_none A content dump updates error h)

faults_none : (S T : Type 0) (before now : List ℕ → ℕ) (dump : List ℕ) (updates : Option (List ℕ)) (error : SaveError) → SaveFaults {T = S} before now dump updates (Err error) → SaveFaults {T = T} before now dump updates (Err error)
faults_none S T before now dump updates (Dump error) h = h
faults_none S T before now dump updates (Updates error) h = h
faults_none S T before now dump updates (Unwritten error) h = h

pub none_faults : (S : Type 0) {T : Type 0} (before now : List ℕ → ℕ) (dump : List ℕ) (updates : Option (List ℕ)) (error : SaveError) (result : Result T SaveError) → result ≡ Err error → SaveFaults {T = S} before now dump updates (Err error) → SaveFaults before now dump updates result
none_faults S {T = T} before now dump updates error result e h = subst (λ (r : Result T SaveError). SaveFaults before now dump updates r) (sym e) (faults_none S T before now dump updates error h)

reads_none : (S T : Type 0) (content : Content) (before now : Option (List Read)) (dump : List ℕ) (updates : Option (List ℕ)) (error : SaveError) → Makes before now (SaveReads {T = S} content dump updates (Err error)) → Makes before now (SaveReads {T = T} content dump updates (Err error))
reads_none S T content before now dump updates (Dump error) h = h
reads_none S T content before now dump updates (Updates error) h = h
reads_none S T content before now dump updates (Unwritten error) h = h

pub none_reads : (S : Type 0) {T : Type 0} (content : Content) (before now : Option (List Read)) (dump : List ℕ) (updates : Option (List ℕ)) (error : SaveError) (result : Result T SaveError) → result ≡ Err error → Makes before now (SaveReads {T = S} content dump updates (Err error)) → Makes before now (SaveReads content dump updates result)
none_reads S {T = T} content before now dump updates error result e h = subst (λ (r : Result T SaveError). Makes before now (SaveReads content dump updates r)) (sym e) (reads_none S T content before now dump updates error h)

-- ---- a checkpoint restores what it was written of

restores : (said : List Event) (held : Candidates) → held ≡ after_events [] said → AreCandidates held → AllByRecursion IsOfOctets held → length (peers_with_candidates held) ≤ most_peers → long_one held ≡ None → Restores said
restores said held e are octets few short = subst (λ h. ReadsAs (saved h) h) e (saved_reads held are octets few short)

abbrev written : {A : Type 0} → Vec ℕ A → Result (Vec ℕ A) WriteError
written v = Ok v

pub all_saved : {A : Type 0} (content : Content) (dump : List ℕ) (updates : Option (List ℕ)) (held : Candidates) (v : Vec ℕ A) → Brings content dump updates held → WriterAnswers held (written v) → AreCandidates held → AllByRecursion IsOfOctets held
    → Written content dump updates (written v)
all_saved content dump updates held v b w are octets = (held, b, w, restores (b.load ++ b.later) held b.are are octets w.0 w.1)

abbrev unwritten : (A : Type 0) → WriteError → Result (Vec ℕ A) WriteError
unwritten A error = Err error

pub not_saved : (A : Type 0) (content : Content) (dump : List ℕ) (updates : Option (List ℕ)) (held : Candidates) (error : WriteError) → Brings content dump updates held → WriterAnswers held (unwritten A error) → Written content dump updates (unwritten A error)
not_saved A content dump updates held error b w = (held, b, w, tt)
