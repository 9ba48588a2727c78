-- The checkpoint of candidates that are handed on twice: by whoever has them, or from a list.
use Rattle.std.proofs.Common.{◌≡◌, ℕ, List, [], map, Result, Ok, Err, refl, sym, subst, ◌∙◌, append-nil}
use Rattle.std.specs.declared.vec.Vec.{Vec}
use Rattle.route_model.specs.Choice.{AreCandidates, Candidates}
use Rattle.fib_prefix.specs.Views.{cand_as}
use Rattle.fib_prefix.specs.declared.event.Cand.{Cand}
use Rattle.fib_prefix.specs.Taken.{TakesCands}
use Rattle.mrt_write.specs.Saved.{saved}
use Rattle.mrt_write.specs.Answers.{WriterAnswers}
use Rattle.mrt_write.specs.Plans.{PlansDump, Learns, PlanAnswers}
use Rattle.mrt_write.specs.Dumps.{PutsCands, WritesDump}
use Rattle.mrt_write.specs.Reads.{ReadsAs}
use Rattle.mrt_write.proofs.Reading.{cands_octets, saved_reads}
use Rattle.mrt_write.specs.declared.plan.DumpPlan.{DumpPlan}
use Rattle.mrt_write.specs.declared.dump.DumpWriter.{DumpWriter}
use Rattle.mrt_write.specs.declared.write.WriteError.{WriteError}
use Rattle.mrt_write.specs.declared.write.WriteError.TheVariants.{PeersFull, PathTooLong, NoMemory}

-- a list that was taken
pub list_taken : {S : Type 0} (takes : S → List Cand → S → Type 0) (before now : S) (cands : List Cand) → takes before cands now → TakesCands takes before (map cand_as cands) now
list_taken takes before now cands t = record { cands = cands; are = refl; took = t }

-- what a plan answers, which took all candidates
abbrev pub Begins : DumpPlan → Result DumpWriter WriteError → Type 0
Begins plan result = (cands : List Cand) → PlansDump plan cands → PlanAnswers (map cand_as cands) result

pub plan_answers : (none plan : DumpPlan) (held : Candidates) (result : Result DumpWriter WriteError) → PlansDump none [] → TakesCands Learns none held plan → Begins plan result → PlanAnswers held result
plan_answers none plan held result k t b = subst (λ h. PlanAnswers h result) t.are (b t.cands (t.took [] k))

pub all_written : {A : Type 0} (none plan : DumpPlan) (held : Candidates) (dump last : DumpWriter) (v : Vec ℕ A) → PlansDump none [] → TakesCands Learns none held plan → Begins plan (Ok dump) → TakesCands PutsCands dump held last → ((whole : List ℕ) → WritesDump last [] whole → v.items ≡ whole) → WriterAnswers {A = A} held (Ok v)
all_written none plan held dump last v k t b u end =
    let answers = plan_answers none plan held (Ok dump) k t b in
    (answers.0, answers.1, end (saved held) (u.took [] (saved held) (subst (λ h. WritesDump dump h (saved held)) (sym (append-nil (map cand_as u.cands) ∙ u.are)) answers.2)))

refused : (A : Type 0) (held : Candidates) (error : WriteError) → PlanAnswers held (Err error) → WriterAnswers {A = A} held (Err error)
refused A held (PeersFull n) h = h
refused A held (PathTooLong p n) h = h
refused A held NoMemory h = tt

pub none_written : {A : Type 0} (none plan : DumpPlan) (held : Candidates) (error : WriteError) (result : Result (Vec ℕ A) WriteError) → result ≡ Err error → PlansDump none [] → TakesCands Learns none held plan → Begins plan (Err error) → WriterAnswers {A = A} held result
none_written {A = A} none plan held error result e k t b = subst (λ (r : Result (Vec ℕ A) WriteError). WriterAnswers {A = A} held r) (sym e) (refused A held error (plan_answers none plan held (Err error) k t b))

-- what is written of a list is read as it
pub list_read : {A : Type 0} (cands : List Cand) (v : Vec ℕ A) → WriterAnswers {A = A} (map cand_as cands) (Ok v) → AreCandidates (map cand_as cands) → ReadsAs v.items (map cand_as cands)
list_read cands v w are = subst (λ octets. ReadsAs octets (map cand_as cands)) (sym w.2) (saved_reads (map cand_as cands) are (cands_octets cands) w.0 w.1)
