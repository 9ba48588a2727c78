-- The reply to a checkpoint.
use Rattle.std.proofs.Common.{◌≡◌, ◌∙◌, ◌≤◌, ◌<◌, ℕ, cond, List, [], ◌∷◌, ◌++◌, length, Option, Some, None, Result, Ok, Err, inl, inr, refl, sym, ap, subst, append-nil}
use Rattle.std.specs.Prelude.{IfOk, IfSome, OnOk, option_to_list}
use Rattle.std.proofs.lemmas.Bool.{le-ltb, lt-ltb}
use Rattle.std.specs.declared.vec.Vec.{Vec}
use Rattle.octet_fields.specs.Field.{◌>>=◌}
use Rattle.table_model.specs.Address.{Prefix}
use Rattle.route_model.specs.Events.{Event}
use Rattle.route_model.specs.Choice.{Candidates, PathAttrs, Place}
use Rattle.mrt_write.specs.Saved.{long_one, most_peers, peers_with_candidates, saved}
use Rattle.mrt_write.specs.Answers.{WriterAnswers}
use Rattle.mrt_write.specs.Reads.{after_events}
use Rattle.mrt_write.specs.declared.write.WriteError.{WriteError}
use Rattle.mrt_write.specs.declared.write.WriteError.TheVariants as write
use Rattle.fib_io.specs.Causes.{Rose}
use Rattle.fib_io.specs.Reads.{AtEnd, Makes, PassEnd, PassInTime, Read}
use Rattle.fib_io.proofs.Passing.{makes_as}
use Rattle.fib_io.specs.Reads as io
use Rattle.mrt_read.specs.Whole.{HasEvents, IsInputRefused, MayGoOn, pass_end_by}
use Rattle.mrt_read.specs.declared.whole.WholeError.{WholeError}
use Rattle.mrt_read.specs.declared.whole.WholeError.TheVariants as whole
use Rattle.fib_save.specs.Brings.{Brings, HasNamed}
use Rattle.fib_save.specs.Restores.{Restores}
use Rattle.fib_save.specs.Saves.{FaultOf, SaveAnswers, SaveFaults, SaveReads}
use Rattle.fib_save.specs.Saves as saves
use Rattle.fib_save.specs.declared.save.SaveError.{SaveError}
use Rattle.fib_save.specs.declared.save.SaveError.TheVariants as save_error
use Rattle.fib_words.specs.Commands.{Asked, NamedSave, Save}
use Rattle.fib_due.specs.declared.outcome.MrtInput.{MrtInput}
use Rattle.fib_due.specs.declared.outcome.MrtInput.TheVariants as mrt
use Rattle.fib_due.specs.declared.outcome.Outcome.{Outcome}
use Rattle.fib_due.specs.declared.outcome.Outcome.TheVariants.{PeersFull}
use Rattle.fib_due.specs.declared.outcome.Which.TheVariants.{Dump, Updates}
use Rattle.fib_due.specs.declared.reply.Reply as code_reply
use Rattle.fib_due.specs.Due.{Output, Saved, later_at, reply_of, said_at, saved_at, saved_of, saved_with, output_at, unless_long, with_reply}
use Rattle.fib_due.specs.Ends.{OneRose, ReadsBy, reads_saved}
use Rattle.fib_due.specs.InTime.{SaveMayGoOn}
use Rattle.fib_due.specs.Owned.{IsOf, StopsAt}
use Rattle.fib_due.specs.Passes.{InputsRead, Content, Input, ReadUpTo, ReadsTo, StopsReading, input_for, save_inputs}
use Rattle.fib_due.specs.Proves.{IfSaved, IsCheckpoint}
use Rattle.fib_texts.specs.Saving.{HoldsCheckpoint, refusal_of_save}
use Rattle.fib_due.specs.Stepping.{events_of, refusal_by}
use Rattle.fib_due.specs.Stops.{FailsDue, IsDueIfTold, LongPath, Refused, Stop, input_of}
use Rattle.fib_due.specs.Untold.{SavedOfSome}
use Rattle.fib_due.specs.Views.{reply_as}
use Rattle.fib_due.proofs.Due.{after_is, fails_first, fails_then, is_then}
use Rattle.fib_due.proofs.Passes.{part_all, reads_stopped}
use Rattle.fib_due.proofs.Whole.{all_due, all_fails}

abbrev fine : {X : Type 0} → X → Result X Stop
fine x = Ok x

-- ---- what was said

later_due : (content : Content) (updates : Option (List ℕ)) (later : List Event) → HasNamed content updates later → IsDueIfTold (later_at content updates) (Ok later)
unfolding later_at
later_due content None later h = ap fine (sym h)
later_due content (Some name) later h = all_due mrt.Updates content name later h

abbrev Said : Content → NamedSave → Candidates → Type 0
Said content named held = Brings content named.dump named.updates held

all_said : (content : Content) (named : NamedSave) (held : Candidates) → (b : Said content named held) → IsDueIfTold (said_at content named) (Ok (b.load ++ b.later))
unfolding said_at
all_said content named held b =
    is_then (events_of mrt.Dump content named.dump) (λ load. later_at content named.updates >>= λ later. Ok (load ++ later)) b.load (b.load ++ b.later) (all_due mrt.Dump content named.dump b.load b.loaded)
    (is_then (later_at content named.updates) (λ later. Ok (b.load ++ later)) b.later (b.load ++ b.later) (later_due content named.updates b.later b.updated) refl)

-- ---- whether it is written

few_written : (said : List Event) (held : Candidates) → length (peers_with_candidates held) ≤ most_peers → saved_with said held ≡ unless_long said (long_one held)
few_written said held few = ap (λ b. cond b (Err (Refused (PeersFull (length (peers_with_candidates held))))) (unless_long said (long_one held))) (le-ltb most_peers (length (peers_with_candidates held)) few)

none_long : (said : List Event) (c : Option (Place × PathAttrs)) → c ≡ None → unless_long said c ≡ Ok (Saved said)
none_long said c e = ap (unless_long said) e

one_long : (said : List Event) (o : Option (Place × PathAttrs)) (c : Place × PathAttrs) → o ≡ Some c → unless_long said o ≡ Err (LongPath c.0.prefix c.1.path)
one_long said o c e = ap (unless_long said) e

many_peers : (said : List Event) (held : Candidates) → most_peers < length (peers_with_candidates held) → saved_with said held ≡ Err (Refused (PeersFull (length (peers_with_candidates held))))
many_peers said held many = ap (λ b. cond b (Err (Refused (PeersFull (length (peers_with_candidates held))))) (unless_long said (long_one held))) (lt-ltb most_peers (length (peers_with_candidates held)) many)

-- those of what was said are those that are held
saved_as : (said : List Event) (held : Candidates) (r : Result Output Stop) → held ≡ after_events [] said → saved_with said held ≡ r → saved_of said ≡ r
saved_as said held r e is = ap (saved_with said) (sym e) ∙ is

-- ---- the checkpoint

pub holds : {A : Type 0} (content : Content) (named : NamedSave) (v : Vec ℕ A) (reply : code_reply.Reply) → reply.text.items ≡ v.items → reply.wrong ≡ None → SaveAnswers content named.dump named.updates (let ok : Result (Vec ℕ A) SaveError = Ok v in ok) → HoldsCheckpoint content named reply
holds content named v reply t n (held, b, w, r) = record {
  said = b.load ++ b.later;
  due = all_said content named held b;
  text = t ∙ (w.2 ∙ ap saved b.are);
  none = n;
  fits = saved_as (b.load ++ b.later) held (Ok (Saved (b.load ++ b.later))) b.are (few_written (b.load ++ b.later) held w.0 ∙ none_long (b.load ++ b.later) (long_one held) w.1);
  restores = r;
}

same_reply : (reply : code_reply.Reply) (said : List Event) → reply.text.items ≡ saved (after_events [] said) → reply.wrong ≡ None → reply_of (Saved said) ≡ reply_as reply
same_reply reply said t n = rw (t, n) refl

reply_told : (reply : code_reply.Reply) (said : List Event) (d : Result Output Stop) → IsDueIfTold d (Ok (Saved said)) → reply_of (Saved said) ≡ reply_as reply → IsDueIfTold (with_reply d) (Ok (reply_as reply))
reply_told reply said d i e = is_then d (λ o. Ok (reply_of o)) (Saved said) (reply_as reply) i (ap fine e)

is_saved : (said : List Event) → saved_of said ≡ Ok (Saved said) → IsDueIfTold (saved_of said) (fine (Saved said))
is_saved said e = rw e refl

saved_is : (content : Content) (named : NamedSave) (reply : code_reply.Reply) → (h : HoldsCheckpoint content named reply) → IsDueIfTold (saved_at content named) (Ok (Saved h.said))
unfolding saved_at
saved_is content named reply h = is_then (said_at content named) saved_of h.said (Saved h.said) h.due (is_saved h.said h.fits)

pub checkpoint_due : (content : Content) (named : NamedSave) (reply : code_reply.Reply) → HoldsCheckpoint content named reply → IsDueIfTold (with_reply (saved_at content named)) (Ok (reply_as reply))
checkpoint_due content named reply h = reply_told reply h.said (saved_at content named) (saved_is content named reply h) (same_reply reply h.said h.text h.none)

pub checkpoint_some : (content : Content) (named : NamedSave) (reply : code_reply.Reply) → HoldsCheckpoint content named reply → SavedOfSome (Ok reply)
checkpoint_some content named reply h = inr (h.said, reply_told reply h.said (saved_of h.said) (is_saved h.said h.fits) (same_reply reply h.said h.text h.none))

-- ---- none

abbrev stopped : Outcome → Result Output Stop
stopped o = Err (Refused o)

abbrev too_long : Prefix → ℕ → Result Output Stop
too_long p n = Err (LongPath p n)

write_fails : (said : List Event) (held : Candidates) (error : WriteError) → held ≡ after_events [] said → WriterAnswers {A = ℕ} held (Err error) → FailsDue (refusal_of_save (save_error.Unwritten error)) (saved_of said)
write_fails said held (write.PeersFull n) e w = rw (saved_as said held (stopped (PeersFull (length (peers_with_candidates held)))) e (many_peers said held w.0), w.1) refl
write_fails said held (write.PathTooLong p n) e (few, c, long, at, path) = rw (saved_as said held (too_long c.0.prefix c.1.path) e (few_written said held few ∙ one_long said (long_one held) c long), at, path) refl
write_fails said held write.NoMemory e w = tt

abbrev Answers : Content → NamedSave → SaveError → Type 0
Answers content named error = SaveAnswers {A = ℕ} content named.dump named.updates (Err error)

dump_fails : (content : Content) (named : NamedSave) (error : WholeError) → IfSome (content named.dump) (IsInputRefused error) → FailsDue (refusal_by mrt.Dump error) (said_at content named)
unfolding said_at
dump_fails content named error h = fails_first (refusal_by mrt.Dump error) (events_of mrt.Dump content named.dump) (λ load. later_at content named.updates >>= λ later. Ok (load ++ later)) (all_fails mrt.Dump content named.dump error h)

later_fails : (content : Content) (updates : Option (List ℕ)) (name : List ℕ) (error : WholeError) → updates ≡ Some name → IfSome (content name) (IsInputRefused error) → FailsDue (refusal_by mrt.Updates error) (later_at content updates)
unfolding later_at
later_fails content updates name error e h = subst (λ u. FailsDue (refusal_by mrt.Updates error) (later_at content u)) (sym e) (all_fails mrt.Updates content name error h)

updates_fail : (content : Content) (named : NamedSave) (load : List Event) (name : List ℕ) (error : WholeError) → IfSome (content named.dump) (HasEvents load) → named.updates ≡ Some name → IfSome (content name) (IsInputRefused error) → FailsDue (refusal_by mrt.Updates error) (said_at content named)
unfolding said_at
updates_fail content named load name error h e r =
    fails_then (refusal_by mrt.Updates error) (events_of mrt.Dump content named.dump) (λ load. later_at content named.updates >>= λ later. Ok (load ++ later)) load (all_due mrt.Dump content named.dump load h)
    (fails_first (refusal_by mrt.Updates error) (later_at content named.updates) (λ later. Ok (load ++ later)) (later_fails content named.updates name error e r))

save_fails : (content : Content) (named : NamedSave) (error : SaveError) → Answers content named error → FailsDue (refusal_of_save error) (saved_at content named)
unfolding saved_at
save_fails content named (save_error.Dump error) h = fails_first (refusal_by mrt.Dump error) (said_at content named) saved_of (dump_fails content named error h)
save_fails content named (save_error.Updates error) (load, h, name, e, r) = fails_first (refusal_by mrt.Updates error) (said_at content named) saved_of (updates_fail content named load name error h e r)
save_fails content named (save_error.Unwritten error) (held, b, w, r) =
    fails_then (refusal_of_save (save_error.Unwritten error)) (said_at content named) saved_of (b.load ++ b.later) (all_said content named held b) (write_fails (b.load ++ b.later) held error b.are w)

pub none_due : (content : Content) (named : NamedSave) (error : SaveError) → Answers content named error → FailsDue (refusal_of_save error) (with_reply (saved_at content named))
none_due content named error h = fails_first (refusal_of_save error) (saved_at content named) (λ o. Ok (reply_of o)) (save_fails content named error h)

whole_stops : (which : MrtInput) (error : WholeError) → StopsAt (input_of which) (refusal_by which error)
whole_stops mrt.Dump (whole.Malformed malformed) = (refl, tt)
whole_stops mrt.Updates (whole.Malformed malformed) = (refl, tt)
whole_stops which whole.NoMemory = tt
whole_stops which whole.Fault = tt
whole_stops which whole.TooLarge = refl

pub none_some : (content : Content) (named : NamedSave) (error : SaveError) → Answers content named error → SavedOfSome (Err (refusal_of_save error))
none_some content named (save_error.Dump error) h = inl (inl (whole_stops mrt.Dump error))
none_some content named (save_error.Updates error) h = inl (inr (whole_stops mrt.Updates error))
none_some content named (save_error.Unwritten error) (held, b, w, r) =
    inr (b.load ++ b.later, fails_first (refusal_of_save (save_error.Unwritten error)) (saved_of (b.load ++ b.later)) (λ o. Ok (reply_of o)) (write_fails (b.load ++ b.later) held error b.are w))

dump_own : (named : NamedSave) (error : WholeError) → IsOf (Some (Save named)) (refusal_by mrt.Dump error)
dump_own named (whole.Malformed malformed) = (Dump, tt, (refl, tt))
dump_own named whole.NoMemory = tt
dump_own named whole.Fault = (Dump, tt, tt)
dump_own named whole.TooLarge = (Dump, tt, refl)

updates_own : (named : NamedSave) (name : List ℕ) (error : WholeError) → named.updates ≡ Some name → IsOf (Some (Save named)) (refusal_by mrt.Updates error)
updates_own named name (whole.Malformed malformed) e = (Updates, rw e refl, (refl, tt))
updates_own named name whole.NoMemory e = tt
updates_own named name whole.Fault e = (Updates, rw e refl, tt)
updates_own named name whole.TooLarge e = (Updates, rw e refl, refl)

pub none_own : (content : Content) (named : NamedSave) (error : SaveError) → Answers content named error → IsOf (Some (Save named)) (refusal_of_save error)
none_own content named (save_error.Dump error) h = dump_own named error
none_own content named (save_error.Updates error) (load, h, name, e, r) = updates_own named name error e
none_own content named (save_error.Unwritten (write.PeersFull n)) h = tt
none_own content named (save_error.Unwritten (write.PathTooLong p n)) h = tt
none_own content named (save_error.Unwritten write.NoMemory) h = tt

-- ---- counts of faults

fault_by : (cause : Type 0) (which : MrtInput) (before now : List ℕ → ℕ) (name : List ℕ) (error : WholeError) → (Rose (before name) (now name) → cause) → FaultOf before now name error → ReadsBy cause before now (refusal_by which error)
fault_by cause which before now name (whole.Malformed malformed) f c = c
fault_by cause which before now name whole.NoMemory f c = c
fault_by cause which before now name whole.Fault f c = f c
fault_by cause which before now name whole.TooLarge f c = c

-- the updates come after the dump, where it is accepted
updates_rose : (content : Content) (named : NamedSave) (load : List Event) (name : List ℕ) (before now : List ℕ → ℕ) → IfSome (content named.dump) (HasEvents load) → named.updates ≡ Some name → Rose (before name) (now name) → OneRose (reads_saved content named) before now
updates_rose content named load name before now h e rose =
    inr (subst (λ names. OneRose names before now) (sym (after_is (events_of mrt.Dump content named.dump) load (option_to_list named.updates) (all_due mrt.Dump content named.dump load h))) (subst (λ u. OneRose (option_to_list u) before now) (sym e) (inl rose)))

pub none_cause : (content : Content) (named : NamedSave) (before now : List ℕ → ℕ) (error : SaveError) → Answers content named error → SaveFaults {T = Vec ℕ ℕ} before now named.dump named.updates (Err error) → ReadsBy (OneRose (reads_saved content named) before now) before now (refusal_of_save error)
none_cause content named before now (save_error.Dump error) h c = fault_by (OneRose (reads_saved content named) before now) mrt.Dump before now named.dump error (λ rose. inl rose) c
none_cause content named before now (save_error.Updates error) (load, h, name, e, r) (other, f, c) = fault_by (OneRose (reads_saved content named) before now) mrt.Updates before now other error (λ rose. updates_rose content named load other before now h f rose) c
none_cause content named before now (save_error.Unwritten (write.PeersFull n)) h c = c
none_cause content named before now (save_error.Unwritten (write.PathTooLong p n)) h c = c
none_cause content named before now (save_error.Unwritten write.NoMemory) h c = c

-- ---- reads

later_all : (content : Content) (updates : Option (List ℕ)) (reads : List Read) → saves.AllRead content (option_to_list updates) reads → InputsRead content SaveMayGoOn (input_for Updates updates) reads
later_all content None reads p = p
later_all content (Some name) reads p = p

pub all_saved_reads : (content : Content) (named : NamedSave) (reads : List Read) → saves.AllRead content (saves.input_names named.dump named.updates) reads → InputsRead content SaveMayGoOn (save_inputs named) reads
all_saved_reads content named reads p = (p.0, p.1, p.2, p.3, later_all content named.updates p.1 p.4)

-- the dump alone, up to its refusal
up_to_dump : (content : Content) (named : NamedSave) (end : PassEnd) (reads : List Read) → PassInTime (content named.dump) MayGoOn end named.dump reads → ReadUpTo content SaveMayGoOn (save_inputs named) Dump end reads
up_to_dump content named end reads p = record { before = []; name = named.dump; after = input_for Updates named.updates; order = refl; first = []; whole = refl; last = reads; pass = p; all = refl }

dump_stops : (content : Content) (named : NamedSave) (error : WholeError) (reads : List Read) → PassInTime (content named.dump) MayGoOn (pass_end_by error) named.dump reads → StopsReading content SaveMayGoOn (save_inputs named) (refusal_by mrt.Dump error) reads
dump_stops content named (whole.Malformed malformed) reads p = up_to_dump content named io.Anywhere reads p
dump_stops content named whole.Fault reads p = (Dump, up_to_dump content named io.AtFault reads p)
dump_stops content named whole.TooLarge reads p = up_to_dump content named io.PastMost reads p
dump_stops content named whole.NoMemory reads p = record { before = []; after = save_inputs named; order = refl; first = []; whole = refl; last = reads; begun = p; all = refl }

-- the dump to its end, and then the updates up to their refusal
abbrev dump_input : NamedSave → Input
dump_input named = (Dump, named.dump)

up_to_updates : (content : Content) (named : NamedSave) (name : List ℕ) (end : PassEnd) (first last reads : List Read) → named.updates ≡ Some name → reads ≡ first ++ last → PassInTime (content named.dump) MayGoOn AtEnd named.dump first → PassInTime (content name) MayGoOn end name last
    → ReadUpTo content SaveMayGoOn (save_inputs named) Updates end reads
up_to_updates content named name end first last reads e all p q = record {
  before = dump_input named ∷ [];
  name = name;
  after = [];
  order = ap (λ u. dump_input named ∷ input_for Updates u) e;
  first = first;
  whole = (first, [], sym (append-nil first), p, refl);
  last = last;
  pass = q;
  all = all;
}

updates_stop : (content : Content) (named : NamedSave) (error : WholeError) (reads : List Read) → saves.UpdatesStop content named.dump named.updates (pass_end_by error) reads → StopsReading content SaveMayGoOn (save_inputs named) (refusal_by mrt.Updates error) reads
updates_stop content named (whole.Malformed malformed) reads (first, last, all, p, name, e, q) = up_to_updates content named name io.Anywhere first last reads e all p q
updates_stop content named whole.Fault reads (first, last, all, p, name, e, q) = (Updates, up_to_updates content named name io.AtFault first last reads e all p q)
updates_stop content named whole.TooLarge reads (first, last, all, p, name, e, q) = up_to_updates content named name io.PastMost first last reads e all p q
updates_stop content named whole.NoMemory reads (first, last, all, p, name, e, q) = record {
  before = dump_input named ∷ [];
  after = (Updates, name) ∷ [];
  order = ap (λ u. dump_input named ∷ input_for Updates u) e;
  first = first;
  whole = (first, [], sym (append-nil first), p, refl);
  last = last;
  begun = q;
  all = all;
}

none_read : (content : Content) (named : NamedSave) (error : SaveError) (reads : List Read) → SaveReads {T = Vec ℕ ℕ} content named.dump named.updates (Err error) reads → ReadsTo content SaveMayGoOn (save_inputs named) (refusal_of_save error) reads
none_read content named (save_error.Dump error) reads p = reads_stopped content SaveMayGoOn (save_inputs named) (refusal_by mrt.Dump error) reads (dump_stops content named error reads p)
none_read content named (save_error.Updates error) reads p = reads_stopped content SaveMayGoOn (save_inputs named) (refusal_by mrt.Updates error) reads (updates_stop content named error reads p)
none_read content named (save_error.Unwritten (write.PeersFull n)) reads p = all_saved_reads content named reads p
none_read content named (save_error.Unwritten (write.PathTooLong q n)) reads p = all_saved_reads content named reads p
none_read content named (save_error.Unwritten write.NoMemory) reads p = part_all content SaveMayGoOn (save_inputs named) reads (all_saved_reads content named reads p)

pub none_reads : (content : Content) (named : NamedSave) (before now : Option (List Read)) (error : SaveError) → Makes before now (SaveReads {T = Vec ℕ ℕ} content named.dump named.updates (Err error)) → Makes before now (ReadsTo content SaveMayGoOn (save_inputs named) (refusal_of_save error))
none_reads content named before now error made = makes_as before now (SaveReads {T = Vec ℕ ℕ} content named.dump named.updates (Err error)) (ReadsTo content SaveMayGoOn (save_inputs named) (refusal_of_save error)) made (none_read content named error)

pub saved_reads : (content : Content) (named : NamedSave) (before now : Option (List Read)) → Makes before now (saves.AllRead content (saves.input_names named.dump named.updates)) → Makes before now (InputsRead content SaveMayGoOn (save_inputs named))
saved_reads content named before now made = makes_as before now (saves.AllRead content (saves.input_names named.dump named.updates)) (InputsRead content SaveMayGoOn (save_inputs named)) made (all_saved_reads content named)

-- ---- as a reply

module _ (content : Content) (named : NamedSave) (asked : Asked) (a : asked ≡ Save named) where
  pub saves_replied : (reply : code_reply.Reply) → HoldsCheckpoint content named reply → IfSaved (output_at content asked) Restores
  unfolding output_at
  saves_replied reply h = rw a (by_due (saved_at content named) (saved_is content named reply h))
    where
      by_due : (d : Result Output Stop) → IsDueIfTold d (Ok (Saved h.said)) → IfSaved d Restores
      by_due (Err stop) i = tt
      by_due (Ok o) i = let same : o ≡ Saved h.said = cc in subst (λ (x : Output). IfSaved (fine x) Restores) (sym same) h.restores

  pub is_checkpoint : (reply : code_reply.Reply) → HoldsCheckpoint content named reply → IsCheckpoint reply.text.items
  is_checkpoint reply h = record { said = h.said; are = h.text; restores = h.restores }

  pub saves_due : {E : Type 0} (r : Result code_reply.Reply E) → IfOk r (HoldsCheckpoint content named) → OnOk r (IfSaved (output_at content asked) Restores)
  saves_due (Ok reply) h = saves_replied reply h
  saves_due (Err e) h = tt
