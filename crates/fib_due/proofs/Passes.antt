-- The reads of one call after another.
use Rattle.std.specs.Prelude.{option_map}
use Rattle.std.proofs.Common.{◌≡◌, ◌∙◌, ℕ, zero, suc, List, [], ◌∷◌, ◌++◌, Option, Some, None, Result, Ok, Err, inl, inr, refl, sym, ap, subst, append_assoc, append-nil}
use Rattle.fib_io.specs.Reads.{Anywhere, AtEnd, Makes, Pass, PassEnd, PassInTime, Read}
use Rattle.fib_io.specs.Reads as io
use Rattle.fib_io.proofs.Passing.{makes_as, makes_none, makes_then}
use Rattle.fib_io.proofs.Timing.{ended_in_time, no_pass_in_time, pass_as, pass_of_text}
use Rattle.mrt_read.specs.declared.whole.WholeError.TheVariants as whole
use Rattle.fib_due.specs.declared.outcome.Outcome.{Outcome}
use Rattle.fib_due.specs.declared.outcome.Outcome.TheVariants.{Done, CheckNo, Differ, MovesNo, Usage, ReadFault, WriteFault, NoMemory, TooLarge, Malformed, HopsFull, TrieFull, BadLine, PeersFull, PathTooLong}
use Rattle.fib_due.specs.declared.outcome.Which.{Which}
use Rattle.fib_due.specs.declared.outcome.Which.TheVariants.{Dump, Updates}
use Rattle.fib_due.specs.declared.reply.Reply as code_reply
use Rattle.fib_due.specs.declared.reply.Wrong as code_wrong
use Rattle.fib_due.specs.declared.reply.Wrong.TheVariants as wrong
use Rattle.fib_due.specs.Views.{wrong_as}
use Rattle.fib_words.specs.Commands.{Asked, Check, CheckMoves, Make, Moves, Run, Same, Save, Steps}
use Rattle.fib_due.specs.Ends.{EndsBy}
use Rattle.fib_due.specs.InTime.{TextMayGoOn, RunMayGoOn, SaveMayGoOn, StepsMayGoOn}
use Rattle.fib_due.specs.Passes.{InputsRead, Content, Input, Judge, MayBegin, ReadInPart, ReadUpTo, ReadsAsked, ReadsAt, ReadsFound, ReadsOf, ReadsTexts, ReadsTo, StopsReading, check_moves_inputs, moves_inputs, same_inputs, save_inputs, check_inputs, run_inputs, steps_inputs}

-- ---- inputs after others

all_both : (content : Content) (Goes : Judge) (xs ys : List Input) (first next : List Read) → InputsRead content Goes xs first → InputsRead content Goes ys next → InputsRead content Goes (xs ++ ys) (first ++ next)
all_both content Goes [] ys first next p q = subst (λ reads. InputsRead content Goes ys (reads ++ next)) (sym p) q
all_both content Goes (x ∷ xs) ys first next p q = (p.0, p.1 ++ next, ap (λ reads. reads ++ next) p.2 ∙ append_assoc p.0 p.1 next, p.3, all_both content Goes xs ys p.1 next p.4 q)

up_to_sooner : (content : Content) (Goes : Judge) (xs ys : List Input) (which : Which) (end : PassEnd) (reads : List Read) → ReadUpTo content Goes xs which end reads → ReadUpTo content Goes (xs ++ ys) which end reads
up_to_sooner content Goes xs ys which end reads p = record {
  before = p.before;
  name = p.name;
  after = p.after ++ ys;
  order = ap (λ inputs. inputs ++ ys) p.order ∙ append_assoc p.before ((which, p.name) ∷ p.after) ys;
  first = p.first;
  whole = p.whole;
  last = p.last;
  pass = p.pass;
  all = p.all;
}

up_to_later : (content : Content) (Goes : Judge) (xs ys : List Input) (which : Which) (end : PassEnd) (first next : List Read) → InputsRead content Goes xs first → ReadUpTo content Goes ys which end next → ReadUpTo content Goes (xs ++ ys) which end (first ++ next)
up_to_later content Goes xs ys which end first next p q = record {
  before = xs ++ q.before;
  name = q.name;
  after = q.after;
  order = ap (λ inputs. xs ++ inputs) q.order ∙ sym (append_assoc xs q.before ((which, q.name) ∷ q.after));
  first = first ++ q.first;
  whole = all_both content Goes xs q.before first q.first p q.whole;
  last = q.last;
  pass = q.pass;
  all = ap (λ reads. first ++ reads) q.all ∙ sym (append_assoc first q.first q.last);
}

begun_none : (content : Content) (Goes : Judge) (inputs : List Input) → MayBegin content Goes inputs []
begun_none content Goes [] = refl
begun_none content Goes (input ∷ inputs) = no_pass_in_time (content input.1) (Goes input.0) input.1

begun_sooner : (content : Content) (Goes : Judge) (xs ys : List Input) (reads : List Read) → MayBegin content Goes xs reads → MayBegin content Goes (xs ++ ys) reads
begun_sooner content Goes [] ys reads p = subst (MayBegin content Goes ys) (sym p) (begun_none content Goes ys)
begun_sooner content Goes (x ∷ xs) ys reads p = p

part_sooner : (content : Content) (Goes : Judge) (xs ys : List Input) (reads : List Read) → ReadInPart content Goes xs reads → ReadInPart content Goes (xs ++ ys) reads
part_sooner content Goes xs ys reads p = record {
  before = p.before;
  after = p.after ++ ys;
  order = ap (λ inputs. inputs ++ ys) p.order ∙ append_assoc p.before p.after ys;
  first = p.first;
  whole = p.whole;
  last = p.last;
  begun = begun_sooner content Goes p.after ys p.last p.begun;
  all = p.all;
}

part_later : (content : Content) (Goes : Judge) (xs ys : List Input) (first next : List Read) → InputsRead content Goes xs first → ReadInPart content Goes ys next → ReadInPart content Goes (xs ++ ys) (first ++ next)
part_later content Goes xs ys first next p q = record {
  before = xs ++ q.before;
  after = q.after;
  order = ap (λ inputs. xs ++ inputs) q.order ∙ sym (append_assoc xs q.before q.after);
  first = first ++ q.first;
  whole = all_both content Goes xs q.before first q.first p q.whole;
  last = q.last;
  begun = q.begun;
  all = ap (λ reads. first ++ reads) q.all ∙ sym (append_assoc first q.first q.last);
}

pub part_all : (content : Content) (Goes : Judge) (xs : List Input) (reads : List Read) → InputsRead content Goes xs reads → ReadInPart content Goes xs reads
part_all content Goes xs reads p = record { before = xs; after = []; order = sym (append-nil xs); first = reads; whole = p; last = []; begun = refl; all = sym (append-nil reads) }

stops_sooner : (content : Content) (Goes : Judge) (xs ys : List Input) (o : Outcome) (reads : List Read) → StopsReading content Goes xs o reads → StopsReading content Goes (xs ++ ys) o reads
stops_sooner content Goes xs ys ReadFault reads p = (p.0, up_to_sooner content Goes xs ys p.0 io.AtFault reads p.1)
stops_sooner content Goes xs ys NoMemory reads p = part_sooner content Goes xs ys reads p
stops_sooner content Goes xs ys (TooLarge which) reads p = up_to_sooner content Goes xs ys which io.PastMost reads p
stops_sooner content Goes xs ys (Malformed which number rule) reads p = up_to_sooner content Goes xs ys which Anywhere reads p
stops_sooner content Goes xs ys (BadLine which line why) reads p = up_to_sooner content Goes xs ys which _ reads p
stops_sooner content Goes xs ys (HopsFull zero) reads p = up_to_sooner content Goes xs ys Dump Anywhere reads p
stops_sooner content Goes xs ys (HopsFull (suc event)) reads p = up_to_sooner content Goes xs ys Updates Anywhere reads p
stops_sooner content Goes xs ys (TrieFull zero need have arena) reads p = up_to_sooner content Goes xs ys Dump AtEnd reads p
stops_sooner content Goes xs ys (TrieFull (suc event) need have arena) reads p = up_to_sooner content Goes xs ys Updates Anywhere reads p
stops_sooner content Goes xs ys Done reads p = absurd p
stops_sooner content Goes xs ys (CheckNo x) reads p = absurd p
stops_sooner content Goes xs ys (Differ x) reads p = absurd p
stops_sooner content Goes xs ys (MovesNo x) reads p = absurd p
stops_sooner content Goes xs ys (PeersFull peers) reads p = absurd p
stops_sooner content Goes xs ys (PathTooLong q n) reads p = absurd p
stops_sooner content Goes xs ys WriteFault reads p = absurd p
stops_sooner content Goes xs ys Usage reads p = absurd p

stops_later : (content : Content) (Goes : Judge) (xs ys : List Input) (o : Outcome) (first next : List Read) → InputsRead content Goes xs first → StopsReading content Goes ys o next → StopsReading content Goes (xs ++ ys) o (first ++ next)
stops_later content Goes xs ys ReadFault first next p q = (q.0, up_to_later content Goes xs ys q.0 io.AtFault first next p q.1)
stops_later content Goes xs ys NoMemory first next p q = part_later content Goes xs ys first next p q
stops_later content Goes xs ys (TooLarge which) first next p q = up_to_later content Goes xs ys which io.PastMost first next p q
stops_later content Goes xs ys (Malformed which number rule) first next p q = up_to_later content Goes xs ys which Anywhere first next p q
stops_later content Goes xs ys (BadLine which line why) first next p q = up_to_later content Goes xs ys which _ first next p q
stops_later content Goes xs ys (HopsFull zero) first next p q = up_to_later content Goes xs ys Dump Anywhere first next p q
stops_later content Goes xs ys (HopsFull (suc event)) first next p q = up_to_later content Goes xs ys Updates Anywhere first next p q
stops_later content Goes xs ys (TrieFull zero need have arena) first next p q = up_to_later content Goes xs ys Dump AtEnd first next p q
stops_later content Goes xs ys (TrieFull (suc event) need have arena) first next p q = up_to_later content Goes xs ys Updates Anywhere first next p q
stops_later content Goes xs ys Done first next p q = absurd q
stops_later content Goes xs ys (CheckNo x) first next p q = absurd q
stops_later content Goes xs ys (Differ x) first next p q = absurd q
stops_later content Goes xs ys (MovesNo x) first next p q = absurd q
stops_later content Goes xs ys (PeersFull peers) first next p q = absurd q
stops_later content Goes xs ys (PathTooLong x n) first next p q = absurd q
stops_later content Goes xs ys WriteFault first next p q = absurd q
stops_later content Goes xs ys Usage first next p q = absurd q

-- ---- inputs that are judged otherwise

-- what one judge lets be read on, the other does too, of each of these inputs
abbrev pub Lets : Judge → Judge → List Input → Type 0
Lets Goes Other [] = Unit {0}
Lets Goes Other (input ∷ inputs) = ((octets : List ℕ) → Goes input.0 octets → Other input.0 octets) × Lets Goes Other inputs

lets_front : (Goes Other : Judge) (xs ys : List Input) → Lets Goes Other (xs ++ ys) → Lets Goes Other xs
lets_front Goes Other [] ys lets = tt
lets_front Goes Other (x ∷ xs) ys lets = (lets.0, lets_front Goes Other xs ys lets.1)

lets_back : (Goes Other : Judge) (xs ys : List Input) → Lets Goes Other (xs ++ ys) → Lets Goes Other ys
lets_back Goes Other [] ys lets = lets
lets_back Goes Other (x ∷ xs) ys lets = lets_back Goes Other xs ys lets.1

all_let : (content : Content) (Goes Other : Judge) (xs : List Input) (reads : List Read) → Lets Goes Other xs → InputsRead content Goes xs reads → InputsRead content Other xs reads
all_let content Goes Other [] reads lets p = p
all_let content Goes Other (x ∷ xs) reads lets p = (p.0, p.1, p.2, pass_as (content x.1) (Goes x.0) (Other x.0) AtEnd x.1 p.0 lets.0 p.3, all_let content Goes Other xs p.1 lets.1 p.4)

up_to_let : (content : Content) (Goes Other : Judge) (xs : List Input) (which : Which) (end : PassEnd) (reads : List Read) → Lets Goes Other xs → ReadUpTo content Goes xs which end reads → ReadUpTo content Other xs which end reads
up_to_let content Goes Other xs which end reads lets p =
    let here : Lets Goes Other (p.before ++ (which, p.name) ∷ p.after) = subst (Lets Goes Other) p.order lets in
    record {
      before = p.before;
      name = p.name;
      after = p.after;
      order = p.order;
      first = p.first;
      whole = all_let content Goes Other p.before p.first (lets_front Goes Other p.before ((which, p.name) ∷ p.after) here) p.whole;
      last = p.last;
      pass = pass_as (content p.name) (Goes which) (Other which) end p.name p.last (lets_back Goes Other p.before ((which, p.name) ∷ p.after) here).0 p.pass;
      all = p.all;
    }

begun_let : (content : Content) (Goes Other : Judge) (xs : List Input) (reads : List Read) → Lets Goes Other xs → MayBegin content Goes xs reads → MayBegin content Other xs reads
begun_let content Goes Other [] reads lets p = p
begun_let content Goes Other (x ∷ xs) reads lets p = pass_as (content x.1) (Goes x.0) (Other x.0) Anywhere x.1 reads lets.0 p

part_let : (content : Content) (Goes Other : Judge) (xs : List Input) (reads : List Read) → Lets Goes Other xs → ReadInPart content Goes xs reads → ReadInPart content Other xs reads
part_let content Goes Other xs reads lets p =
    let here : Lets Goes Other (p.before ++ p.after) = subst (Lets Goes Other) p.order lets in
    record {
      before = p.before;
      after = p.after;
      order = p.order;
      first = p.first;
      whole = all_let content Goes Other p.before p.first (lets_front Goes Other p.before p.after here) p.whole;
      last = p.last;
      begun = begun_let content Goes Other p.after p.last (lets_back Goes Other p.before p.after here) p.begun;
      all = p.all;
    }

stops_let : (content : Content) (Goes Other : Judge) (xs : List Input) (o : Outcome) (reads : List Read) → Lets Goes Other xs → StopsReading content Goes xs o reads → StopsReading content Other xs o reads
stops_let content Goes Other xs ReadFault reads lets p = (p.0, up_to_let content Goes Other xs p.0 io.AtFault reads lets p.1)
stops_let content Goes Other xs NoMemory reads lets p = part_let content Goes Other xs reads lets p
stops_let content Goes Other xs (TooLarge which) reads lets p = up_to_let content Goes Other xs which io.PastMost reads lets p
stops_let content Goes Other xs (Malformed which number rule) reads lets p = up_to_let content Goes Other xs which Anywhere reads lets p
stops_let content Goes Other xs (BadLine which line why) reads lets p = up_to_let content Goes Other xs which _ reads lets p
stops_let content Goes Other xs (HopsFull zero) reads lets p = up_to_let content Goes Other xs Dump Anywhere reads lets p
stops_let content Goes Other xs (HopsFull (suc event)) reads lets p = up_to_let content Goes Other xs Updates Anywhere reads lets p
stops_let content Goes Other xs (TrieFull zero need have arena) reads lets p = up_to_let content Goes Other xs Dump AtEnd reads lets p
stops_let content Goes Other xs (TrieFull (suc event) need have arena) reads lets p = up_to_let content Goes Other xs Updates Anywhere reads lets p
stops_let content Goes Other xs Done reads lets p = absurd p
stops_let content Goes Other xs (CheckNo x) reads lets p = absurd p
stops_let content Goes Other xs (Differ x) reads lets p = absurd p
stops_let content Goes Other xs (MovesNo x) reads lets p = absurd p
stops_let content Goes Other xs (PeersFull peers) reads lets p = absurd p
stops_let content Goes Other xs (PathTooLong q n) reads lets p = absurd p
stops_let content Goes Other xs WriteFault reads lets p = absurd p
stops_let content Goes Other xs Usage reads lets p = absurd p

pub all_lets : (content : Content) (Goes Other : Judge) (before now : Option (List Read)) (xs : List Input) → Lets Goes Other xs → Makes before now (InputsRead content Goes xs) → Makes before now (InputsRead content Other xs)
all_lets content Goes Other before now xs lets made = makes_as before now (InputsRead content Goes xs) (InputsRead content Other xs) made (λ reads p. all_let content Goes Other xs reads lets p)

pub stopped_lets : (content : Content) (Goes Other : Judge) (before now : Option (List Read)) (xs : List Input) (o : Outcome) → Lets Goes Other xs → Makes before now (StopsReading content Goes xs o) → Makes before now (StopsReading content Other xs o)
stopped_lets content Goes Other before now xs o lets made = makes_as before now (StopsReading content Goes xs o) (StopsReading content Other xs o) made (λ reads p. stops_let content Goes Other xs o reads lets p)

-- ---- calls after others

-- a refusal of the first inputs
pub stopped_first : (content : Content) (Goes : Judge) (before now : Option (List Read)) (xs ys : List Input) (o : Outcome) → Makes before now (StopsReading content Goes xs o) → Makes before now (StopsReading content Goes (xs ++ ys) o)
stopped_first content Goes before now xs ys o made = makes_as before now (StopsReading content Goes xs o) (StopsReading content Goes (xs ++ ys) o) made (stops_sooner content Goes xs ys o)

-- the first inputs, and then a refusal of others
pub stopped_next : (content : Content) (Goes : Judge) (before between now : Option (List Read)) (xs ys : List Input) (o : Outcome) → Makes before between (InputsRead content Goes xs) → Makes between now (StopsReading content Goes ys o) → Makes before now (StopsReading content Goes (xs ++ ys) o)
stopped_next content Goes before between now xs ys o first next = makes_then before between now (InputsRead content Goes xs) (StopsReading content Goes ys o) (StopsReading content Goes (xs ++ ys) o) first next (stops_later content Goes xs ys o)

-- the first inputs, and then others
pub all_next : (content : Content) (Goes : Judge) (before between now : Option (List Read)) (xs ys : List Input) → Makes before between (InputsRead content Goes xs) → Makes between now (InputsRead content Goes ys) → Makes before now (InputsRead content Goes (xs ++ ys))
all_next content Goes before between now xs ys first next = makes_then before between now (InputsRead content Goes xs) (InputsRead content Goes ys) (InputsRead content Goes (xs ++ ys)) first next (all_both content Goes xs ys)

pub reads_next : {X : Type 0} (content : Content) (Goes : Judge) (before between now : Option (List Read)) (xs ys : List Input) (r : Result X Outcome) → Makes before between (InputsRead content Goes xs) → Makes between now (ReadsOf content Goes ys r) → Makes before now (ReadsOf content Goes (xs ++ ys) r)
reads_next content Goes before between now xs ys (Ok x) first next = all_next content Goes before between now xs ys first next
reads_next content Goes before between now xs ys (Err o) first next = stopped_next content Goes before between now xs ys o first next

-- all inputs, and then memory runs out
pub out_of_memory : (content : Content) (Goes : Judge) (before now : Option (List Read)) (xs : List Input) → Makes before now (InputsRead content Goes xs) → Makes before now (StopsReading content Goes xs NoMemory)
out_of_memory content Goes before now xs made = makes_as before now (InputsRead content Goes xs) (StopsReading content Goes xs NoMemory) made (part_all content Goes xs)

-- ---- one input

all_one : (content : Content) (Goes : Judge) (which : Which) (name : List ℕ) (reads : List Read) → PassInTime (content name) (Goes which) AtEnd name reads → InputsRead content Goes ((which, name) ∷ []) reads
all_one content Goes which name reads p = (reads, [], sym (append-nil reads), p, refl)

up_to_one : (content : Content) (Goes : Judge) (which : Which) (end : PassEnd) (name : List ℕ) (reads : List Read) → PassInTime (content name) (Goes which) end name reads → ReadUpTo content Goes ((which, name) ∷ []) which end reads
up_to_one content Goes which end name reads p = record { before = []; name = name; after = []; order = refl; first = []; whole = refl; last = reads; pass = p; all = refl }

part_one : (content : Content) (Goes : Judge) (which : Which) (name : List ℕ) (reads : List Read) → PassInTime (content name) (Goes which) Anywhere name reads → ReadInPart content Goes ((which, name) ∷ []) reads
part_one content Goes which name reads p = record { before = []; after = (which, name) ∷ []; order = refl; first = []; whole = refl; last = reads; begun = p; all = refl }

-- a text is judged once it was read
pub text_pass : (content : Content) (before now : Option (List Read)) (which : Which) (end : PassEnd) (name : List ℕ) → Makes before now (Pass end name) → Makes before now (PassInTime (content name) (TextMayGoOn which) end name)
text_pass content before now which end name made = makes_as before now (Pass end name) (PassInTime (content name) (TextMayGoOn which) end name) made (λ reads p. pass_of_text (content name) end name reads p)

-- it is read to its end
pub input_read : (content : Content) (Goes : Judge) (before now : Option (List Read)) (which : Which) (name : List ℕ) → Makes before now (PassInTime (content name) (Goes which) AtEnd name) → Makes before now (InputsRead content Goes ((which, name) ∷ []))
input_read content Goes before now which name made = makes_as before now (PassInTime (content name) (Goes which) AtEnd name) (InputsRead content Goes ((which, name) ∷ [])) made (all_one content Goes which name)

-- it is refused
pub input_refused : (content : Content) (Goes : Judge) (before now : Option (List Read)) (which : Which) (end : PassEnd) (name : List ℕ) → Makes before now (PassInTime (content name) (Goes which) end name) → Makes before now (ReadUpTo content Goes ((which, name) ∷ []) which end)
input_refused content Goes before now which end name made = makes_as before now (PassInTime (content name) (Goes which) end name) (ReadUpTo content Goes ((which, name) ∷ []) which end) made (up_to_one content Goes which end name)

pub input_fails : (content : Content) (Goes : Judge) (before now : Option (List Read)) (which : Which) (name : List ℕ) → Makes before now (PassInTime (content name) (Goes which) io.AtFault name) → Makes before now (StopsReading content Goes ((which, name) ∷ []) ReadFault)
input_fails content Goes before now which name made = makes_as before now (PassInTime (content name) (Goes which) io.AtFault name) (StopsReading content Goes ((which, name) ∷ []) ReadFault) made (λ reads p. (which, up_to_one content Goes which io.AtFault name reads p))

pub input_large : (content : Content) (Goes : Judge) (before now : Option (List Read)) (which : Which) (name : List ℕ) → Makes before now (PassInTime (content name) (Goes which) io.PastMost name) → Makes before now (StopsReading content Goes ((which, name) ∷ []) (TooLarge which))
input_large content Goes before now which name made = input_refused content Goes before now which io.PastMost name made

pub input_begun : (content : Content) (Goes : Judge) (before now : Option (List Read)) (which : Which) (name : List ℕ) → Makes before now (PassInTime (content name) (Goes which) Anywhere name) → Makes before now (StopsReading content Goes ((which, name) ∷ []) NoMemory)
input_begun content Goes before now which name made = makes_as before now (PassInTime (content name) (Goes which) Anywhere name) (StopsReading content Goes ((which, name) ∷ []) NoMemory) made (part_one content Goes which name)

-- an input whose reads are all made is refused then
one_ended : (content : Content) (Goes : Judge) (which : Which) (name : List ℕ) (reads : List Read) → InputsRead content Goes ((which, name) ∷ []) reads → ReadUpTo content Goes ((which, name) ∷ []) which AtEnd reads
one_ended content Goes which name reads p = up_to_one content Goes which AtEnd name reads (subst (PassInTime (content name) (Goes which) AtEnd name) (sym (p.2 ∙ ap (λ rest. p.0 ++ rest) p.4 ∙ append-nil p.0)) p.3)

pub one_ended_early : (content : Content) (Goes : Judge) (which : Which) (name : List ℕ) (reads : List Read) → InputsRead content Goes ((which, name) ∷ []) reads → ReadUpTo content Goes ((which, name) ∷ []) which Anywhere reads
one_ended_early content Goes which name reads p = up_to_one content Goes which Anywhere name reads (ended_in_time (content name) (Goes which) name reads (subst (PassInTime (content name) (Goes which) AtEnd name) (sym (p.2 ∙ ap (λ rest. p.0 ++ rest) p.4 ∙ append-nil p.0)) p.3))

pub text_refused : (content : Content) (Goes : Judge) (before now : Option (List Read)) (which : Which) (name : List ℕ) → Makes before now (InputsRead content Goes ((which, name) ∷ [])) → Makes before now (ReadUpTo content Goes ((which, name) ∷ []) which AtEnd)
text_refused content Goes before now which name made = makes_as before now (InputsRead content Goes ((which, name) ∷ [])) (ReadUpTo content Goes ((which, name) ∷ []) which AtEnd) made (one_ended content Goes which name)

-- ---- the top call

-- texts that were compared, by what was found
found_read : (content : Content) (inputs : List Input) (w : Option code_wrong.Wrong) (o : Outcome) (reads : List Read) → EndsBy (option_map wrong_as w) o → ReadsFound content inputs w reads → ReadsTexts content inputs o reads
found_read content inputs None o reads e p = rw e p
found_read content inputs (Some (wrong.No x)) o reads e p = rw e.1 p
found_read content inputs (Some (wrong.Differ x)) o reads e p = rw e.1 p
found_read content inputs (Some (wrong.MovesNo x)) o reads e p = rw e.1 p

found_unwritten : (content : Content) (inputs : List Input) (w : Option code_wrong.Wrong) (reads : List Read) → ReadsFound content inputs w reads → ReadsTexts content inputs WriteFault reads
found_unwritten content inputs None reads p = inl p
found_unwritten content inputs (Some (wrong.No x)) reads p = inr p
found_unwritten content inputs (Some (wrong.Differ x)) reads p = inl p
found_unwritten content inputs (Some (wrong.MovesNo x)) reads p = inl p

-- inputs that were all read
all_ended : (content : Content) (Goes : Judge) (inputs : List Input) (w : Option code_wrong.Wrong) (o : Outcome) (reads : List Read) → EndsBy (option_map wrong_as w) o → InputsRead content Goes inputs reads → ReadsTo content Goes inputs o reads
all_ended content Goes inputs None o reads e p = rw e p
all_ended content Goes inputs (Some (wrong.No x)) o reads e p = rw e.1 p
all_ended content Goes inputs (Some (wrong.Differ x)) o reads e p = rw e.1 p
all_ended content Goes inputs (Some (wrong.MovesNo x)) o reads e p = rw e.1 p

asked_ended : (content : Content) (asked : Option Asked) (reply : code_reply.Reply) (o : Outcome) (reads : List Read) → EndsBy (option_map wrong_as reply.wrong) o → ReadsAsked content asked (Ok reply) reads → ReadsAt content asked o reads
asked_ended content None reply o reads e p = p
asked_ended content (Some (Run named)) reply o reads e p = all_ended content (RunMayGoOn content named) (run_inputs named) reply.wrong o reads e p
asked_ended content (Some (Check name)) reply o reads e p = all_ended content TextMayGoOn (check_inputs name) reply.wrong o reads e p
asked_ended content (Some (Make routes seed)) reply o reads e p = p
asked_ended content (Some (Steps named)) reply o reads e p = all_ended content (StepsMayGoOn named) (steps_inputs named) reply.wrong o reads e p
asked_ended content (Some (Same named)) reply o reads e p = found_read content (same_inputs named) reply.wrong o reads e p
asked_ended content (Some (Moves named)) reply o reads e p = found_read content (moves_inputs named) reply.wrong o reads e p
asked_ended content (Some (CheckMoves named)) reply o reads e p = found_read content (check_moves_inputs named) reply.wrong o reads e p
asked_ended content (Some (Save named)) reply o reads e p = all_ended content SaveMayGoOn (save_inputs named) reply.wrong o reads e p

unwritten_asked : (content : Content) (asked : Option Asked) (reply : code_reply.Reply) (reads : List Read) → ReadsAsked content asked (Ok reply) reads → ReadsAt content asked WriteFault reads
unwritten_asked content None reply reads p = p
unwritten_asked content (Some (Run named)) reply reads p = p
unwritten_asked content (Some (Check name)) reply reads p = p
unwritten_asked content (Some (Make routes seed)) reply reads p = p
unwritten_asked content (Some (Steps named)) reply reads p = p
unwritten_asked content (Some (Same named)) reply reads p = found_unwritten content (same_inputs named) reply.wrong reads p
unwritten_asked content (Some (Moves named)) reply reads p = found_unwritten content (moves_inputs named) reply.wrong reads p
unwritten_asked content (Some (CheckMoves named)) reply reads p = found_unwritten content (check_moves_inputs named) reply.wrong reads p
unwritten_asked content (Some (Save named)) reply reads p = p

pub reads_stopped : (content : Content) (Goes : Judge) (inputs : List Input) (o : Outcome) (reads : List Read) → StopsReading content Goes inputs o reads → ReadsTo content Goes inputs o reads
reads_stopped content Goes inputs Done reads p = absurd p
reads_stopped content Goes inputs (CheckNo x) reads p = absurd p
reads_stopped content Goes inputs (Differ x) reads p = absurd p
reads_stopped content Goes inputs (MovesNo x) reads p = absurd p
reads_stopped content Goes inputs (PeersFull peers) reads p = absurd p
reads_stopped content Goes inputs (PathTooLong q n) reads p = absurd p
reads_stopped content Goes inputs WriteFault reads p = absurd p
reads_stopped content Goes inputs Usage reads p = p
reads_stopped content Goes inputs ReadFault reads p = p
reads_stopped content Goes inputs NoMemory reads p = p
reads_stopped content Goes inputs (TooLarge which) reads p = p
reads_stopped content Goes inputs (Malformed which number rule) reads p = p
reads_stopped content Goes inputs (HopsFull event) reads p = p
reads_stopped content Goes inputs (TrieFull event need have arena) reads p = p
reads_stopped content Goes inputs (BadLine which line why) reads p = p

texts_stopped : (content : Content) (inputs : List Input) (o : Outcome) (reads : List Read) → StopsReading content TextMayGoOn inputs o reads → ReadsTexts content inputs o reads
texts_stopped content inputs Done reads p = absurd p
texts_stopped content inputs (CheckNo x) reads p = absurd p
texts_stopped content inputs (Differ x) reads p = absurd p
texts_stopped content inputs (MovesNo x) reads p = absurd p
texts_stopped content inputs (PeersFull peers) reads p = absurd p
texts_stopped content inputs (PathTooLong q n) reads p = absurd p
texts_stopped content inputs WriteFault reads p = absurd p
texts_stopped content inputs Usage reads p = p
texts_stopped content inputs ReadFault reads p = p
texts_stopped content inputs NoMemory reads p = p
texts_stopped content inputs (TooLarge which) reads p = p
texts_stopped content inputs (Malformed which number rule) reads p = p
texts_stopped content inputs (HopsFull event) reads p = p
texts_stopped content inputs (TrieFull event need have arena) reads p = p
texts_stopped content inputs (BadLine which line why) reads p = p

stopped_asked : (content : Content) (asked : Option Asked) (o : Outcome) (reads : List Read) → ReadsAsked content asked (Err o) reads → ReadsAt content asked o reads
stopped_asked content None o reads p = p
stopped_asked content (Some (Run named)) o reads p = reads_stopped content (RunMayGoOn content named) (run_inputs named) o reads p
stopped_asked content (Some (Check name)) o reads p = reads_stopped content TextMayGoOn (check_inputs name) o reads p
stopped_asked content (Some (Make routes seed)) o reads p = p
stopped_asked content (Some (Steps named)) o reads p = reads_stopped content (StepsMayGoOn named) (steps_inputs named) o reads p
stopped_asked content (Some (Same named)) o reads p = texts_stopped content (same_inputs named) o reads p
stopped_asked content (Some (Moves named)) o reads p = texts_stopped content (moves_inputs named) o reads p
stopped_asked content (Some (CheckMoves named)) o reads p = texts_stopped content (check_moves_inputs named) o reads p
stopped_asked content (Some (Save named)) o reads p = p

-- the reply was written
pub reads_ended : (content : Content) (before now : Option (List Read)) (asked : Option Asked) (reply : code_reply.Reply) (o : Outcome) → EndsBy (option_map wrong_as reply.wrong) o → Makes before now (ReadsAsked content asked (Ok reply)) → Makes before now (ReadsAt content asked o)
reads_ended content before now asked reply o ends made = makes_as before now (ReadsAsked content asked (Ok reply)) (ReadsAt content asked o) made (λ reads p. asked_ended content asked reply o reads ends p)

pub reads_unwritten : (content : Content) (before now : Option (List Read)) (asked : Option Asked) (reply : code_reply.Reply) → Makes before now (ReadsAsked content asked (Ok reply)) → Makes before now (ReadsAt content asked WriteFault)
reads_unwritten content before now asked reply made = makes_as before now (ReadsAsked content asked (Ok reply)) (ReadsAt content asked WriteFault) made (unwritten_asked content asked reply)

-- an input was refused
pub reads_refused : (content : Content) (before now : Option (List Read)) (asked : Option Asked) (o : Outcome) → Makes before now (ReadsAsked content asked (Err o)) → Makes before now (ReadsAt content asked o)
reads_refused content before now asked o made = makes_as before now (ReadsAsked content asked (Err o)) (ReadsAt content asked o) made (stopped_asked content asked o)

-- words whose inputs weren't begun
part_none : (content : Content) (Goes : Judge) (inputs : List Input) → ReadInPart content Goes inputs []
part_none content Goes inputs = record { before = []; after = inputs; order = refl; first = []; whole = refl; last = []; begun = begun_none content Goes inputs; all = refl }

memory_asked : (content : Content) (asked : Option Asked) → ReadsAsked content asked (Err NoMemory) []
memory_asked content None = refl
memory_asked content (Some (Run named)) = part_none content (RunMayGoOn content named) (run_inputs named)
memory_asked content (Some (Check name)) = part_none content TextMayGoOn (check_inputs name)
memory_asked content (Some (Make routes seed)) = refl
memory_asked content (Some (Steps named)) = part_none content (StepsMayGoOn named) (steps_inputs named)
memory_asked content (Some (Same named)) = part_none content TextMayGoOn (same_inputs named)
memory_asked content (Some (Moves named)) = part_none content TextMayGoOn (moves_inputs named)
memory_asked content (Some (CheckMoves named)) = part_none content TextMayGoOn (check_moves_inputs named)
memory_asked content (Some (Save named)) = part_none content SaveMayGoOn (save_inputs named)

pub memory_read : (content : Content) (now : Option (List Read)) (asked : Option Asked) → Makes now now (ReadsAsked content asked (Err NoMemory))
memory_read content now asked = makes_none now (ReadsAsked content asked (Err NoMemory)) (memory_asked content asked)

pub usage_read : (content : Content) (now : Option (List Read)) (asked : Option Asked) (o : Outcome) → asked ≡ None → Makes now now (ReadsAsked content asked (Err o))
usage_read content now asked o none = rw none (makes_none now (λ reads. reads ≡ []) refl)

-- nothing was read
pub nothing_read : (now : Option (List Read)) → Makes now now (λ reads. reads ≡ [])
nothing_read now = makes_none now (λ reads. reads ≡ []) refl
