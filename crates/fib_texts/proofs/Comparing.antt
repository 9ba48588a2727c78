-- The reply to what was found in texts.
use Rattle.std.proofs.Common.{◌≡◌, ◌∙◌, ℕ, ◌+◌, List, [], ◌∷◌, Option, Some, None, Result, Ok, Err, inl, inr, refl, sym, ap, subst}
use Rattle.std.specs.Prelude.{Bool, IfErr, IfOk, IfSome, map, option_map, ◌⊎◌}
use Rattle.std.proofs.lemmas.Result.{IfOk-weaker}
use Rattle.std.proofs.lemmas.List.{map-append}
use Rattle.cert_model.specs.Verdict.{No, Twice}
use Rattle.octet_fields.specs.Field.{◌>>=◌}
use Rattle.table_model.specs.Address.{Prefix}
use Rattle.fib_addr.specs.Views.{prefix_as}
use Rattle.fib_io.specs.Reads.{Anywhere, AtEnd, AtFault, Makes, PassEnd, PastMost, Read}
use Rattle.fib_io.proofs.Passing.{makes_as}
use Rattle.fib_io.proofs.Timing.{ended_in_time, pass_of_text}
use Rattle.fib_same.specs.Due.{Compared, answer_of}
use Rattle.fib_same.specs.Due as same
use Rattle.fib_same.specs.Gives as gives
use Rattle.fib_same.specs.Passes as passes
use Rattle.fib_same.specs.Passes.{numbered_texts}
use Rattle.fib_same.specs.Views.{EndsCompared, difference_as}
use Rattle.fib_same.specs.declared.compare.Difference as code_difference
use Rattle.fib_same.specs.declared.error.SameError.{SameError}
use Rattle.fib_same.specs.declared.error.SameError.TheVariants as same_error
use Rattle.fib_words.specs.Commands.{Asked}
use Rattle.router_moves.specs.Due.{moves_for}
use Rattle.router_moves.specs.Due as router
use Rattle.moves_model.specs.Claims.{WrongMoves}
use Rattle.router_moves.specs.Checked.{verdict_for}
use Rattle.router_moves.specs.Checked as claims
use Rattle.router_moves.specs.Judged.{EndsJudged, verdict_as}
use Rattle.router_moves.specs.Views.{EndsShortest, shortest_as}
use Rattle.router_moves.specs.declared.answer.RouterMoves.{RouterMoves}
use Rattle.router_moves.specs.declared.verdict.MovesVerdict.{MovesVerdict}
use Rattle.cert_check.specs.Views.{no_as}
use Rattle.cert_check.specs.declared.refusal.No as code_check
use Rattle.fib_due.specs.declared.outcome.Outcome.{Outcome}
use Rattle.fib_due.specs.declared.outcome.Which.{Which}
use Rattle.fib_due.specs.declared.outcome.Which.TheVariants.{Text}
use Rattle.fib_due.specs.declared.reply.Reply as code_reply
use Rattle.fib_due.specs.declared.reply.Wrong as code_wrong
use Rattle.fib_due.specs.declared.reply.Wrong.TheVariants as wrong
use Rattle.fib_texts.specs.Comparing.{RepliesRefusal, RepliesTo, answer_reply, answer_says, moves_reply, moves_say, verdict_reply, verdict_says}
use Rattle.fib_due.specs.Due.{Alike, Claimed, Moved, MovesRefuted, Output, Refuted, Repeats, Reply, of_texts, reply_of, with_reply}
use Rattle.fib_due.specs.Ends.{OneRose, ReadsNames}
use Rattle.fib_due.specs.InTime.{TextMayGoOn}
use Rattle.fib_due.specs.Owned.{HasInput, IsNo, IsOf, IsOfMoves, IsOfTexts, StoppedAt}
use Rattle.fib_due.specs.Passes.{InputsRead, Content, Input, MayBegin, ReadInPart, ReadToOne, ReadUpTo, ReadsCompared, ReadsFound, texts_from}
use Rattle.fib_due.specs.Stops.{GivesDue, Stop}
use Rattle.fib_due.specs.Untold.{ClaimedOfSome, ComparedOfSome, MovedOfSome}
use Rattle.fib_due.specs.Views.{reply_as, wrong_as}
use Rattle.fib_due.proofs.Passes.{part_all}

abbrev Replied : Type 0
Replied = Result code_reply.Reply Outcome

-- ---- what is due

abbrev fine : Reply → Result Reply Stop
fine x = Ok x

abbrev fine_text : {Y : Type 0} → Y → Result Y same.TextStop
fine_text y = Ok y

-- a refusal of texts that is due
refused_due : {X Y : Type 0} (out : X → Output) (of : X → Y) (d : Result X same.TextStop) (e : SameError) (s : Replied) → RepliesRefusal e s → gives.RefusesDue e (d >>= λ x. fine_text (of x)) → GivesDue reply_as s (with_reply (of_texts out d))
refused_due out of (Ok t) (same_error.Twice n p) (Ok reply) is due = absurd cc
refused_due out of (Err same.Untold) (same_error.Twice n p) (Ok reply) is due = tt
refused_due out of (Err (same.Refused (same.TooLarge m))) (same_error.Twice n p) (Ok reply) is due = absurd cc
refused_due out of (Err (same.Refused (same.BadLine m line why))) (same_error.Twice n p) (Ok reply) is due = absurd cc
refused_due out of (Err (same.Refused (same.Twice m q))) (same_error.Twice n p) (Ok reply) is due = let e : q ≡ prefix_as p = cc in ap (λ x. fine (reply_of (Repeats x))) e ∙ ap fine (sym is)
refused_due out of d (same_error.Twice n p) (Err o) is due = rw is tt
refused_due out of d (same_error.BadLine n line why) (Ok reply) is due = absurd is
refused_due out of (Ok t) (same_error.BadLine n line why) (Err o) is due = absurd cc
refused_due out of (Err same.Untold) (same_error.BadLine n line why) (Err o) is due = rw is tt
refused_due out of (Err (same.Refused x)) (same_error.BadLine n line why) (Err o) is due = let e : x ≡ same.BadLine n line why = cc in rw (e, is) refl
refused_due out of d (same_error.TooLarge n) (Ok reply) is due = absurd is
refused_due out of (Ok t) (same_error.TooLarge n) (Err o) is due = absurd cc
refused_due out of (Err same.Untold) (same_error.TooLarge n) (Err o) is due = rw is tt
refused_due out of (Err (same.Refused x)) (same_error.TooLarge n) (Err o) is due = let e : x ≡ same.TooLarge n = cc in rw (e, is) refl
refused_due out of d same_error.Fault (Ok reply) is due = absurd is
refused_due out of d same_error.Fault (Err o) is due = rw is tt
refused_due out of d same_error.NoMemory (Ok reply) is due = absurd is
refused_due out of d same_error.NoMemory (Err o) is due = rw is tt

-- what was found is what is due, and so is the reply that says it
pub reply_due : {T X Y : Type 0} (view : T → Y) (says : Y → Reply) (out : X → Output) (of : X → Y) → ((x : X) → reply_of (out x) ≡ says (of x)) → (d : Result X same.TextStop) (r : Result T SameError) (s : Replied) → RepliesTo (λ x. says (view x)) r s
    → gives.ReturnsDue view r (d >>= λ x. fine_text (of x)) → GivesDue reply_as s (with_reply (of_texts out d))
reply_due view says out of said (Ok t) (Ok x) (Ok reply) is due = let e : view x ≡ of t = cc in ap fine (said t ∙ (ap says (sym e) ∙ sym is))
reply_due view says out of said (Err same.Untold) (Ok x) (Ok reply) is due = tt
reply_due view says out of said (Err (same.Refused x)) (Ok y) (Ok reply) is due = absurd cc
reply_due view says out of said d (Ok x) (Err o) is due = rw is tt
reply_due view says out of said d (Err e) s is due = refused_due out of d e s is due

-- whatever the texts hold
abbrev pub SomeReply : {X : Type 0} → (X → Output) → Replied → Type 0
SomeReply {X = X} out s = ((n : ℕ) × StoppedAt (Text n) s) ⊎ (((x : X) × GivesDue reply_as s (with_reply (Ok (out x)))) ⊎ ((p : Prefix) × GivesDue reply_as s (with_reply (Ok (Repeats p)))))

pub reply_some : {T X Y : Type 0} (view : T → Y) (says : Y → Reply) (out : X → Output) (of : X → Y) → ((x : X) → reply_of (out x) ≡ says (of x)) → (r : Result T SameError) (s : Replied) → RepliesTo (λ x. says (view x)) r s → IfOk r (λ x. (t : X) × (view x ≡ of t)) → SomeReply out s
reply_some view says out of said (Ok x) (Ok reply) is ends = inr (inl (ends.0, ap fine (said ends.0 ∙ (ap says (sym ends.1) ∙ sym is))))
reply_some view says out of said (Ok x) (Err o) is ends = inl (1, rw is tt)
reply_some view says out of said (Err (same_error.Twice n p)) (Ok reply) is ends = inr (inr (prefix_as p, ap fine (sym is)))
reply_some view says out of said (Err (same_error.Twice n p)) (Err o) is ends = inl (1, rw is tt)
reply_some view says out of said (Err (same_error.BadLine n line why)) (Ok reply) is ends = absurd is
reply_some view says out of said (Err (same_error.BadLine n line why)) (Err o) is ends = inl (n, rw is (refl, tt))
reply_some view says out of said (Err (same_error.TooLarge n)) (Ok reply) is ends = absurd is
reply_some view says out of said (Err (same_error.TooLarge n)) (Err o) is ends = inl (n, rw is refl)
reply_some view says out of said (Err same_error.Fault) (Ok reply) is ends = absurd is
reply_some view says out of said (Err same_error.Fault) (Err o) is ends = inl (1, rw is tt)
reply_some view says out of said (Err same_error.NoMemory) (Ok reply) is ends = absurd is
reply_some view says out of said (Err same_error.NoMemory) (Err o) is ends = inl (1, rw is tt)

-- a comparison
pub same_some : (d : Result Compared same.TextStop) (r : Result (Option code_difference.Difference) SameError) (s : Replied) → RepliesTo answer_says r s → IfOk r (EndsCompared d) → ComparedOfSome s
same_some d r s is ends = reply_some (option_map difference_as) answer_reply Alike answer_of (λ t. refl) r s is (IfOk-weaker r (EndsCompared d) (λ x. (t : Compared) × (option_map difference_as x ≡ answer_of t)) (λ x e. (e.0, e.2.1)) ends)

-- what a router must change
pub moves_some : (steady : Bool) (d : Result router.RouterTables same.TextStop) (r : Result RouterMoves SameError) (s : Replied) → RepliesTo moves_say r s → IfOk r (EndsShortest steady d) → MovedOfSome steady s
moves_some steady d r s is ends = reply_some shortest_as moves_reply (Moved steady) (moves_for steady) (λ t. refl) r s is (IfOk-weaker r (EndsShortest steady d) (λ x. (t : router.RouterTables) × (shortest_as x ≡ moves_for steady t)) (λ x e. (e.0, e.2)) ends)

-- what it was told to change
pub verdict_some : (d : Result claims.Claimed same.TextStop) (r : Result MovesVerdict SameError) (s : Replied) → RepliesTo verdict_says r s → IfOk r (EndsJudged d) → ClaimedOfSome s
verdict_some d r s is ends = reply_some verdict_as verdict_reply Claimed verdict_for (λ t. refl) r s is (IfOk-weaker r (EndsJudged d) (λ x. (t : claims.Claimed) × (verdict_as x ≡ verdict_for t)) (λ x e. (e.0, e.2)) ends)

-- a refusal is one of a command that reads texts and judges them
pub reply_own : {T : Type 0} (says : T → Reply) (asked : Asked) → ((n : ℕ) → HasInput asked (Text n)) → (r : Result T SameError) (s : Replied) → RepliesTo says r s → IfErr s (IsOf (Some asked))
reply_own says asked has r (Ok reply) is = tt
reply_own says asked has (Ok x) (Err o) is = rw is tt
reply_own says asked has (Err (same_error.Twice n p)) (Err o) is = rw is tt
reply_own says asked has (Err (same_error.BadLine n line why)) (Err o) is = rw is (Text n, has n, (refl, tt))
reply_own says asked has (Err (same_error.TooLarge n)) (Err o) is = rw is (Text n, has n, refl)
reply_own says asked has (Err same_error.Fault) (Err o) is = rw is (Text 1, has 1, tt)
reply_own says asked has (Err same_error.NoMemory) (Err o) is = rw is tt

-- ---- counts of faults

rose_too : (names : List (List ℕ)) (before now : List ℕ → ℕ) → gives.OneRose names before now → OneRose names before now
rose_too [] before now r = r
rose_too (name ∷ names) before now (inl r) = inl r
rose_too (name ∷ names) before now (inr r) = inr (rose_too names before now r)

pub reply_cause : {T : Type 0} (says : T → Reply) (names : List (List ℕ)) (before now : List ℕ → ℕ) (r : Result T SameError) (s : Replied) → RepliesTo says r s → gives.ReadsNamedTexts names before now r → ReadsNames names before now s
reply_cause says names before now (Ok answer) (Ok reply) is c = c
reply_cause says names before now (Ok answer) (Err o) is c = rw is c
reply_cause says names before now (Err (same_error.Twice n p)) (Ok reply) is c = c
reply_cause says names before now (Err (same_error.Twice n p)) (Err o) is c = rw is c
reply_cause says names before now (Err (same_error.BadLine n line why)) (Ok reply) is c = absurd is
reply_cause says names before now (Err (same_error.BadLine n line why)) (Err o) is c = rw is c
reply_cause says names before now (Err (same_error.TooLarge n)) (Ok reply) is c = absurd is
reply_cause says names before now (Err (same_error.TooLarge n)) (Err o) is c = rw is c
reply_cause says names before now (Err same_error.Fault) (Ok reply) is c = absurd is
reply_cause says names before now (Err same_error.Fault) (Err o) is c = rw is (rose_too names before now c)
reply_cause says names before now (Err same_error.NoMemory) (Ok reply) is c = absurd is
reply_cause says names before now (Err same_error.NoMemory) (Err o) is c = rw is c

-- ---- reads

-- texts by their numbers are inputs
abbrev input_as : ℕ × List ℕ → Input
input_as x = (Text x.0, x.1)

texts_as : (n : ℕ) (names : List (List ℕ)) → map input_as (numbered_texts n names) ≡ texts_from n names
texts_as n [] = refl
texts_as n (name ∷ names) = ap (λ xs. (Text n, name) ∷ xs) (texts_as (n + 1) names)

all_as : (content : Content) (xs : List (ℕ × List ℕ)) (reads : List Read) → passes.TextsRead xs reads → InputsRead content TextMayGoOn (map input_as xs) reads
all_as content [] reads p = p
all_as content (x ∷ xs) reads p = (p.0, p.1, p.2, pass_of_text (content x.1) AtEnd x.1 p.0 p.3, all_as content xs p.1 p.4)

up_to_as : (content : Content) (xs : List (ℕ × List ℕ)) (n : ℕ) (end : PassEnd) (reads : List Read) → passes.TextsReadUpTo xs n end reads → ReadUpTo content TextMayGoOn (map input_as xs) (Text n) end reads
up_to_as content xs n end reads p = record {
  before = map input_as p.before;
  name = p.name;
  after = map input_as p.after;
  order = ap (map input_as) p.order ∙ map-append input_as p.before ((n, p.name) ∷ p.after);
  first = p.first;
  whole = all_as content p.before p.first p.whole;
  last = p.last;
  pass = pass_of_text (content p.name) end p.name p.last p.pass;
  all = p.all;
}

begun_as : (content : Content) (xs : List (ℕ × List ℕ)) (reads : List Read) → passes.TextMayBegin xs reads → MayBegin content TextMayGoOn (map input_as xs) reads
begun_as content [] reads p = p
begun_as content (x ∷ xs) reads p = pass_of_text (content x.1) Anywhere x.1 reads p

part_as : (content : Content) (xs : List (ℕ × List ℕ)) (reads : List Read) → passes.TextsReadInPart xs reads → ReadInPart content TextMayGoOn (map input_as xs) reads
part_as content xs reads p = record {
  before = map input_as p.before;
  after = map input_as p.after;
  order = ap (map input_as) p.order ∙ map-append input_as p.before p.after;
  first = p.first;
  whole = all_as content p.before p.first p.whole;
  last = p.last;
  begun = begun_as content p.after p.last p.begun;
  all = p.all;
}

-- a text that was read to its end, behind which nothing was begun
part_up_to : (content : Content) (inputs : List Input) (which : Which) (reads : List Read) → ReadUpTo content TextMayGoOn inputs which AtEnd reads → ReadInPart content TextMayGoOn inputs reads
part_up_to content inputs which reads p = record {
  before = p.before;
  after = (which, p.name) ∷ p.after;
  order = p.order;
  first = p.first;
  whole = p.whole;
  last = p.last;
  begun = ended_in_time (content p.name) (TextMayGoOn which) p.name p.last p.pass;
  all = p.all;
}

found_all : (content : Content) (inputs : List Input) (w : Option code_wrong.Wrong) (reads : List Read) → ((x : code_check.No) → w ≡ Some (wrong.No x) → ⊥) → InputsRead content TextMayGoOn inputs reads → ReadsFound content inputs w reads
found_all content inputs None reads e p = p
found_all content inputs (Some (wrong.Differ d)) reads e p = p
found_all content inputs (Some (wrong.MovesNo x)) reads e p = p
found_all content inputs (Some (wrong.No x)) reads e p = absurd (e x refl)

-- what says no is no reply to what was found
abbrev pub NeverNo : {T : Type 0} → (T → Reply) → Type 0
NeverNo {T = T} says = (x : T) (fault : No) → (says x).wrong ≡ Some (Refuted fault) → ⊥

never_no : {T : Type 0} (says : T → Reply) → NeverNo says → (x : T) (w : Option code_wrong.Wrong) → option_map wrong_as w ≡ (says x).wrong → (fault : code_check.No) → w ≡ Some (wrong.No fault) → ⊥
never_no says never x w e fault is = never x (no_as fault) (sym e ∙ ap (option_map wrong_as) is)

found_one : (content : Content) (inputs : List Input) (w : Option code_wrong.Wrong) (fault : No) (reads : List Read) → option_map wrong_as w ≡ Some (Refuted fault) → ReadToOne content inputs reads → ReadsFound content inputs w reads
found_one content inputs None fault reads e p = absurd cc
found_one content inputs (Some (wrong.No x)) fault reads e p = p
found_one content inputs (Some (wrong.Differ d)) fault reads e p = absurd cc
found_one content inputs (Some (wrong.MovesNo x)) fault reads e p = absurd cc

wrong_of : (reply : code_reply.Reply) (r : Reply) → reply_as reply ≡ r → option_map wrong_as reply.wrong ≡ r.wrong
wrong_of reply r e = ap (λ (x : Reply). x.wrong) e

replied_reads : {T : Type 0} (says : T → Reply) → NeverNo says → (content : Content) (xs : List (ℕ × List ℕ)) (r : Result T SameError) (s : Replied) (reads : List Read) → RepliesTo says r s → passes.ReadsOfTexts xs r reads → ReadsCompared content (map input_as xs) s reads
replied_reads says never content xs (Ok x) (Ok reply) reads is p =
    found_all content (map input_as xs) reply.wrong reads (never_no says never x reply.wrong (wrong_of reply (says x) is)) (all_as content xs reads p)
replied_reads says never content xs (Ok answer) (Err o) reads is p = rw is (part_all content TextMayGoOn (map input_as xs) reads (all_as content xs reads p))
replied_reads says never content xs (Err (same_error.Twice n p)) (Ok reply) reads is q =
    found_one content (map input_as xs) reply.wrong (Twice (prefix_as p)) reads (wrong_of reply (reply_of (Repeats (prefix_as p))) is) (Text n, up_to_as content xs n AtEnd reads q)
replied_reads says never content xs (Err (same_error.Twice n p)) (Err o) reads is q = rw is (part_up_to content (map input_as xs) (Text n) reads (up_to_as content xs n AtEnd reads q))
replied_reads says never content xs (Err (same_error.BadLine n line why)) (Ok reply) reads is p = absurd is
replied_reads says never content xs (Err (same_error.BadLine n line why)) (Err o) reads is p = rw is (up_to_as content xs n AtEnd reads p)
replied_reads says never content xs (Err (same_error.TooLarge n)) (Ok reply) reads is p = absurd is
replied_reads says never content xs (Err (same_error.TooLarge n)) (Err o) reads is p = rw is (up_to_as content xs n PastMost reads p)
replied_reads says never content xs (Err same_error.Fault) (Ok reply) reads is p = absurd is
replied_reads says never content xs (Err same_error.Fault) (Err o) reads is p = rw is (Text p.0, up_to_as content xs p.0 AtFault reads p.1)
replied_reads says never content xs (Err same_error.NoMemory) (Ok reply) reads is p = absurd is
replied_reads says never content xs (Err same_error.NoMemory) (Err o) reads is p = rw is (part_as content xs reads p)

pub reply_reads : {T : Type 0} (says : T → Reply) → NeverNo says → (content : Content) (before now : Option (List Read)) (names : List (List ℕ)) (r : Result T SameError) (s : Replied) → RepliesTo says r s → Makes before now (passes.ReadsOfTexts (numbered_texts 1 names) r) → Makes before now (ReadsCompared content (texts_from 1 names) s)
reply_reads says never content before now names r s is made =
    makes_as before now (passes.ReadsOfTexts (numbered_texts 1 names) r) (ReadsCompared content (texts_from 1 names) s) made
    (λ reads p. subst (λ inputs. ReadsCompared content inputs s reads) (texts_as 1 names) (replied_reads says never content (numbered_texts 1 names) r s reads is p))

-- an answer, changes and a verdict on changes say no no to a text
pub answers_never : NeverNo answer_says
answers_never None fault e = cc
answers_never (Some d) fault e = cc

pub moves_never : NeverNo moves_say
moves_never m fault e = cc

pub verdicts_never : NeverNo verdict_says
verdicts_never v fault e = by_wrong (verdict_as v).wrong e
  where
    by_wrong : (w : Option WrongMoves) → option_map MovesRefuted w ≡ Some (Refuted fault) → ⊥
    by_wrong None e = cc
    by_wrong (Some x) e = cc

-- ---- what may be wrong

-- what is said of this may be wrong so
abbrev pub SaysOnly : {T : Type 0} → (T → Reply) → (code_wrong.Wrong → Type 0) → Type 0
SaysOnly {T = T} says P = (x : T) (w : Option code_wrong.Wrong) → option_map wrong_as w ≡ (says x).wrong → IfSome w P

-- what is wrong is wrong with a text, or so
pub reply_owns : {T : Type 0} (says : T → Reply) (P : code_wrong.Wrong → Type 0) → ((x : code_check.No) → P (wrong.No x)) → SaysOnly says P → (r : Result T SameError) (s : Replied) → RepliesTo says r s → IfOk s (λ reply. IfSome reply.wrong P)
reply_owns says P of_text only r (Err o) is = tt
reply_owns says P of_text only (Ok x) (Ok reply) is = only x reply.wrong (wrong_of reply (says x) is)
reply_owns says P of_text only (Err (same_error.Twice n p)) (Ok reply) is = one reply.wrong (wrong_of reply (reply_of (Repeats (prefix_as p))) is)
  where
    one : (w : Option code_wrong.Wrong) → option_map wrong_as w ≡ Some (Refuted (Twice (prefix_as p))) → IfSome w P
    one None e = tt
    one (Some (wrong.No x)) e = of_text x
    one (Some (wrong.Differ x)) e = absurd cc
    one (Some (wrong.MovesNo x)) e = absurd cc
reply_owns says P of_text only (Err (same_error.BadLine n line why)) (Ok reply) is = absurd is
reply_owns says P of_text only (Err (same_error.TooLarge n)) (Ok reply) is = absurd is
reply_owns says P of_text only (Err same_error.Fault) (Ok reply) is = absurd is
reply_owns says P of_text only (Err same_error.NoMemory) (Ok reply) is = absurd is

pub answers_differ : SaysOnly answer_says IsOfTexts
answers_differ answer None e = tt
answers_differ answer (Some (wrong.No x)) e = tt
answers_differ answer (Some (wrong.Differ x)) e = tt
answers_differ None (Some (wrong.MovesNo x)) e = absurd cc
answers_differ (Some d) (Some (wrong.MovesNo x)) e = absurd cc

pub moves_accept : SaysOnly moves_say IsNo
moves_accept m None e = tt
moves_accept m (Some w) e = absurd cc

pub verdicts_refute : SaysOnly verdict_says IsOfMoves
verdicts_refute v None e = tt
verdicts_refute v (Some (wrong.No x)) e = tt
verdicts_refute v (Some (wrong.Differ x)) e = absurd (by_wrong (verdict_as v).wrong e)
  where
    by_wrong : (w : Option WrongMoves) → Some (wrong_as (wrong.Differ x)) ≡ option_map MovesRefuted w → ⊥
    by_wrong None e = cc
    by_wrong (Some y) e = cc
verdicts_refute v (Some (wrong.MovesNo x)) e = tt
