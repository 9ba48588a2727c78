-- One record of an input after another.
use Rattle.std.proofs.Common.{◌≡◌, ℕ, zero, suc, List, [], ◌∷◌, ◌++◌, Option, Some, None, Result, Ok, Err, length, refl, sym, ap, ◌∙◌, subst, append_assoc, append-nil}
use Rattle.std.proofs.lemmas.List.Sums.{fold-append}
use Rattle.route_model.specs.Events.{Elem, Event, Peer}
use Rattle.route_model.specs.Choice.{Candidates, after_elem, after_elems, elems_after}
use Rattle.route_model.proofs.Elems.{elems_more}
use Rattle.printed_text.specs.Rows.{Announced, Vrp}
use Rattle.fib_rov.specs.Rov.{invalid_in, left_of}
use Rattle.fib_rov.proofs.JudgedLists.{invalid_more, left_more}
use Rattle.octet_fields.specs.Field.{◌>>=◌, steps, until_end}
use Rattle.wire_model.specs.declared.rule.Rule.{Rule}
use Rattle.wire_model.specs.Rules.{rule_number}
use Rattle.wire_model.specs.Update.{Said}
use Rattle.wire_model.specs.Record.{Record, record_at}
use Rattle.wire_model.specs.Input.{Progress, Stopped, start, record_in, counted, or_stop, read_record, input}
use Rattle.wire_model.specs.Reading.{ReadsEvents}
use Rattle.mrt_read.specs.declared.framer.Malformed as code_malformed
use Rattle.mrt_read.specs.Standing as reading
use Rattle.mrt_read.specs.declared.reader.Reader.{Reader}
use Rattle.mrt_read.specs.Cuts.{is_small, is_cut}
use Rattle.mrt_read.proofs.Arriving.{Comes}
use Rattle.mrt_read.proofs.Cutting.{reads_on}
use Rattle.fib_due.specs.declared.outcome.MrtInput.{MrtInput}
use Rattle.fib_due.specs.declared.outcome.Outcome.TheVariants as outcome
use Rattle.fib_run.specs.declared.state.State.{State}
use Rattle.fib_run.specs.declared.state.FeedError.{FeedError}
use Rattle.fib_run.specs.declared.state.FeedError.TheVariants.{Malformed, HopsFull, TrieFull, NoMemory, Fault, TooLarge}
use Rattle.std.specs.Prelude.{IfSome, Bool, true, false, not, ◌&&◌}
use Rattle.fib_io.specs.Pieces.{octets_read, octets_from}
use Rattle.wire_model.proofs.Reading.{reading_feeds}
use Rattle.fib_due.specs.declared.outcome.Outcome.{Outcome}
use Rattle.fib_due.specs.Stops.{Stop, Refused, IsDueIfTold, FailsDue, told_content, all_records, bad_record, whole_records, unless_stopped, outcome_at, event_in, input_of}
use Rattle.fib_due.specs.Refusals.{Limits, ManyHops, Refusal, Short, stop_at, too_much}
use Rattle.fib_run.proofs.Refusing.{stop_in_front}
use Rattle.route_tries.specs.Sizes.{Sizes, shortage_as}
use Rattle.fib_due.specs.Due.{Feed, read_part, elems_in, feed_in, feed_of}
use Rattle.fib_run.specs.Standing.{StateStands, IsStopped, StateTakesAll, next_elems, feed_outcome}

-- this much of the input was read, the state has what it brings, and the announcements of it that are Invalid were noted
pub record Going (vrps : List Vrp) (which : MrtInput) (limits : Limits) (before : List Elem) (octets : List ℕ) (reader : Reader) (state : State) (events : ℕ) (rows : List (Announced × Vrp)) : Type 0 where
  pub read : Progress
  pub stands : reading.ReaderStands octets read reader
  pub counted : events ≡ length (elems_in vrps before read)
  pub held : StateStands which limits before (elems_in vrps before read) state
  pub noted : rows ≡ invalid_in vrps read.events

-- ---- the elementary events of more events

in_more : (vrps : List Vrp) (before : List Elem) (read next : Progress) (events : List Event) → next.events ≡ read.events ++ events → elems_in vrps before read ++ next_elems before (elems_in vrps before read) (left_of vrps events) ≡ elems_in vrps before next
in_more vrps before read next events e =
    let held : Candidates = after_elems [] before in
    ap (λ h. elems_in vrps before read ++ elems_after h (left_of vrps events)) (fold-append after_elem [] before (elems_in vrps before read))
    ∙ (sym (elems_more held (left_of vrps read.events) (left_of vrps events)) ∙ ap (elems_after held) (sym (ap (left_of vrps) e ∙ left_more vrps read.events events)))

pub going_start : (vrps : List Vrp) (which : MrtInput) (limits : Limits) (before : List Elem) (octets : List ℕ) (reader : Reader) (state : State) → reading.ReaderStands octets start reader → StateStands which limits before [] state → Going vrps which limits before octets reader state 0 []
unfolding elems_after left_of invalid_in
going_start vrps which limits before octets reader state r s = record { read = start; stands = r; counted = refl; held = s; noted = refl }

-- ---- one record more

pub going_next : {rows : List (Announced × Vrp)} (vrps : List Vrp) (which : MrtInput) (limits : Limits) (before : List Elem) (octets : List ℕ) (old new : Reader) (mid state : State) (events n : ℕ) (more : List Event) → Going vrps which limits before octets old mid events rows → reading.TakesEvents old more new
    → ((done : List Elem) → events ≡ length done → StateStands which limits before done mid → (n ≡ length (done ++ next_elems before done (left_of vrps more))) × StateStands which limits before (done ++ next_elems before done (left_of vrps more)) state) → Going vrps which limits before octets new state n (rows ++ invalid_in vrps more)
going_next vrps which limits before octets old new mid state events n more g t taken =
    let next : Progress = record { peers = reading.peers new; events = g.read.events ++ more; records = new.records; skipped = new.skipped; treated = new.treated } in
    let now = taken (elems_in vrps before g.read) g.counted g.held in
    let same = in_more vrps before g.read next more refl in
    record { read = next; stands = t.stands octets g.read g.stands; counted = now.0 ∙ ap length same; held = subst (λ es. StateStands which limits before es state) same now.1; noted = ap (λ rs. rs ++ invalid_in vrps more) g.noted ∙ sym (invalid_more vrps g.read.events more) }

-- ---- what is read grows

from_told : (p : Progress) (after : List ℕ) (told : Result (Option (List Peer) × Option Said) Rule) (x : Progress × List ℕ) → or_stop p (told >>= λ t. Ok (counted p t, after)) ≡ Ok x → (new : List Event) × (x.0.events ≡ p.events ++ new)
from_told p after (Err rule) x e = absurd cc
from_told p after (Ok (peers, Some words)) x e = let same : (counted p (peers, Some words), after) ≡ x = cc in (words.events, sym (ap (λ (y : Progress × List ℕ). y.0.events) same))
from_told p after (Ok (peers, None)) x e = let same : (counted p (peers, None), after) ≡ x = cc in ([], sym (ap (λ (y : Progress × List ℕ). y.0.events) same) ∙ sym (append-nil p.events))

from_record : (p : Progress) (a : Result (Record × List ℕ) Rule) (x : Progress × List ℕ) → or_stop p (a >>= λ r. record_in p.peers r.0 >>= λ told. Ok (counted p told, r.1)) ≡ Ok x → (new : List Event) × (x.0.events ≡ p.events ++ new)
from_record p (Err rule) x e = absurd cc
from_record p (Ok r) x e = from_told p r.1 (record_in p.peers r.0) x e

stopped_at : {A : Type 0} (p : Progress) (a : Result A Rule) (stopped : Stopped) → or_stop p a ≡ Err stopped → stopped.read ≡ p
stopped_at p (Ok x) stopped e = absurd cc
stopped_at p (Err rule) stopped e = let same : record { read = p; rule = rule } ≡ stopped = cc in sym (ap (λ (s : Stopped). s.read) same)

record_grows : (p : Progress) (octets : List ℕ) (x : Progress × List ℕ) → read_record p octets ≡ Ok x → (new : List Event) × (x.0.events ≡ p.events ++ new)
unfolding read_record
record_grows p octets x e = from_record p (record_at octets) x e

record_stops : (p : Progress) (octets : List ℕ) (stopped : Stopped) → read_record p octets ≡ Err stopped → stopped.read ≡ p
unfolding read_record
record_stops p octets stopped e = stopped_at p (record_at octets >>= λ r. record_in p.peers r.0 >>= λ told. Ok (counted p told, r.1)) stopped e

-- what comes of steps begins with what was read before them
abbrev Grows : Progress → Result Progress Stopped → Type 0
Grows p result = (rest : List Event) × ((read_part result).events ≡ p.events ++ rest)

steps_grow : (n : ℕ) (p : Progress) (octets : List ℕ) → Grows p (steps read_record n p octets)
unfolding steps
steps_grow n p [] = ([], sym (append-nil p.events))
steps_grow zero p (b ∷ octets) = ([], sym (append-nil p.events))
steps_grow (suc n) p (b ∷ octets) = by_step (read_record p (b ∷ octets)) refl (steps_grow n)
  where
    by_step : (r : Result (Progress × List ℕ) Stopped) → read_record p (b ∷ octets) ≡ r → ((q : Progress) (left : List ℕ) → Grows q (steps read_record n q left)) → Grows p (r >>= λ x. steps read_record n x.0 x.1)
    by_step (Ok x) e ih =
        let one = record_grows p (b ∷ octets) x e in
        let more = ih x.0 x.1 in
        (one.0 ++ more.0, more.1 ∙ (ap (λ es. es ++ more.0) one.1 ∙ append_assoc p.events one.0 more.0))
    by_step (Err stopped) e ih = ([], ap (λ (q : Progress). q.events) (record_stops p (b ∷ octets) stopped e) ∙ sym (append-nil p.events))

pub input_grows : (octets left : List ℕ) (read : Progress) → ReadsEvents octets read left → Grows read (input octets)
input_grows octets left read r =
    let same : input octets ≡ until_end read_record read (left ++ []) = ap input (sym (append-nil octets)) ∙ r.whatever [] in
    subst (Grows read) (sym same) (steps_grow (length (left ++ [])) read (left ++ []))

-- ---- what is due, where it is told

-- what an input brings, where it is told
abbrev pub due_of : Sizes → List Vrp → MrtInput → List Elem → Option (List ℕ) → Result Feed Stop
due_of z vrps which before o = told_content o >>= feed_of z vrps which before

pub refused_is : (d : Result Feed Stop) (o : Outcome) → d ≡ Err (Refused o) → IsDueIfTold d (Err (Refused o))
refused_is d o e = rw e refl

pub brought_is : (d : Result Feed Stop) (feed : Feed) → d ≡ Ok feed → IsDueIfTold d (Ok feed)
brought_is d feed e = rw e refl

reads_all : (c fed rest left : List ℕ) (read : Progress) → octets_read c ≡ fed ++ rest → ReadsEvents fed read left → ReadsEvents (octets_read c) read (left ++ rest)
reads_all c fed rest left read e r = subst (λ xs. ReadsEvents xs read (left ++ rest)) (sym e) (reading_feeds fed rest left read r)

stop_due : (vrps : List Vrp) (which : MrtInput) (limits : Limits) (before : List Elem) (c left : List ℕ) (read : Progress) (n : ℕ) (r : Refusal) → ReadsEvents (octets_read c) read left → IsStopped which limits before (elems_in vrps before read) n r → feed_of limits.sizes vrps which before c ≡ Err (Refused (outcome_at (event_in which n) r))
unfolding feed_of
stop_due vrps which limits before c left read n r reads stopped =
    let octets : List ℕ = octets_read c in
    let f = too_much which limits.sizes in
    let grown = input_grows octets left read reads in
    let all : elems_in vrps before (read_part (input octets)) ≡ elems_in vrps before read ++ next_elems before (elems_in vrps before read) (left_of vrps grown.0) = sym (in_more vrps before read (read_part (input octets)) grown.0 grown.1) in
    let at : stop_at f before (elems_in vrps before (read_part (input octets))) ≡ Some (n, r) = ap (stop_at f before) all ∙ stop_in_front f before (elems_in vrps before read) (next_elems before (elems_in vrps before read) (left_of vrps grown.0)) (n, r) stopped in
    rw at refl

-- ---- refusals

refused_stop : {rows : List (Announced × Vrp)} (vrps : List Vrp) (which : MrtInput) (limits : Limits) (before : List Elem) (c fed : List ℕ) (at : ℕ) (old new : Reader) (mid state : State) (events : ℕ) (more : List Event) (n : ℕ) (r : Refusal) → Comes fed at c → (g : Going vrps which limits before fed old mid events rows) → reading.TakesEvents old more new
    → IsStopped which limits before (elems_in vrps before g.read ++ next_elems before (elems_in vrps before g.read) (left_of vrps more)) n r → feed_of limits.sizes vrps which before c ≡ Err (Refused (outcome_at (event_in which n) r))
refused_stop vrps which limits before c fed at old new mid state events more n r comes g t stopped =
    let next : Progress = record { peers = reading.peers new; events = g.read.events ++ more; records = new.records; skipped = new.skipped; treated = new.treated } in
    let now = subst (λ es. IsStopped which limits before es n r) (in_more vrps before g.read next more refl) stopped in
    let reads = reads_all c fed (octets_from at c) (reading.reader_left new) next comes (reads_on fed next new t.refuses (t.stands fed g.read g.stands)) in
    stop_due vrps which limits before c (reading.reader_left new ++ octets_from at c) next n r reads now

pub refused_hops : {rows : List (Announced × Vrp)} (vrps : List Vrp) (which : MrtInput) (limits : Limits) (before : List Elem) (o : Option (List ℕ)) (fed : List ℕ) (at : ℕ) (old new : Reader) (mid state : State) (events : ℕ) (more : List Event) (error : FeedError) → IfSome o (Comes fed at) → Going vrps which limits before fed old mid events rows → reading.TakesEvents old more new → StateTakesAll which events (left_of vrps more) mid (Err error) state
    → FailsDue (feed_outcome which error) (due_of limits.sizes vrps which before o)
refused_hops vrps which limits before None fed at old new mid state events more (HopsFull n) comes g t taken = tt
refused_hops vrps which limits before (Some c) fed at old new mid state events more (HopsFull n) comes g t taken =
    refused_is (feed_of limits.sizes vrps which before c) (outcome.HopsFull (event_in which n)) (refused_stop vrps which limits before c fed at old new mid state events more n ManyHops comes g t (taken limits before (elems_in vrps before g.read) g.counted g.held))
refused_hops vrps which limits before None fed at old new mid state events more (TrieFull n full) comes g t taken = tt
refused_hops vrps which limits before (Some c) fed at old new mid state events more (TrieFull n full) comes g t taken =
    refused_is (feed_of limits.sizes vrps which before c) (outcome.TrieFull (event_in which n) full.need full.have full.arena) (refused_stop vrps which limits before c fed at old new mid state events more n (Short (shortage_as full)) comes g t (taken limits before (elems_in vrps before g.read) g.counted g.held))
refused_hops vrps which limits before o fed at old new mid state events more (Malformed malformed) comes g t taken = absurd taken
refused_hops vrps which limits before o fed at old new mid state events more Fault comes g t taken = absurd taken
refused_hops vrps which limits before o fed at old new mid state events more TooLarge comes g t taken = absurd taken
refused_hops vrps which limits before o fed at old new mid state events more NoMemory comes g t taken = tt

feeds_bad : (which : MrtInput) (o : Option (ℕ × Refusal)) (b : Bool) (stopped : Stopped) (f : Progress → Result Feed Stop) → o ≡ None → b ≡ false → unless_stopped which o (bad_record which b stopped >>= f) ≡ Err (Refused (outcome.Malformed (input_of which) stopped.read.records (rule_number stopped.rule)))
feeds_bad which None false stopped f o b = refl
feeds_bad which None true stopped f o b = absurd cc
feeds_bad which (Some n) b stopped f o e = absurd cc

feeds_large : (which : MrtInput) (o : Option (ℕ × Refusal)) (b : Bool) (stopped : Stopped) (f : Progress → Result Feed Stop) → o ≡ None → b ≡ true → unless_stopped which o (bad_record which b stopped >>= f) ≡ Err (Refused (outcome.TooLarge (input_of which)))
feeds_large which None true stopped f o b = refl
feeds_large which None false stopped f o b = absurd cc
feeds_large which (Some n) b stopped f o e = absurd cc

feeds_all : (which : MrtInput) (o : Option (ℕ × Refusal)) (b : Bool) (read : Progress) (f : Progress → Result Feed Stop) → o ≡ None → b ≡ true → unless_stopped which o (all_records which b read >>= f) ≡ f read
feeds_all which None true read f o b = refl
feeds_all which None false read f o b = absurd cc
feeds_all which (Some n) b read f o e = absurd cc

feeds_past : (which : MrtInput) (o : Option (ℕ × Refusal)) (b : Bool) (read : Progress) (f : Progress → Result Feed Stop) → o ≡ None → b ≡ false → unless_stopped which o (all_records which b read >>= f) ≡ Err (Refused (outcome.TooLarge (input_of which)))
feeds_past which None false read f o b = refl
feeds_past which None true read f o b = absurd cc
feeds_past which (Some n) b read f o e = absurd cc

-- what is due of what was read
abbrev due_in : Sizes → List Vrp → MrtInput → List Elem → List ℕ → Result Progress Stopped → Result Feed Stop
due_in z vrps which before c r = unless_stopped which (stop_at (too_much which z) before (elems_in vrps before (read_part r))) (whole_records which (is_small c) (is_cut (octets_read c)) r >>= λ read. Ok (feed_in vrps before read))

due_is : (z : Sizes) (vrps : List Vrp) (which : MrtInput) (before : List Elem) (c : List ℕ) (r : Result Progress Stopped) → input (octets_read c) ≡ r → feed_of z vrps which before c ≡ due_in z vrps which before c r
unfolding feed_of
due_is z vrps which before c r e = ap (due_in z vrps which before c) e

pub fault_due : (vrps : List Vrp) (which : MrtInput) (limits : Limits) (before : List Elem) (c : List ℕ) (read : Progress) (malformed : code_malformed.Malformed) (state : State) → StateStands which limits before (elems_in vrps before read) state → malformed.number ≡ read.records → input (octets_read c) ≡ Err (record { read = read; rule = malformed.rule }) → (not (is_small c) && is_cut (octets_read c) read.records) ≡ false
    → feed_of limits.sizes vrps which before c ≡ Err (Refused (outcome.Malformed (input_of which) malformed.number (rule_number malformed.rule)))
fault_due vrps which limits before c read malformed state s n e cut =
    due_is limits.sizes vrps which before c (Err (record { read = read; rule = malformed.rule })) e
    ∙ feeds_bad which (stop_at (too_much which limits.sizes) before (elems_in vrps before read)) (not (is_small c) && is_cut (octets_read c) read.records) (record { read = read; rule = malformed.rule }) (λ read. Ok (feed_in vrps before read)) s.fits cut
    ∙ ap (λ k. Err (Refused (outcome.Malformed (input_of which) k (rule_number malformed.rule)))) (sym n)

pub going_still : {rows : List (Announced × Vrp)} (vrps : List Vrp) (which : MrtInput) (limits : Limits) (before : List Elem) (octets : List ℕ) (old new : Reader) (state : State) (events : ℕ) → Going vrps which limits before octets old state events rows → reading.ReaderTakesNothing old new → Going vrps which limits before octets new state events rows
going_still vrps which limits before octets old new state events g nothing = record { read = g.read; stands = nothing.stands octets g.read g.stands; counted = g.counted; held = g.held; noted = g.noted }

pub going_feeds : {rows : List (Announced × Vrp)} (vrps : List Vrp) (which : MrtInput) (limits : Limits) (before : List Elem) (octets piece : List ℕ) (old new : Reader) (state : State) (events : ℕ) → Going vrps which limits before octets old state events rows → reading.ReaderFeeds old piece new → Going vrps which limits before (octets ++ piece) new state events rows
going_feeds vrps which limits before octets piece old new state events g feeds = record { read = g.read; stands = feeds.stands octets g.read g.stands; counted = g.counted; held = g.held; noted = g.noted }

-- ---- the end

pub whole_due : (vrps : List Vrp) (which : MrtInput) (limits : Limits) (before : List Elem) (c : List ℕ) (read : Progress) (state : State) → StateStands which limits before (elems_in vrps before read) state → input (octets_read c) ≡ Ok read → is_small c ≡ true → feed_of limits.sizes vrps which before c ≡ Ok (feed_in vrps before read)
whole_due vrps which limits before c read state s e small =
    due_is limits.sizes vrps which before c (Ok read) e
    ∙ feeds_all which (stop_at (too_much which limits.sizes) before (elems_in vrps before read)) (is_small c) read (λ read. Ok (feed_in vrps before read)) s.fits small

pub past_due : (vrps : List Vrp) (which : MrtInput) (limits : Limits) (before : List Elem) (c : List ℕ) (read : Progress) (state : State) → StateStands which limits before (elems_in vrps before read) state → input (octets_read c) ≡ Ok read → is_small c ≡ false → feed_of limits.sizes vrps which before c ≡ Err (Refused (outcome.TooLarge (input_of which)))
past_due vrps which limits before c read state s e large =
    due_is limits.sizes vrps which before c (Ok read) e
    ∙ feeds_past which (stop_at (too_much which limits.sizes) before (elems_in vrps before read)) (is_small c) read (λ read. Ok (feed_in vrps before read)) s.fits large

pub cut_due : (vrps : List Vrp) (which : MrtInput) (limits : Limits) (before : List Elem) (c : List ℕ) (read : Progress) (rule : Rule) (state : State) → StateStands which limits before (elems_in vrps before read) state → input (octets_read c) ≡ Err (record { read = read; rule = rule }) → (not (is_small c) && is_cut (octets_read c) read.records) ≡ true → feed_of limits.sizes vrps which before c ≡ Err (Refused (outcome.TooLarge (input_of which)))
cut_due vrps which limits before c read rule state s e cut =
    due_is limits.sizes vrps which before c (Err (record { read = read; rule = rule })) e
    ∙ feeds_large which (stop_at (too_much which limits.sizes) before (elems_in vrps before read)) (not (is_small c) && is_cut (octets_read c) read.records) (record { read = read; rule = rule }) (λ read. Ok (feed_in vrps before read)) s.fits cut
