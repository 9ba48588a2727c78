-- The counts of an input stay within 64 bits, since an input has few octets.
use Rattle.std.proofs.Common.{Global, ◌≡◌, ℕ, ◌+◌, ◌*◌, ◌^◌, ◌≤◌, ◌<◌, List, [], ◌∷◌, ◌++◌, length, map, Result, Ok, Err, refl, sym, ap, ◌∙◌, arith, subst, length-append, append-nil}
use Rattle.std.specs.Prelude.{MatchResult}
use Rattle.std.proofs.lemmas.List.{length-map}
use Rattle.std.proofs.lemmas.List.Sums.{fold-append}
use Rattle.route_model.specs.Events.{Elem, Event}
use Rattle.route_model.specs.Choice.{Candidates, after_elem, after_elems, elems_of, elems_after}
use Rattle.route_model.proofs.Elems.{elems_more}
use Rattle.printed_text.specs.Rows.{Vrp}
use Rattle.fib_rov.specs.Rov.{left_of}
use Rattle.fib_rov.proofs.JudgedLists.{left_many, left_more}
use Rattle.fib_report.specs.declared.run.Invalid.{Invalid}
use Rattle.std.specs.declared.vec.Vec.{Vec}
use Rattle.wire_model.specs.Input.{Progress, Stopped, start, input}
use Rattle.wire_model.specs.Reading.{ReadsEvents}
use Rattle.mrt_read.specs.Standing as reading
use Rattle.mrt_read.specs.declared.reader.Reader.{Reader}
use Rattle.fib_run.specs.Counts.{CountsFit, CountsOn, AreBounded}
use Rattle.fib_due.specs.Due.{read_part}
use Rattle.mrt_read.proofs.Cutting.{reads_on}
use Rattle.fib_run.proofs.Feeding.{input_grows}
use Rattle.fib_run.proofs.FewElems.{events_few}
use Rattle.fib_run.proofs.FewEvents.{HasRoom, input_within}

-- this much of the input was read, and the elementary events of it were counted behind these candidates
pub record Counting (vrps : List Vrp) (octets : List ℕ) (held : Candidates) (reader : Reader) (now : Candidates) (events : ℕ) : Type 0 where
  pub read : Progress
  pub stands : reading.ReaderStands octets read reader
  pub taken : CountsOn held (left_of vrps read.events) 0 events now

-- ---- what was read is no more than the octets

part_room : (n : ℕ) (r : Result Progress Stopped) → MatchResult r (λ p. HasRoom n p []) (λ s. HasRoom n s.read []) → HasRoom n (read_part r) []
part_room n (Ok read) h = h
part_room n (Err stopped) h = h

few_read : (octets left : List ℕ) (read : Progress) → ReadsEvents octets read left → length read.events ≤ length octets
few_read octets left read r =
    let grown = input_grows octets left read r in
    let room : HasRoom (length octets) (read_part (input octets)) [] = part_room (length octets) (input octets) (input_within octets) in
    omega (arith, room.events, ap length grown.1, length-append read.events grown.0)

whole_room : (octets : List ℕ) (read : Progress) → input octets ≡ Ok read → HasRoom (length octets) read []
whole_room octets read e = subst (λ r. HasRoom (length octets) (read_part r) []) e (part_room (length octets) (input octets) (input_within octets))

-- ---- more events

counts_more : (held mid now : Candidates) (xs ys : List Event) (count n m : ℕ) → CountsOn held xs count n mid → CountsOn mid ys n m now → CountsOn held (xs ++ ys) count m now
counts_more held mid now xs ys count n m a b =
    let first : List Elem = elems_after held xs in
    let later : List Elem = elems_after (after_elems held first) ys in
    let at : elems_after mid ys ≡ later = ap (λ h. elems_after h ys) a.candidates in
    let all : elems_after held (xs ++ ys) ≡ first ++ later = elems_more held xs ys in
    record {
      count = omega (arith, a.count, b.count, ap length at, ap length all, length-append first later);
      candidates = b.candidates ∙ (ap (after_elems mid) at ∙ (ap (λ h. after_elems h later) a.candidates ∙ (sym (fold-append after_elem held first later) ∙ ap (after_elems held) (sym all))));
    }

pub counts_none : (held : Candidates) (count : ℕ) → CountsOn held [] count count held
unfolding elems_after
counts_none held count = record { count = omega arith; candidates = refl }

pub counts_next : (held mid now : Candidates) (front : List Event) (event : Event) (all : List Event) (count n m : ℕ) → CountsOn held front count n mid → CountsOn mid (event ∷ []) n m now → all ≡ front ++ event ∷ [] → CountsOn held all count m now
counts_next held mid now front event all count n m a b next = subst (λ es. CountsOn held es count m now) (sym next) (counts_more held mid now front (event ∷ []) count n m a b)

-- those of the next events fit where those of all do
pub fits_next : (held mid : Candidates) (front next rest all : List Event) (count n : ℕ) → CountsFit held all count → CountsOn held front count n mid → (front ++ next) ++ rest ≡ all → CountsFit mid next n
fits_next held mid front next rest all count n fits a same =
    let first : List Elem = elems_after held front in
    let later : List Elem = elems_after (after_elems held first) next in
    let at : elems_after mid next ≡ later = ap (λ h. elems_after h next) a.candidates in
    let both : elems_after held (front ++ next) ≡ first ++ later = elems_more held front next in
    let last : List Elem = elems_after (after_elems held (elems_after held (front ++ next))) rest in
    let whole : elems_after held ((front ++ next) ++ rest) ≡ elems_after held (front ++ next) ++ last = elems_more held (front ++ next) rest in
    omega (arith, fits, a.count, ap length at, ap length both, length-append first later, ap length whole, length-append (elems_after held (front ++ next)) last, ap (λ es. length (elems_after held es)) same)

-- ---- one event

-- the elementary events of one event are those that the candidates give
one_event : (held : Candidates) (event : Event) → elems_after held (event ∷ []) ≡ elems_of held event
unfolding elems_after
one_event held event = append-nil (elems_of held event)

pub counts_one : (held now : Candidates) (event : Event) (elems : List Elem) (before after : ℕ) → elems ≡ elems_of held event → after ≡ before + length elems → now ≡ after_elems held elems → CountsOn held (event ∷ []) before after now
counts_one held now event elems before after is count candidates =
    let same : elems ≡ elems_after held (event ∷ []) = is ∙ sym (one_event held event) in
    record { count = count ∙ ap (λ es. before + length es) same; candidates = candidates ∙ ap (after_elems held) same }

pub counted_push : (before count : ℕ) (front : List Elem) (elem : Elem) (all : List Elem) → count ≡ before + length front → all ≡ front ++ elem ∷ [] → count + 1 ≡ before + length all
counted_push before count front elem all counted next = omega (arith, counted, ap length next, length-append front (elem ∷ []))

-- one elementary event more of those of a list that fits
pub fits_in_all : {A : Type 0} (view : A → Elem) (items : List A) (front rest : List Elem) (elem : Elem) (before count : ℕ) → before + length items < 2 ^ 64 → (front ++ elem ∷ []) ++ rest ≡ map view items → count ≡ before + length front → count + 1 < 2 ^ 64
fits_in_all view items front rest elem before count fits same counted =
    omega (arith, fits, counted, ap length same, length-map items view, length-append (front ++ elem ∷ []) rest, length-append front (elem ∷ []))

-- the elementary events of an event fit where it does
pub fits_elems : {A : Type 0} (view : A → Elem) (items : List A) (held : Candidates) (event : Event) (before : ℕ) → CountsFit held (event ∷ []) before → map view items ≡ elems_of held event → before + length items < 2 ^ 64
fits_elems view items held event before fits are = omega (arith, fits, ap length are, ap length (one_event held event), length-map items view)

-- ---- the input

pub counting_start : (vrps : List Vrp) (octets : List ℕ) (held : Candidates) (reader : Reader) → reading.ReaderStands octets start reader → Counting vrps octets held reader held 0
unfolding left_of
counting_start vrps octets held reader s = record { read = start; stands = s; taken = counts_none held 0 }

-- ---- one record more

pub counting_next : (vrps : List Vrp) (octets : List ℕ) (held mid now : Candidates) (old new : Reader) (events n : ℕ) (more : List Event) → Counting vrps octets held old mid events → reading.TakesEvents old more new → CountsOn mid (left_of vrps more) events n now → Counting vrps octets held new now n
counting_next vrps octets held mid now old new events n more g t c = record {
  read = record { peers = reading.peers new; events = g.read.events ++ more; records = new.records; skipped = new.skipped; treated = new.treated };
  stands = t.stands octets g.read g.stands;
  taken = subst (λ es. CountsOn held es 0 n now) (sym (left_more vrps g.read.events more)) (counts_more held mid now (left_of vrps g.read.events) (left_of vrps more) 0 events n g.taken c);
}

pub counting_fits : (vrps : List Vrp) (octets : List ℕ) (held mid : Candidates) (old new : Reader) (events : ℕ) (more : List Event) → length held + 2 * length octets < 2 ^ 64 → Counting vrps octets held old mid events → reading.TakesEvents old more new → CountsFit mid (left_of vrps more) events
counting_fits vrps octets held mid old new events more room g t =
    let next : Progress = record { peers = reading.peers new; events = g.read.events ++ more; records = new.records; skipped = new.skipped; treated = new.treated } in
    let few : length (g.read.events ++ more) ≤ length octets = few_read octets (reading.reader_left new) next (reads_on octets next new t.refuses (t.stands octets g.read g.stands)) in
    let front : List Event = left_of vrps g.read.events in
    let left : List Event = left_of vrps more in
    let many : length (front ++ left) ≡ length (g.read.events ++ more) = ap length (sym (left_more vrps g.read.events more)) ∙ left_many vrps (g.read.events ++ more) in
    let first : List Elem = elems_after held front in
    let later : List Elem = elems_after (after_elems held first) left in
    let at : elems_after mid left ≡ later = ap (λ h. elems_after h left) g.taken.candidates in
    let all : elems_after held (front ++ left) ≡ first ++ later = elems_more held front left in
    omega (arith, room, few, many, g.taken.count, ap length at, ap length all, length-append first later, events_few held (front ++ left))

pub counting_still : (vrps : List Vrp) (octets : List ℕ) (held now : Candidates) (old new : Reader) (events : ℕ) → Counting vrps octets held old now events → reading.ReaderTakesNothing old new → Counting vrps octets held new now events
counting_still vrps octets held now old new events g nothing = record { read = g.read; stands = nothing.stands octets g.read g.stands; taken = g.taken }

pub counting_feeds : (vrps : List Vrp) (octets piece : List ℕ) (held now : Candidates) (old new : Reader) (events : ℕ) → Counting vrps octets held old now events → reading.ReaderFeeds old piece new → Counting vrps (octets ++ piece) held new now events
counting_feeds vrps octets piece held now old new events g feeds = record { read = g.read; stands = feeds.stands octets g.read g.stands; taken = g.taken }

-- ---- the end

pub counting_end : (vrps : List Vrp) (invalid : Vec Invalid Global) (octets : List ℕ) (held now : Candidates) (reader : Reader) (events records skipped treated : ℕ) → length octets ≤ 2 ^ 36 → Counting vrps octets held reader now events → reading.ReaderTells reader (Ok tt) → records ≡ reader.records → skipped ≡ reader.skipped → treated ≡ reader.treated
    → AreBounded (2 ^ 36) held (record { records = records; skipped = skipped; events = events; treated = treated; invalid = invalid }) now
counting_end vrps invalid octets held now reader events records skipped treated most g t r k w =
    let room : HasRoom (length octets) g.read [] = whole_room octets g.read (t octets g.read g.stands) in
    record {
      records = omega (arith, most, room.records, r, g.stands.records);
      skipped = omega (arith, most, room.skipped, k, g.stands.skipped);
      treated = omega (arith, most, room.treated, w, g.stands.treated);
      events = omega (arith, most, room.events, left_many vrps g.read.events, g.taken.count, ap length g.taken.candidates, events_few held (left_of vrps g.read.events));
    }
