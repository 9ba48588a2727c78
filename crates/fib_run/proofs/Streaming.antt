-- An input that is taken piece by piece.
use Rattle.std.proofs.Common.{Global, append-nil, drop, subst, ◌≡◌, ℕ, ◌+◌, ◌^◌, ◌<◌, ◌≤◌, true, false, List, [], ◌∷◌, ◌++◌, length, map, take, Option, Some, None, Ok, Err, refl, sym, ap, ◌∙◌, inl, inr, arith, length-append, length-take}
use Rattle.std.specs.Prelude.{IfSome, ◌⊎◌}
use Rattle.std.proofs.lemmas.Bool.{le-leb, lt-leb}
use Rattle.route_model.specs.Events.{Elem, Event}
use Rattle.printed_text.specs.Rows.{Announced, Vrp}
use Rattle.fib_rov.specs.Rov.{invalid_in, left_of}
use Rattle.fib_rov.proofs.JudgedLists.{left_many}
use Rattle.std.proofs.lemmas.List.{drop_all, length-map, take_all}
use Rattle.fib_prefix.specs.Views.{event_as}
use Rattle.fib_prefix.specs.declared.event.Event as code_event
use Rattle.fib_report.specs.Views.{invalid_as}
use Rattle.fib_report.specs.declared.run.Invalid.{Invalid}
use Rattle.std.specs.declared.vec.Vec.{Vec}
use Rattle.wire_model.specs.declared.rule.Rule.{Rule}
use Rattle.wire_model.specs.declared.rule.Rule.TheVariants.{HeaderCut, BodyCut}
use Rattle.wire_model.specs.Rules.{rule_number}
use Rattle.wire_model.specs.Record.{Record, record_at, records_in}
use Rattle.wire_model.specs.Pieces.{TakesRecords}
use Rattle.wire_model.proofs.More.{starts_so, feeds_on, takes_on, ends_cut}
use Rattle.wire_model.specs.Input.{Progress, start, input}
use Rattle.wire_model.proofs.Reading.{reading_ends, reading_ends_cut}
use Rattle.fib_io.specs.Pieces.{octets_read, octets_from, ComeNext, IsEnd, IsLarge}
use Rattle.mrt_read.specs.Records.{fault_of}
use Rattle.mrt_read.specs.declared.framer.Malformed as code_malformed
use Rattle.mrt_read.specs.Standing as reading
use Rattle.mrt_read.specs.declared.reader.Reader.{Reader}
use Rattle.mrt_read.specs.declared.reader.EventsError.{EventsError}
use Rattle.mrt_read.specs.declared.reader.EventsError.TheVariants as read
use Rattle.mrt_read.specs.Cuts.{cut_at, is_cut, is_small}
use Rattle.mrt_read.proofs.Arriving.{Comes, all_fed, comes_first, comes_next, such_before}
use Rattle.mrt_read.proofs.Gathering.{goes_on}
use Rattle.mrt_read.proofs.Nexts.{as_piece}
use Rattle.mrt_read.specs.InputReading.{FeedsUpTo, IsNextRefused, TakesNext}
use Rattle.mrt_read.specs.Whole.{of_read}
use Rattle.mrt_read.specs.declared.whole.WholeError.{WholeError}
use Rattle.mrt_read.specs.declared.whole.WholeError.TheVariants as whole
use Rattle.mrt_read.proofs.Cutting.{IsCutNow, cut_rules, ends_here, goes_past, not_cut, reads_on, uncut}
use Rattle.fib_due.specs.declared.outcome.MrtInput.{MrtInput}
use Rattle.fib_due.specs.declared.outcome.Outcome.TheVariants as outcome
use Rattle.fib_run.specs.declared.state.State.{State}
use Rattle.fib_run.specs.declared.state.FeedError.{FeedError}
use Rattle.fib_run.specs.declared.state.FeedError.TheVariants.{Malformed, TooLarge}
use Rattle.fib_run.specs.Counts.{AreBounded, CountsFit, CountsOn}
use Rattle.fib_due.specs.Stops.{Refused, FailsDue, IsDueIfTold, input_of}
use Rattle.fib_due.specs.Refusals.{Limits, stop_at, too_much}
use Rattle.fib_due.specs.Due.{elems_in, feed_in, feed_of, read_part}
use Rattle.fib_due.specs.InTime.{FeedMayGoOn}
use Rattle.fib_run.specs.Standing.{StateStands, StateHas, StateBrings, StateTakesAll, next_elems, feed_of_read, feed_outcome}
use Rattle.fib_run.proofs.Counting.{Counting, counting_end, counting_feeds, counting_fits, counting_next, counting_start, counting_still}
use Rattle.fib_run.proofs.Feeding.{Going, due_of, going_start, going_next, going_still, going_feeds, refused_hops, refused_is, brought_is, fault_due, whole_due, past_due, cut_due}

-- So many octets of the input were fed: its records were counted behind these candidates, the state has what they bring, and the reader isn't refused.
pub record Streaming (vrps : List Vrp) (which : MrtInput) (content : Option (List ℕ)) (first : State) (reader : Reader) (state : State) (at events : ℕ) (rows : List (Announced × Vrp)) : Type 0 where
  pub fed : List ℕ
  pub octets : length fed ≡ at
  pub comes : IfSome content (Comes fed at)
  pub taken : List Record
  pub frames : TakesRecords fed taken (reading.reader_left reader)
  pub numbered : length taken ≡ reader.records
  pub none : reading.reader_refusal reader ≡ None
  pub counting : Counting vrps fed first.engine.candidates reader state.engine.candidates events
  pub going : (limits : Limits) (before : List Elem) → StateStands which limits before [] first → Going vrps which limits before fed reader state events rows

-- ---- the start

pub streaming_start : (vrps : List Vrp) (which : MrtInput) (content : Option (List ℕ)) (first : State) (reader : Reader) → reading.reader_left reader ≡ [] → reading.reader_refusal reader ≡ None → reading.ReaderStands [] start reader → Streaming vrps which content first reader first 0 0 []
streaming_start vrps which content first reader empty none s = record {
  fed = [];
  octets = refl;
  comes = comes_first content;
  taken = [];
  frames = rw empty starts_so;
  numbered = s.records;
  none = none;
  counting = counting_start vrps [] first.engine.candidates reader s;
  going = λ limits before stands. going_start vrps which limits before [] reader first s stands;
}

-- ---- a piece more

pub streaming_feeds : {rows : List (Announced × Vrp)} (vrps : List Vrp) (which : MrtInput) (content : Option (List ℕ)) (first : State) (old new : Reader) (state : State) (room : List ℕ) (at n events : ℕ) → n ≤ length room → IfSome content (λ c. ComeNext c at room n) → Streaming vrps which content first old state at events rows → reading.ReaderFeeds old (take n room) new → Streaming vrps which content first new state (at + n) events rows
streaming_feeds vrps which content first old new state room at n events h next s feeds = record {
  fed = s.fed ++ take n room;
  octets = omega (arith, s.octets, h, length-append s.fed (take n room), length-take n room);
  comes = comes_next content s.fed room at n s.comes next;
  taken = s.taken;
  frames = rw feeds.leaves (feeds_on s.fed (take n room) (reading.reader_left old) s.taken s.frames);
  numbered = s.numbered ∙ sym feeds.records;
  none = feeds.refuses ∙ s.none;
  counting = counting_feeds vrps s.fed (take n room) first.engine.candidates state.engine.candidates old new events s.counting feeds;
  going = λ limits before stands. going_feeds vrps which limits before s.fed (take n room) old new state events (s.going limits before stands) feeds;
}

-- ---- a record more

pub streaming_takes : {rows : List (Announced × Vrp)} (vrps : List Vrp) (which : MrtInput) (content : Option (List ℕ)) (first : State) (old new : Reader) (mid state : State) (at events n : ℕ) (more : List Event) → Streaming vrps which content first old mid at events rows → reading.TakesEvents old more new → CountsOn mid.engine.candidates (left_of vrps more) events n state.engine.candidates
    → ((limits : Limits) (before done : List Elem) → events ≡ length done → StateStands which limits before done mid → (n ≡ length (done ++ next_elems before done (left_of vrps more))) × StateStands which limits before (done ++ next_elems before done (left_of vrps more)) state)
    → Streaming vrps which content first new state at n (rows ++ invalid_in vrps more)
streaming_takes vrps which content first old new mid state at events n more s t c took = record {
  fed = s.fed;
  octets = s.octets;
  comes = s.comes;
  taken = s.taken ++ t.front.0 ∷ [];
  frames = takes_on s.fed (reading.reader_left old) (reading.reader_left new) s.taken t.front.0 s.frames t.front.1;
  numbered = omega (arith, s.numbered, t.counts, length-append s.taken (t.front.0 ∷ []));
  none = t.refuses;
  counting = counting_next vrps s.fed first.engine.candidates mid.engine.candidates state.engine.candidates old new events n more s.counting t c;
  going = λ limits before stands. going_next vrps which limits before s.fed old new mid state events n more (s.going limits before stands) t (λ done counted held. took limits before done counted held);
}

pub streaming_still : {rows : List (Announced × Vrp)} (vrps : List Vrp) (which : MrtInput) (content : Option (List ℕ)) (first : State) (old new : Reader) (state : State) (at events : ℕ) → Streaming vrps which content first old state at events rows → reading.ReaderTakesNothing old new → Streaming vrps which content first new state at events rows
streaming_still vrps which content first old new state at events s nothing = record {
  fed = s.fed;
  octets = s.octets;
  comes = s.comes;
  taken = s.taken;
  frames = rw nothing.leaves s.frames;
  numbered = s.numbered ∙ sym nothing.records;
  none = nothing.refuses;
  counting = counting_still vrps s.fed first.engine.candidates state.engine.candidates old new events s.counting nothing;
  going = λ limits before stands. going_still vrps which limits before s.fed old new state events (s.going limits before stands) nothing;
}

pub streaming_fits : {rows : List (Announced × Vrp)} (vrps : List Vrp) (which : MrtInput) (content : Option (List ℕ)) (first : State) (old new : Reader) (mid : State) (at events : ℕ) (more : List Event) → length first.engine.candidates ≤ 2 ^ 40 → at ≤ 2 ^ 36 → Streaming vrps which content first old mid at events rows → reading.TakesEvents old more new → CountsFit mid.engine.candidates (left_of vrps more) events
streaming_fits vrps which content first old new mid at events more few within s t =
    counting_fits vrps s.fed first.engine.candidates mid.engine.candidates old new events more (omega (arith, few, within, s.octets)) s.counting t

-- ---- what was read, where nothing of it is refused

part_in : (fed left : List ℕ) (reader : Reader) (read : Progress) (rule : Rule) → reading.reader_left reader ≡ left → reading.ReaderStands fed read reader → reading.reader_refusal reader ≡ None → record_at left ≡ Err rule → read_part (input fed) ≡ read
part_in fed [] reader read rule is stands none e = ap read_part (reading_ends fed read (rw is at (reads_on fed read reader none stands)))
part_in fed (b ∷ left) reader read rule is stands none e = ap read_part (reading_ends_cut fed (b ∷ left) read rule (rw is at (reads_on fed read reader none stands)) (omega arith) e)

part_now : (fed : List ℕ) (reader : Reader) (read : Progress) → reading.ReaderStands fed read reader → reading.reader_refusal reader ≡ None → IsCutNow reader → read_part (input fed) ≡ read
part_now fed reader read stands none (inl e) = part_in fed (reading.reader_left reader) reader read HeaderCut refl stands none e
part_now fed reader read stands none (inr e) = part_in fed (reading.reader_left reader) reader read BodyCut refl stands none e

fed_on : {rows : List (Announced × Vrp)} (vrps : List Vrp) (which : MrtInput) (limits : Limits) (before : List Elem) (fed : List ℕ) (reader : Reader) (state : State) (events : ℕ) (taken : List Record) → Going vrps which limits before fed reader state events rows → TakesRecords fed taken (reading.reader_left reader) → length taken ≡ reader.records → reading.reader_refusal reader ≡ None → IsCutNow reader → FeedMayGoOn limits.sizes vrps which before fed
fed_on vrps which limits before fed reader state events taken g t n none cut = record {
  whole = goes_on fed reader g.read taken g.stands t n none cut;
  taken = ap (λ p. stop_at (too_much which limits.sizes) before (elems_in vrps before p)) (part_now fed reader g.read g.stands none cut) ∙ g.held.fits;
}

pub streaming_on : {rows : List (Announced × Vrp)} (vrps : List Vrp) (which : MrtInput) (content : Option (List ℕ)) (first : State) (reader : Reader) (state : State) (at events : ℕ) (limits : Limits) (before : List Elem) → at ≤ 2 ^ 36 → StateStands which limits before [] first → Streaming vrps which content first reader state at events rows → IsCutNow reader → IfSome content (λ c. FeedMayGoOn limits.sizes vrps which before (take at c))
streaming_on vrps which content first reader state at events limits before within stands s cut =
    such_before content s.fed at (FeedMayGoOn limits.sizes vrps which before) within s.octets s.comes (fed_on vrps which limits before s.fed reader state events s.taken (s.going limits before stands) s.frames s.numbered s.none cut)

-- ---- refusals

read_fault : {rows : List (Announced × Vrp)} (vrps : List Vrp) (which : MrtInput) (limits : Limits) (before : List Elem) (c fed rest : List ℕ) (old new : Reader) (state : State) (events : ℕ) (taken : List Record) (malformed : code_malformed.Malformed) → octets_read c ≡ fed ++ rest → Going vrps which limits before fed old state events rows → TakesRecords fed taken (reading.reader_left old) → length taken ≡ old.records
    → reading.reader_refusal old ≡ None → reading.reader_next old ≡ Err (fault_of malformed) → reading.ReaderRefuses old (fault_of malformed) new → feed_of limits.sizes vrps which before c ≡ Err (Refused (outcome.Malformed (input_of which) malformed.number (rule_number malformed.rule)))
read_fault vrps which limits before c fed rest old new state events taken malformed e g t n none next r =
    let s = r.stands fed g.read g.stands in
    let no = rw r.refuses at s.refuses in
    let cut : is_cut (octets_read c) g.read.records ≡ false = rw (e, g.stands.records) (uncut fed rest old taken (fault_of malformed) t n none next) in
    fault_due vrps which limits before c g.read malformed state g.held no.0 (ap input e ∙ no.1.whatever rest) (not_cut (is_small c) (is_cut (octets_read c) g.read.records) cut)

pub refused_read : {rows : List (Announced × Vrp)} (vrps : List Vrp) (which : MrtInput) (limits : Limits) (before : List Elem) (content : Option (List ℕ)) (first : State) (old new : Reader) (state : State) (at events : ℕ) (more : List Event) (error : EventsError) → StateStands which limits before [] first → Streaming vrps which content first old state at events rows → reading.ReaderFills (Err error) more (reading.reader_next old) → reading.ReaderFilled old (Err error) more new → FailsDue (feed_outcome which (feed_of_read (of_read error))) (due_of limits.sizes vrps which before content)
refused_read vrps which limits before None first old new state at events more (read.Malformed malformed) stands s next t = tt
refused_read vrps which limits before (Some c) first old new state at events more (read.Malformed malformed) stands s next t =
    refused_is (feed_of limits.sizes vrps which before c) (outcome.Malformed (input_of which) malformed.number (rule_number malformed.rule)) (read_fault vrps which limits before c s.fed (octets_from at c) old new state events s.taken malformed s.comes (s.going limits before stands) s.frames s.numbered s.none next t)
refused_read vrps which limits before content first old new state at events more read.NoMemory stands s next t = tt

pub refused_event : {rows : List (Announced × Vrp)} (vrps : List Vrp) (which : MrtInput) (limits : Limits) (before : List Elem) (content : Option (List ℕ)) (first : State) (old new : Reader) (mid state : State) (at events : ℕ) (more : List Event) (error : FeedError) → StateStands which limits before [] first → Streaming vrps which content first old mid at events rows → reading.TakesEvents old more new → StateTakesAll which events (left_of vrps more) mid (Err error) state → FailsDue (feed_outcome which error) (due_of limits.sizes vrps which before content)
refused_event vrps which limits before content first old new mid state at events more error stands s t taken = refused_hops vrps which limits before content s.fed at old new mid state events more error s.comes (s.going limits before stands) t taken

-- ---- the same of events that are judged

-- as many are left
pub left_whole : (vrps : List Vrp) (items new old : List code_event.Event) (len : ℕ) → map event_as new ≡ left_of vrps (map event_as old) → old ≡ items → length items ≤ len → map event_as (take len (new ++ drop (length new) items)) ≡ left_of vrps (map event_as items)
left_whole vrps items new old len is same few =
    let many : length new ≡ length items = sym (length-map new event_as) ∙ (ap length is ∙ (left_many vrps (map event_as old) ∙ (length-map old event_as ∙ ap length same))) in
    let none : drop (length new) items ≡ [] = drop_all (length new) items (omega (arith, many)) in
    let all : take len (new ++ drop (length new) items) ≡ new = ap (λ es. take len (new ++ es)) none ∙ (ap (take len) (append-nil new) ∙ take_all len new (omega (arith, many, few))) in
    ap (map event_as) all ∙ (is ∙ ap (λ es. left_of vrps (map event_as es)) same)

pub judged_fits : {rows : List (Announced × Vrp)} (vrps : List Vrp) (which : MrtInput) (content : Option (List ℕ)) (first : State) (old new : Reader) (mid : State) (at events : ℕ) (more left : List Event) → left ≡ left_of vrps more → length first.engine.candidates ≤ 2 ^ 40 → at ≤ 2 ^ 36 → Streaming vrps which content first old mid at events rows → reading.TakesEvents old more new → CountsFit mid.engine.candidates left events
judged_fits vrps which content first old new mid at events more left is few within s t = subst (λ es. CountsFit mid.engine.candidates es events) (sym is) (streaming_fits vrps which content first old new mid at events more few within s t)

pub judged_takes : {rows now : List (Announced × Vrp)} (vrps : List Vrp) (which : MrtInput) (content : Option (List ℕ)) (first : State) (old new : Reader) (mid state : State) (at events n : ℕ) (more left : List Event) → left ≡ left_of vrps more → now ≡ rows ++ invalid_in vrps more → Streaming vrps which content first old mid at events rows → reading.TakesEvents old more new
    → CountsOn mid.engine.candidates left events n state.engine.candidates
    → ((limits : Limits) (before done : List Elem) → events ≡ length done → StateStands which limits before done mid → (n ≡ length (done ++ next_elems before done left)) × StateStands which limits before (done ++ next_elems before done left) state)
    → Streaming vrps which content first new state at n now
judged_takes vrps which content first old new mid state at events n more left is grown s t c took =
    subst (λ rs. Streaming vrps which content first new state at n rs) (sym grown)
    (streaming_takes vrps which content first old new mid state at events n more s t (subst (λ es. CountsOn mid.engine.candidates es events n state.engine.candidates) is c)
    (λ limits before done counted held. subst (λ es. (n ≡ length (done ++ next_elems before done es)) × StateStands which limits before (done ++ next_elems before done es) state) is (took limits before done counted held)))

pub judged_event : {rows : List (Announced × Vrp)} (vrps : List Vrp) (which : MrtInput) (limits : Limits) (before : List Elem) (content : Option (List ℕ)) (first : State) (old new : Reader) (mid state : State) (at events : ℕ) (more left : List Event) (error : FeedError) → left ≡ left_of vrps more → StateStands which limits before [] first → Streaming vrps which content first old mid at events rows → reading.TakesEvents old more new
    → StateTakesAll which events left mid (Err error) state → FailsDue (feed_outcome which error) (due_of limits.sizes vrps which before content)
judged_event vrps which limits before content first old new mid state at events more left error is stands s t taken = refused_event vrps which limits before content first old new mid state at events more error stands s t (subst (λ es. StateTakesAll which events es mid (Err error) state) is taken)

-- ---- the end

pub refused_end : {rows : List (Announced × Vrp)} (vrps : List Vrp) (which : MrtInput) (limits : Limits) (before : List Elem) (content : Option (List ℕ)) (first : State) (reader : Reader) (state : State) (at events : ℕ) (malformed : code_malformed.Malformed) → IfSome content (λ c. IsEnd c at) → StateStands which limits before [] first → Streaming vrps which content first reader state at events rows → reading.ReaderTells reader (Err malformed) → FailsDue (feed_outcome which (Malformed malformed)) (due_of limits.sizes vrps which before content)
refused_end vrps which limits before None first reader state at events malformed end stands s t = tt
refused_end vrps which limits before (Some c) first reader state at events malformed end stands s t =
    let g = s.going limits before stands in
    let f = t s.fed g.read g.stands in
    let same = all_fed c s.fed at end.0 s.comes in
    refused_is (feed_of limits.sizes vrps which before c) (outcome.Malformed (input_of which) malformed.number (rule_number malformed.rule)) (fault_due vrps which limits before c g.read malformed state g.held f.0 (ap input same ∙ f.1) (ends_here (is_small c) (is_cut (octets_read c) g.read.records) (le-leb (length c) (2 ^ 36) end.1)))

pub brings_all : (invalid : Vec Invalid Global) (vrps : List Vrp) (which : MrtInput) (limits : Limits) (before : List Elem) (content : Option (List ℕ)) (first : State) (reader : Reader) (state : State) (at events records skipped treated : ℕ) → IfSome content (λ c. IsEnd c at) → StateStands which limits before [] first → Streaming vrps which content first reader state at events (map invalid_as invalid.items) → reading.ReaderTells reader (Ok tt) → records ≡ reader.records → skipped ≡ reader.skipped → treated ≡ reader.treated
    → StateBrings which limits before (Ok (record { records = records; skipped = skipped; events = events; treated = treated; invalid = invalid })) state (due_of limits.sizes vrps which before content)
brings_all invalid vrps which limits before content first reader state at events records skipped treated end stands s t r k w =
    let g = s.going limits before stands in
    let has : StateHas which limits before (feed_in vrps before g.read) (record { records = records; skipped = skipped; events = events; treated = treated; invalid = invalid }) state = record {
      counted = record { records = r ∙ sym g.stands.records; skipped = k ∙ sym g.stands.skipped; treated = w ∙ sym g.stands.treated; events = g.counted; invalid = g.noted };
      stands = g.held;
    } in
    (feed_in vrps before g.read, has, is_due content end s.comes)
  where
    is_due : (o : Option (List ℕ)) → IfSome o (λ c. IsEnd c at) → IfSome o (Comes s.fed at) → IsDueIfTold (due_of limits.sizes vrps which before o) (Ok (feed_in vrps before (s.going limits before stands).read))
    is_due None end comes = tt
    is_due (Some c) end comes = brought_is (feed_of limits.sizes vrps which before c) _ (whole_due vrps which limits before c (s.going limits before stands).read state (s.going limits before stands).held (ap input (all_fed c s.fed at end.0 comes) ∙ t s.fed (s.going limits before stands).read (s.going limits before stands).stands) (le-leb (length c) (2 ^ 36) end.1))

pub few_all : {rows : List (Announced × Vrp)} (invalid : Vec Invalid Global) (vrps : List Vrp) (which : MrtInput) (content : Option (List ℕ)) (first : State) (reader : Reader) (state : State) (at events records skipped treated : ℕ) → at ≤ 2 ^ 36 → Streaming vrps which content first reader state at events rows → reading.ReaderTells reader (Ok tt) → records ≡ reader.records → skipped ≡ reader.skipped → treated ≡ reader.treated → AreBounded (2 ^ 36) first.engine.candidates (record { records = records; skipped = skipped; events = events; treated = treated; invalid = invalid }) state.engine.candidates
few_all invalid vrps which content first reader state at events records skipped treated within s t r k w = counting_end vrps invalid s.fed first.engine.candidates state.engine.candidates reader events records skipped treated (omega (arith, within, s.octets)) s.counting t r k w

-- ---- more octets than are read

large_in : {rows : List (Announced × Vrp)} (vrps : List Vrp) (which : MrtInput) (limits : Limits) (before : List Elem) (c fed : List ℕ) (reader : Reader) (state : State) (events : ℕ) (taken : List Record) (left : List ℕ) (rule : Rule) → reading.reader_left reader ≡ left → octets_read c ≡ fed → is_small c ≡ false → Going vrps which limits before fed reader state events rows → TakesRecords fed taken left → length taken ≡ reader.records → reading.reader_refusal reader ≡ None
    → record_at left ≡ Err rule → (rule ≡ HeaderCut) ⊎ (rule ≡ BodyCut) → feed_of limits.sizes vrps which before c ≡ Err (Refused (outcome.TooLarge (input_of which)))
large_in vrps which limits before c fed reader state events taken [] rule is same large g t n none e cut =
    past_due vrps which limits before c g.read state g.held (ap input same ∙ reading_ends fed g.read (rw is at (reads_on fed g.read reader none g.stands))) large
large_in vrps which limits before c fed reader state events taken (b ∷ left) rule is same large g t n none e cut =
    let some : 0 < length (b ∷ left) = omega arith in
    let is_cut_now : cut_at g.read.records (records_in (octets_read c)) ≡ true = rw same (ap (cut_at g.read.records) (ends_cut fed (b ∷ left) taken rule t some e) ∙ cut_rules (length taken) g.read.records rule (n ∙ sym g.stands.records) cut) in
    cut_due vrps which limits before c g.read rule state g.held (ap input same ∙ reading_ends_cut fed (b ∷ left) g.read rule (rw is at (reads_on fed g.read reader none g.stands)) some e) (goes_past (is_small c) (is_cut (octets_read c) g.read.records) large is_cut_now)

large_due : {rows : List (Announced × Vrp)} (vrps : List Vrp) (which : MrtInput) (limits : Limits) (before : List Elem) (c fed : List ℕ) (reader : Reader) (state : State) (events : ℕ) (taken : List Record) → octets_read c ≡ fed → is_small c ≡ false → Going vrps which limits before fed reader state events rows → TakesRecords fed taken (reading.reader_left reader) → length taken ≡ reader.records → reading.reader_refusal reader ≡ None → IsCutNow reader → feed_of limits.sizes vrps which before c ≡ Err (Refused (outcome.TooLarge (input_of which)))
large_due vrps which limits before c fed reader state events taken same large g t n none (inl e) = large_in vrps which limits before c fed reader state events taken (reading.reader_left reader) HeaderCut refl same large g t n none e (inl refl)
large_due vrps which limits before c fed reader state events taken same large g t n none (inr e) = large_in vrps which limits before c fed reader state events taken (reading.reader_left reader) BodyCut refl same large g t n none e (inr refl)

pub refused_large : {rows : List (Announced × Vrp)} (vrps : List Vrp) (which : MrtInput) (limits : Limits) (before : List Elem) (content : Option (List ℕ)) (first : State) (reader : Reader) (state : State) (at events : ℕ) → IfSome content (λ c. IsLarge c at) → StateStands which limits before [] first → Streaming vrps which content first reader state at events rows → IsCutNow reader → FailsDue (feed_outcome which TooLarge) (due_of limits.sizes vrps which before content)
refused_large vrps which limits before None first reader state at events large stands s cut = tt
refused_large vrps which limits before (Some c) first reader state at events large stands s cut =
    refused_is (feed_of limits.sizes vrps which before c) (outcome.TooLarge (input_of which)) (large_due vrps which limits before c s.fed reader state events s.taken (all_fed c s.fed at large.0 s.comes) (lt-leb (length c) (2 ^ 36) large.1) (s.going limits before stands) s.frames s.numbered s.none cut)

-- ---- a record after another, as a reader of the input gives them

pub streaming_fed : {rows : List (Announced × Vrp)} (vrps : List Vrp) (which : MrtInput) (content : Option (List ℕ)) (first : State) (old new : Reader) (state : State) (at to events : ℕ) → FeedsUpTo content at old to new → Streaming vrps which content first old state at events rows → Streaming vrps which content first new state to events rows
streaming_fed {rows = rows} vrps which content first old new state at to events fed s =
    let p = as_piece content at to old new fed in
    subst (λ (k : ℕ). Streaming vrps which content first new state k events rows) p.there (streaming_feeds vrps which content first old new state p.room at p.n events p.most p.comes s p.feeds)

pub next_fits : {rows : List (Announced × Vrp)} (vrps : List Vrp) (which : MrtInput) (content : Option (List ℕ)) (first : State) (old new : Reader) (mid : State) (at to events : ℕ) (more left : List Event) → left ≡ left_of vrps more → length first.engine.candidates ≤ 2 ^ 40 → to ≤ 2 ^ 36 → Streaming vrps which content first old mid at events rows → TakesNext content at old more to new → CountsFit mid.engine.candidates left events
next_fits vrps which content first old new mid at to events more left is few within s (fed, feeds, takes) = judged_fits vrps which content first fed new mid to events more left is few within (streaming_fed vrps which content first old fed mid at to events feeds s) takes

pub next_takes : {rows now : List (Announced × Vrp)} (vrps : List Vrp) (which : MrtInput) (content : Option (List ℕ)) (first : State) (old new : Reader) (mid state : State) (at to events n : ℕ) (more left : List Event) → left ≡ left_of vrps more → now ≡ rows ++ invalid_in vrps more → Streaming vrps which content first old mid at events rows → TakesNext content at old more to new → CountsOn mid.engine.candidates left events n state.engine.candidates
    → ((limits : Limits) (before done : List Elem) → events ≡ length done → StateStands which limits before done mid → (n ≡ length (done ++ next_elems before done left)) × StateStands which limits before (done ++ next_elems before done left) state)
    → Streaming vrps which content first new state to n now
next_takes vrps which content first old new mid state at to events n more left is grown s (fed, feeds, takes) counts took =
    judged_takes vrps which content first fed new mid state to events n more left is grown (streaming_fed vrps which content first old fed mid at to events feeds s) takes counts took

pub next_event : {rows : List (Announced × Vrp)} (vrps : List Vrp) (which : MrtInput) (limits : Limits) (before : List Elem) (content : Option (List ℕ)) (first : State) (old new : Reader) (mid state : State) (at to events : ℕ) (more left : List Event) (error : FeedError) → left ≡ left_of vrps more → StateStands which limits before [] first → Streaming vrps which content first old mid at events rows → TakesNext content at old more to new
    → StateTakesAll which events left mid (Err error) state → FailsDue (feed_outcome which error) (due_of limits.sizes vrps which before content)
next_event vrps which limits before content first old new mid state at to events more left error is stands s (fed, feeds, takes) refused =
    judged_event vrps which limits before content first fed new mid state to events more left error is stands (streaming_fed vrps which content first old fed mid at to events feeds s) takes refused

pub next_refused : {rows : List (Announced × Vrp)} (vrps : List Vrp) (which : MrtInput) (limits : Limits) (before : List Elem) (content : Option (List ℕ)) (first : State) (old new : Reader) (state : State) (at events : ℕ) (error : WholeError) → StateStands which limits before [] first → Streaming vrps which content first old state at events rows → IsNextRefused content at old error new → FailsDue (feed_outcome which (feed_of_read error)) (due_of limits.sizes vrps which before content)
next_refused vrps which limits before content first old new state at events (whole.Malformed malformed) stands s (to, fed, feeds, inl (next, refuses)) =
    refused_read vrps which limits before content first fed new state to events [] (read.Malformed malformed) stands (streaming_fed vrps which content first old fed state at to events feeds s) next refuses
next_refused vrps which limits before content first old new state at events (whole.Malformed malformed) stands s (to, fed, feeds, inr (end, tells)) =
    refused_end vrps which limits before content first fed state to events malformed end stands (streaming_fed vrps which content first old fed state at to events feeds s) tells
next_refused vrps which limits before content first old new state at events whole.TooLarge stands s (to, fed, feeds, cut, large) =
    refused_large vrps which limits before content first fed state to events large stands (streaming_fed vrps which content first old fed state at to events feeds s) cut
next_refused vrps which limits before content first old new state at events whole.NoMemory stands s refused = tt
next_refused vrps which limits before content first old new state at events whole.Fault stands s refused = tt

fed_within : (c fed rest : List ℕ) → octets_read c ≡ fed ++ rest → length fed ≤ 2 ^ 36
fed_within c fed rest comes = omega (arith, ap length comes, length-append fed rest, length-take (2 ^ 36) c)

may_go_on : {rows : List (Announced × Vrp)} (vrps : List Vrp) (which : MrtInput) (content : Option (List ℕ)) (first : State) (reader : Reader) (state : State) (at events : ℕ) (limits : Limits) (before : List Elem) → StateStands which limits before [] first → Streaming vrps which content first reader state at events rows → IsCutNow reader → IfSome content (λ c. FeedMayGoOn limits.sizes vrps which before (take at c))
may_go_on vrps which None first reader state at events limits before stands s cut = tt
may_go_on vrps which (Some c) first reader state at events limits before stands s cut =
    streaming_on vrps which (Some c) first reader state at events limits before (omega (arith, s.octets, fed_within c s.fed (octets_from at c) s.comes)) stands s cut

-- each of the reads for its next record may be made
pub next_may_go_on : {rows : List (Announced × Vrp)} (vrps : List Vrp) (which : MrtInput) (content : Option (List ℕ)) (first : State) (old : Reader) (state : State) (at events : ℕ) (limits : Limits) (before : List Elem) → StateStands which limits before [] first → Streaming vrps which content first old state at events rows → (to : ℕ) (fed : Reader) → FeedsUpTo content at old to fed → IsCutNow fed → IfSome content (λ c. FeedMayGoOn limits.sizes vrps which before (take to c))
next_may_go_on vrps which content first old state at events limits before stands s to fed feeds cut =
    may_go_on vrps which content first fed state to events limits before stands (streaming_fed vrps which content first old fed state at to events feeds s) cut
