-- An input whose events are gathered piece by piece.
use Rattle.std.proofs.Common.{◌≡◌, ℕ, ◌+◌, ◌^◌, ◌<◌, ◌≤◌, List, [], ◌∷◌, ◌++◌, length, map, take, Option, Some, None, Ok, Err, refl, sym, ap, subst, ◌∙◌, inl, inr, arith, length-append, length-take}
use Rattle.std.specs.Prelude.{IfSome, IsErrOf, false, true, ◌⊎◌}
use Rattle.std.proofs.lemmas.Bool.{le-leb}
use Rattle.std.proofs.lemmas.List.{map-append}
use Rattle.wire_model.specs.declared.rule.Rule.{Rule}
use Rattle.wire_model.specs.declared.rule.Rule.TheVariants.{HeaderCut, BodyCut}
use Rattle.wire_model.specs.Record.{Record, record_at, records_in}
use Rattle.wire_model.specs.Pieces.{TakesRecords}
use Rattle.wire_model.proofs.More.{starts_so, feeds_on, takes_on, ends_cut}
use Rattle.wire_model.specs.Input.{Progress, start, input}
use Rattle.wire_model.proofs.Reading.{reading_ends, reading_ends_cut}
use Rattle.fib_io.specs.Pieces.{octets_read, octets_from, ComeNext, IsEnd, IsLarge}
use Rattle.fib_io.specs.declared.pieces.ReadError.{ReadError}
use Rattle.fib_io.specs.declared.pieces.ReadError.TheVariants as pieces
use Rattle.fib_prefix.specs.Views.{event_as}
use Rattle.fib_prefix.specs.declared.event.Event as code_event
use Rattle.mrt_read.specs.Records.{fault_of}
use Rattle.mrt_read.specs.declared.framer.Malformed as code_malformed
use Rattle.mrt_read.specs.Standing as reading
use Rattle.mrt_read.specs.declared.reader.Reader.{Reader}
use Rattle.mrt_read.specs.declared.reader.EventsError.{EventsError}
use Rattle.mrt_read.specs.declared.reader.EventsError.TheVariants as read
use Rattle.mrt_read.specs.Cuts.{cut_at, is_cut, is_small}
use Rattle.mrt_read.specs.Whole.{HasEvents, IsBad, IsInputRefused, IsTooLarge, MayGoOn, of_input, of_read}
use Rattle.mrt_read.specs.declared.whole.WholeError.{WholeError}
use Rattle.mrt_read.specs.declared.whole.WholeError.TheVariants.{Malformed, TooLarge, NoMemory, Fault}
use Rattle.mrt_read.specs.InputReading.{EndsWhole, FeedsUpTo, IsNextRefused, TakesNext}
use Rattle.mrt_read.proofs.Nexts.{as_piece}
use Rattle.mrt_read.proofs.Arriving.{Comes, all_fed, comes_first, comes_next, such_before}
use Rattle.mrt_read.proofs.Cutting.{IsCutNow, cut_rules, ends_here, not_cut, reads_on, uncut}

-- So many octets of the input were fed: these are the events of its records so far, and the reader isn't refused.
pub record Gathering (content : Option (List ℕ)) (reader : Reader) (at : ℕ) (events : List code_event.Event) : Type 0 where
  pub fed : List ℕ
  pub octets : length fed ≡ at
  pub comes : IfSome content (Comes fed at)
  pub taken : List Record
  pub frames : TakesRecords fed taken (reading.reader_left reader)
  pub numbered : length taken ≡ reader.records
  pub none : reading.reader_refusal reader ≡ None
  pub read : Progress
  pub stands : reading.ReaderStands fed read reader
  pub has : read.events ≡ map event_as events

-- ---- the start

pub gathering_start : (content : Option (List ℕ)) (reader : Reader) → reading.reader_left reader ≡ [] → reading.reader_refusal reader ≡ None → reading.ReaderStands [] start reader → Gathering content reader 0 []
gathering_start content reader empty none s = record {
  fed = [];
  octets = refl;
  comes = comes_first content;
  taken = [];
  frames = rw empty starts_so;
  numbered = s.records;
  none = none;
  read = start;
  stands = s;
  has = refl;
}

-- ---- a piece more

pub gathering_feeds : (content : Option (List ℕ)) (old new : Reader) (room : List ℕ) (at n : ℕ) (events : List code_event.Event) → n ≤ length room → IfSome content (λ c. ComeNext c at room n) → Gathering content old at events → reading.ReaderFeeds old (take n room) new → Gathering content new (at + n) events
gathering_feeds content old new room at n events h next s feeds = record {
  fed = s.fed ++ take n room;
  octets = omega (arith, s.octets, h, length-append s.fed (take n room), length-take n room);
  comes = comes_next content s.fed room at n s.comes next;
  taken = s.taken;
  frames = rw feeds.leaves (feeds_on s.fed (take n room) (reading.reader_left old) s.taken s.frames);
  numbered = s.numbered ∙ sym feeds.records;
  none = feeds.refuses ∙ s.none;
  read = s.read;
  stands = feeds.stands s.fed s.read s.stands;
  has = s.has;
}

-- ---- a record more

pub gathering_takes : (content : Option (List ℕ)) (old new : Reader) (at : ℕ) (events more : List code_event.Event) → Gathering content old at events → reading.TakesEvents old (map event_as more) new → Gathering content new at (events ++ more)
gathering_takes content old new at events more s t = record {
  fed = s.fed;
  octets = s.octets;
  comes = s.comes;
  taken = s.taken ++ t.front.0 ∷ [];
  frames = takes_on s.fed (reading.reader_left old) (reading.reader_left new) s.taken t.front.0 s.frames t.front.1;
  numbered = omega (arith, s.numbered, t.counts, length-append s.taken (t.front.0 ∷ []));
  none = t.refuses;
  read = record { peers = reading.peers new; events = s.read.events ++ map event_as more; records = reading.reader_records new; skipped = reading.reader_skipped new; treated = reading.reader_treated new };
  stands = t.stands s.fed s.read s.stands;
  has = ap (λ es. es ++ map event_as more) s.has ∙ sym (map-append event_as events more);
}

-- ---- a record that breaks a rule

bad_now : (c : List ℕ) (old new : Reader) (at : ℕ) (events : List code_event.Event) (malformed : code_malformed.Malformed) → Gathering (Some c) old at events → reading.reader_next old ≡ Err (fault_of malformed) → reading.ReaderRefuses old (fault_of malformed) new → IsBad malformed c
bad_now c old new at events malformed s next r =
    let no = rw r.refuses at (r.stands s.fed s.read s.stands).refuses in
    let cut : is_cut (octets_read c) s.read.records ≡ false = rw (s.comes, s.stands.records) (uncut s.fed (octets_from at c) old s.taken (fault_of malformed) s.frames s.numbered s.none next) in
    record {
      stopped = record { read = s.read; rule = malformed.rule };
      stops = ap input s.comes ∙ no.1.whatever (octets_from at c);
      number = no.0;
      rule = refl;
      whole = not_cut (is_small c) (is_cut (octets_read c) s.read.records) cut;
    }

pub refused_read : (content : Option (List ℕ)) (old new : Reader) (at : ℕ) (events : List code_event.Event) (error : EventsError) (more : List code_event.Event) → Gathering content old at events → reading.ReaderFills (Err error) (map event_as more) (reading.reader_next old) → reading.ReaderFilled old (Err error) (map event_as more) new → IfSome content (IsInputRefused (of_read error))
refused_read None old new at events error more s next t = tt
refused_read (Some c) old new at events (read.Malformed malformed) more s next t = bad_now c old new at events malformed s next t
refused_read (Some c) old new at events read.NoMemory more s next t = tt

-- ---- the end

bad_end : (c : List ℕ) (reader : Reader) (at : ℕ) (events : List code_event.Event) (malformed : code_malformed.Malformed) → IsEnd c at → Gathering (Some c) reader at events → reading.ReaderTells reader (Err malformed) → IsBad malformed c
bad_end c reader at events malformed end s t =
    let f = t s.fed s.read s.stands in
    record {
      stopped = record { read = s.read; rule = malformed.rule };
      stops = ap input (all_fed c s.fed at end.0 s.comes) ∙ f.1;
      number = f.0;
      rule = refl;
      whole = ends_here (is_small c) (is_cut (octets_read c) s.read.records) (le-leb (length c) (2 ^ 36) end.1);
    }

pub refused_end : (content : Option (List ℕ)) (reader : Reader) (at : ℕ) (events : List code_event.Event) (malformed : code_malformed.Malformed) → IfSome content (λ c. IsEnd c at) → Gathering content reader at events → reading.ReaderTells reader (Err malformed) → IfSome content (IsInputRefused (Malformed malformed))
refused_end None reader at events malformed end s t = tt
refused_end (Some c) reader at events malformed end s t = bad_end c reader at events malformed end s t

pub has_all : (content : Option (List ℕ)) (reader : Reader) (at : ℕ) (events : List code_event.Event) → IfSome content (λ c. IsEnd c at) → Gathering content reader at events → reading.ReaderTells reader (Ok tt) → IfSome content (HasEvents (map event_as events))
has_all None reader at events end s t = tt
has_all (Some c) reader at events end s t = record {
  small = end.1;
  read = s.read;
  all = ap input (all_fed c s.fed at end.0 s.comes) ∙ t s.fed s.read s.stands;
  are = s.has;
}

-- ---- what was read, where no record of it is refused

ends_in : (fed left : List ℕ) (reader : Reader) (read : Progress) (taken : List Record) (rule : Rule) → reading.reader_left reader ≡ left → reading.ReaderStands fed read reader → TakesRecords fed taken left → length taken ≡ reader.records → reading.reader_refusal reader ≡ None
    → record_at left ≡ Err rule → (rule ≡ HeaderCut) ⊎ (rule ≡ BodyCut) → MayGoOn fed
ends_in fed [] reader read taken rule is stands t n none e cut =
    let all : input fed ≡ Ok read = reading_ends fed read (rw is at (reads_on fed read reader none stands)) in
    rw all tt
ends_in fed (b ∷ left) reader read taken rule is stands t n none e cut =
    let some : 0 < length (b ∷ left) = omega arith in
    let is_cut_now : cut_at read.records (records_in fed) ≡ true = ap (cut_at read.records) (ends_cut fed (b ∷ left) taken rule t some e) ∙ cut_rules (length taken) read.records rule (n ∙ sym stands.records) cut in
    let stops : input fed ≡ Err (record { read = read; rule = rule }) = reading_ends_cut fed (b ∷ left) read rule (rw is at (reads_on fed read reader none stands)) some e in
    rw stops is_cut_now

pub goes_on : (fed : List ℕ) (reader : Reader) (read : Progress) (taken : List Record) → reading.ReaderStands fed read reader → TakesRecords fed taken (reading.reader_left reader) → length taken ≡ reader.records → reading.reader_refusal reader ≡ None → IsCutNow reader → MayGoOn fed
goes_on fed reader read taken stands t n none (inl e) = ends_in fed (reading.reader_left reader) reader read taken HeaderCut refl stands t n none e (inl refl)
goes_on fed reader read taken stands t n none (inr e) = ends_in fed (reading.reader_left reader) reader read taken BodyCut refl stands t n none e (inr refl)

pub goes_on_at : (content : Option (List ℕ)) (reader : Reader) (at : ℕ) (events : List code_event.Event) → at ≤ 2 ^ 36 → Gathering content reader at events → IsCutNow reader → IfSome content (λ c. MayGoOn (take at c))
goes_on_at content reader at events within s cut = such_before content s.fed at MayGoOn within s.octets s.comes (goes_on s.fed reader s.read s.taken s.stands s.frames s.numbered s.none cut)

-- ---- more octets than are read

large_in : (c : List ℕ) (reader : Reader) (at : ℕ) (events : List code_event.Event) → IsLarge c at → Gathering (Some c) reader at events → IsCutNow reader → IsTooLarge c
large_in c reader at events large s cut = record {
  large = large.1;
  ends = subst MayGoOn (sym (all_fed c s.fed at large.0 s.comes)) (goes_on s.fed reader s.read s.taken s.stands s.frames s.numbered s.none cut);
}

pub refused_piece : (content : Option (List ℕ)) (reader : Reader) (at : ℕ) (events : List code_event.Event) (error : ReadError) → (IsErrOf {T = ℕ} (Err error) pieces.TooLarge → IfSome content (λ c. IsLarge c at)) → Gathering content reader at events → IsCutNow reader → IfSome content (IsInputRefused (of_input error))
refused_piece None reader at events error large s cut = tt
refused_piece (Some c) reader at events pieces.Fault large s cut = tt
refused_piece (Some c) reader at events pieces.NoMemory large s cut = tt
refused_piece (Some c) reader at events pieces.TooLarge large s cut = large_in c reader at events (large refl) s cut

-- ---- a record after another

pub gathering_fed : (content : Option (List ℕ)) (old new : Reader) (at to : ℕ) (events : List code_event.Event) → FeedsUpTo content at old to new → Gathering content old at events → Gathering content new to events
gathering_fed content old new at to events fed s =
    let p = as_piece content at to old new fed in
    subst (λ (k : ℕ). Gathering content new k events) p.there (gathering_feeds content old new p.room at p.n events p.most p.comes s p.feeds)

pub gathering_next : (content : Option (List ℕ)) (old new : Reader) (at to : ℕ) (events more : List code_event.Event) → TakesNext content at old (map event_as more) to new → Gathering content old at events → Gathering content new to (events ++ more)
gathering_next content old new at to events more (fed, feeds, takes) s = gathering_takes content fed new to events more (gathering_fed content old fed at to events feeds s) takes

any_refused : (content : Option (List ℕ)) → IfSome content (λ c. Unit {0})
any_refused None = tt
any_refused (Some c) = tt

pub next_refused : (content : Option (List ℕ)) (old new : Reader) (at : ℕ) (events : List code_event.Event) (error : WholeError) → IsNextRefused content at old error new → Gathering content old at events → IfSome content (IsInputRefused error)
next_refused content old new at events (Malformed malformed) (to, fed, feeds, inl (next, refuses)) s = refused_read content fed new to events (read.Malformed malformed) [] (gathering_fed content old fed at to events feeds s) next refuses
next_refused content old new at events (Malformed malformed) (to, fed, feeds, inr (end, tells)) s = refused_end content fed to events malformed end (gathering_fed content old fed at to events feeds s) tells
next_refused content old new at events TooLarge (to, fed, feeds, cut, large) s = refused_piece content fed to events pieces.TooLarge (λ _. large) (gathering_fed content old fed at to events feeds s) cut
next_refused content old new at events NoMemory refused s = any_refused content
next_refused content old new at events Fault refused s = any_refused content

pub next_ends : (content : Option (List ℕ)) (old new : Reader) (at to : ℕ) (events : List code_event.Event) → EndsWhole content at old to new → Gathering content old at events → IfSome content (HasEvents (map event_as events))
next_ends content old new at to events (feeds, end, tells) s = has_all content new to events end (gathering_fed content old new at to events feeds s) tells

pub fed_within : (c fed rest : List ℕ) → octets_read c ≡ fed ++ rest → length fed ≤ 2 ^ 36
fed_within c fed rest comes = omega (arith, ap length comes, length-append fed rest, length-take (2 ^ 36) c)

may_go_on : (content : Option (List ℕ)) (reader : Reader) (at : ℕ) (events : List code_event.Event) → Gathering content reader at events → IsCutNow reader → IfSome content (λ c. MayGoOn (take at c))
may_go_on None reader at events s cut = tt
may_go_on (Some c) reader at events s cut = goes_on_at (Some c) reader at events (omega (arith, s.octets, fed_within c s.fed (octets_from at c) s.comes)) s cut

-- each of its reads may be made
pub next_may_go_on : (content : Option (List ℕ)) (old : Reader) (at : ℕ) (events : List code_event.Event) → Gathering content old at events → (to : ℕ) (fed : Reader) → FeedsUpTo content at old to fed → IsCutNow fed → IfSome content (λ c. MayGoOn (take to c))
next_may_go_on content old at events s to fed feeds cut = may_go_on content fed to events (gathering_fed content old fed at to events feeds s) cut
