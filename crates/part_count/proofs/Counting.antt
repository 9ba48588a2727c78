-- An input that is counted piece by piece.
use Rattle.std.proofs.Common.{◌≡◌, ℕ, ◌+◌, ◌-◌, ◌^◌, List, [], ◌++◌, length, take, Option, Some, None, Ok, Err, refl, sym, ap, subst, ◌∙◌, arith, length-append, take_all}
use Rattle.std.specs.Prelude.{IfSome, IsErrOf, min}
use Rattle.route_model.specs.Events.{Event}
use Rattle.wire_model.specs.Record.{record_at}
use Rattle.wire_model.specs.Input.{Progress, start, input}
use Rattle.fib_io.specs.Pieces.{octets_from, ComeNext, IsEnd, IsLarge}
use Rattle.fib_io.specs.declared.pieces.ReadError.{ReadError}
use Rattle.fib_io.specs.declared.pieces.ReadError.TheVariants as pieces
use Rattle.mrt_read.specs.Records.{fault_of}
use Rattle.mrt_read.specs.declared.framer.Malformed as code_malformed
use Rattle.mrt_read.specs.Standing as reading
use Rattle.mrt_read.specs.declared.reader.Reader.{Reader}
use Rattle.mrt_read.specs.declared.reader.EventsError.{EventsError}
use Rattle.mrt_read.specs.declared.reader.EventsError.TheVariants as read
use Rattle.mrt_read.specs.Whole.{of_input, of_read}
use Rattle.mrt_read.specs.declared.whole.WholeError.TheVariants.{Malformed}
use Rattle.mrt_read.proofs.Arriving.{Comes, all_fed, comes_first, comes_next}
use Rattle.part_count.specs.Counted.{CountsOctets, IsUncounted}

-- So many octets of the input were fed, and so many events were counted.
pub record Counting (content : Option (List ℕ)) (reader : Reader) (at events : ℕ) : Type 0 where
  pub fed : List ℕ
  pub told : Progress
  pub comes : IfSome content (Comes fed at)
  pub stands : reading.ReaderStands fed told reader
  pub counted : events ≡ min (length told.events) (2 ^ 64 - 1)

pub counting_start : (content : Option (List ℕ)) (reader : Reader) → reading.ReaderStands [] start reader → Counting content reader 0 0
counting_start content reader s = record { fed = []; told = start; comes = comes_first content; stands = s; counted = refl }

pub used_at_start : (reader : Reader) → reading.reader_left reader ≡ [] → reading.reader_refusal reader ≡ None → reading.ReaderIsUsedUp reader
unfolding record_at
used_at_start reader empty none = rw (none, empty) refl

pub counting_feeds : (content : Option (List ℕ)) (old new : Reader) (room : List ℕ) (at n events : ℕ) → IfSome content (λ c. ComeNext c at room n) → Counting content old at events → reading.ReaderFeeds old (take n room) new → Counting content new (at + n) events
counting_feeds content old new room at n events next s feeds = record {
  fed = s.fed ++ take n room;
  told = s.told;
  comes = comes_next content s.fed room at n s.comes next;
  stands = feeds.stands s.fed s.told s.stands;
  counted = s.counted;
}

pub counting_takes : (content : Option (List ℕ)) (old new : Reader) (at events n : ℕ) (more : List Event) → n ≡ min (events + length more) (2 ^ 64 - 1) → Counting content old at events → reading.TakesEvents old more new → Counting content new at n
counting_takes content old new at events n more e s t = record {
  fed = s.fed;
  told = record { peers = reading.peers new; events = s.told.events ++ more; records = reading.reader_records new; skipped = reading.reader_skipped new; treated = reading.reader_treated new };
  comes = s.comes;
  stands = t.stands s.fed s.told s.stands;
  counted = omega (arith, e, s.counted, length-append s.told.events more);
}

-- ---- refusals

pub refused_piece : (content : Option (List ℕ)) (at : ℕ) (error : ReadError) → (IsErrOf {T = ℕ} (Err error) pieces.TooLarge → IfSome content (λ c. IsLarge c at)) → IfSome content (IsUncounted (of_input error))
refused_piece None at pieces.Fault large = tt
refused_piece (Some c) at pieces.Fault large = tt
refused_piece None at pieces.NoMemory large = tt
refused_piece (Some c) at pieces.NoMemory large = tt
refused_piece None at pieces.TooLarge large = tt
refused_piece (Some c) at pieces.TooLarge large = (large refl).1

refused_end_in : (c : List ℕ) (reader : Reader) (at events : ℕ) (malformed : code_malformed.Malformed) → IsEnd c at → Counting (Some c) reader at events → reading.ReaderTells reader (Err malformed) → IsUncounted (Malformed malformed) c
refused_end_in c reader at events malformed end s tells = (s.told, subst (λ xs. reading.IsFault xs s.told (fault_of malformed)) (sym (all_fed c s.fed at end.0 s.comes)) (tells s.fed s.told s.stands))

pub refused_end : (content : Option (List ℕ)) (reader : Reader) (at events : ℕ) (malformed : code_malformed.Malformed) → IfSome content (λ c. IsEnd c at) → Counting content reader at events → reading.ReaderTells reader (Err malformed) → IfSome content (IsUncounted (Malformed malformed))
refused_end None reader at events malformed end s tells = tt
refused_end (Some c) reader at events malformed end s tells = refused_end_in c reader at events malformed end s tells

refused_in : (c : List ℕ) (old new : Reader) (at events : ℕ) (malformed : code_malformed.Malformed) → Counting (Some c) old at events → reading.ReaderRefuses old (fault_of malformed) new → IsUncounted (Malformed malformed) c
refused_in c old new at events malformed s r =
    let no = rw r.refuses at (r.stands s.fed s.told s.stands).refuses in
    (s.told, (no.0, ap input s.comes ∙ no.1.whatever (octets_from at c)))

pub refused_read : (content : Option (List ℕ)) (old new : Reader) (at events : ℕ) (more : List Event) (error : EventsError) → Counting content old at events → reading.ReaderFilled old (Err error) more new → IfSome content (IsUncounted (of_read error))
refused_read None old new at events more (read.Malformed malformed) s failed = tt
refused_read (Some c) old new at events more (read.Malformed malformed) s failed = refused_in c old new at events malformed s failed
refused_read None old new at events more read.NoMemory s failed = tt
refused_read (Some c) old new at events more read.NoMemory s failed = tt

-- ---- the end

counted_in : (c : List ℕ) (reader : Reader) (at events records skipped treated : ℕ) → IsEnd c at → Counting (Some c) reader at events → reading.ReaderTells reader (Ok tt) → records ≡ reader.records → skipped ≡ reader.skipped → treated ≡ reader.treated → CountsOctets (record { records = records; skipped = skipped; events = events; treated = treated }) c
counted_in c reader at events records skipped treated end s tells r k t = record {
  told = s.told;
  all = ap input (sym (take_all (2 ^ 36) c end.1) ∙ all_fed c s.fed at end.0 s.comes) ∙ tells s.fed s.told s.stands;
  records = r ∙ sym s.stands.records;
  skipped = k ∙ sym s.stands.skipped;
  treated = t ∙ sym s.stands.treated;
  events = s.counted;
}

pub counted_all : (content : Option (List ℕ)) (reader : Reader) (at events records skipped treated : ℕ) → IfSome content (λ c. IsEnd c at) → Counting content reader at events → reading.ReaderTells reader (Ok tt) → records ≡ reader.records → skipped ≡ reader.skipped → treated ≡ reader.treated → IfSome content (CountsOctets (record { records = records; skipped = skipped; events = events; treated = treated }))
counted_all None reader at events records skipped treated end s tells r k t = tt
counted_all (Some c) reader at events records skipped treated end s tells r k t = counted_in c reader at events records skipped treated end s tells r k t
