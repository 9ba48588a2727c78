-- How a reader stands.
use Rattle.std.proofs.Common.{◌≡◌, ℕ, ◌+◌, List, [], ◌∷◌, ◌++◌, length, Option, Some, None, IfNone, Result, Ok, Err, refl, sym, ap, ◌∙◌, inl, inr, append-nil, arith}
use Rattle.std.proofs.lemmas.Bool.{ne_eqb}
use Rattle.route_model.specs.Events.{Peer, Event}
use Rattle.octet_fields.specs.Field.{◌>>=◌}
use Rattle.wire_model.specs.declared.rule.Rule.{Rule}
use Rattle.wire_model.specs.Record.{Record, Fault, record_at, at_record}
use Rattle.wire_model.specs.Update.{Said}
use Rattle.wire_model.specs.Input.{Progress, start, record_in, counted, input}
use Rattle.wire_model.specs.Reading.{ReadsEvents, ReadsNo}
use Rattle.wire_model.proofs.Reading.{reading_starts, reading_takes, reading_breaks, reading_too_long, reading_ends_cut, reading_ends}
use Rattle.mrt_read.specs.Framing as framing
use Rattle.mrt_read.specs.Records.{result_of}
use Rattle.mrt_read.specs.declared.framer.Malformed.{Malformed}
use Rattle.bgp_attrs.specs.declared.refusal.Refusal.{Refusal}
use Rattle.bgp_attrs.specs.declared.refusal.Refusal.TheVariants.{Rule as Broken}
use Rattle.mrt_read.specs.Next as next
use Rattle.mrt_records.specs.Views.{told_as}
use Rattle.mrt_records.specs.declared.record.RecordTold.{RecordTold}
use Rattle.mrt_records.specs.declared.record.RecordTold.TheVariants.{Skipped, Events, Treated}
use Rattle.mrt_read.specs.Views.{said_events, skips, treats}
use Rattle.mrt_read.specs.Standing.{reader_left, peers, reader_refusal, ReaderStands, reader_next_in, ReaderIsUsedUp, IsFault, TakesEvents, ReaderRefuses, reader_end, ReaderTells}
use Rattle.mrt_read.specs.declared.reader.Reader.{Reader}

-- ---- a refusal is kept, or none is

stands_on : (fed : List ℕ) (read : Progress) (r : Reader) → reader_refusal r ≡ None → read.peers ≡ peers r → read.records ≡ r.records → read.skipped ≡ r.skipped → read.treated ≡ r.treated → ReadsEvents fed read (reader_left r) → ReaderStands fed read r
stands_on fed read r none p n k w t = record { peers = p; records = n; skipped = k; treated = w; goes_on = rw none t; refuses = rw none tt }

reads_of : (fed : List ℕ) (read : Progress) (r : Reader) → reader_refusal r ≡ None → ReaderStands fed read r → ReadsEvents fed read (reader_left r)
reads_of fed read r none s = rw none at s.goes_on

stops : (fed : List ℕ) (read : Progress) (rule : Rule) → ReadsNo fed (record { read = read; rule = rule }) → input fed ≡ Err (record { read = read; rule = rule })
stops fed read rule b = ap input (sym (append-nil fed)) ∙ b.whatever []

refused_of : (fed : List ℕ) (read : Progress) (r : Reader) (fault : Fault) → reader_refusal r ≡ Some fault → ReaderStands fed read r → IsFault fed read fault
refused_of fed read r fault kept s = let both = rw kept at s.refuses in (both.0, stops fed read fault.rule both.1)

pub stands_at_start : (r : Reader) → reader_refusal r ≡ None → reader_left r ≡ [] → peers r ≡ None → r.records ≡ 0 → r.skipped ≡ 0 → r.treated ≡ 0 → ReaderStands [] start r
stands_at_start r none empty p n k w = stands_on [] start r none (sym p) (sym n) (sym k) (sym w) (rw empty reading_starts)

pub refuses_again : (r : Reader) (fault : Fault) → reader_refusal r ≡ Some fault → ReaderRefuses r fault r
refuses_again r fault kept = record { refuses = kept; peers = refl; records = refl; skipped = refl; treated = refl; tells = λ fed read s. refused_of fed read r fault kept s; stands = λ fed read s. s }

pub tells_refused : (r : Reader) (fault : Fault) → reader_refusal r ≡ Some fault → (fed : List ℕ) (read : Progress) → ReaderStands fed read r → IsFault fed read fault
tells_refused r fault kept fed read s = refused_of fed read r fault kept s

-- ---- a record more

same_progress : (read : Progress) (table : Option (List Peer)) (told : RecordTold) (events : List Event) (records skipped treated : ℕ)
    → (told ≡ Skipped → events ≡ []) → records ≡ read.records + 1 → skipped ≡ read.skipped + skips told → treated ≡ read.treated + treats told
    → counted read (table, told_as told events) ≡ record { peers = table; events = read.events ++ events; records = records; skipped = skipped; treated = treated }
same_progress read table Skipped events records skipped treated none n k w = let w : treated ≡ read.treated = omega (arith, w) in rw (none refl, n, k, w, append-nil read.events) refl
same_progress read table Events events records skipped treated none n k w = let k : skipped ≡ read.skipped = omega (arith, k) in rw (n, k, w) refl
same_progress read table Treated events records skipped treated none n k w = let k : skipped ≡ read.skipped = omega (arith, k) in rw (n, k, w) refl

abbrev pub source : Reader → next.Source
source r = record { framer = r.framer; table = r.table }

pub takes_events : (old new : Reader) (told : RecordTold) (events : List Event) → reader_refusal old ≡ None → reader_refusal new ≡ None → next.ReadsRecord (source old) told events (source new)
    → new.records ≡ old.records + 1 → new.skipped ≡ old.skipped + skips told → new.treated ≡ old.treated + treats told → TakesEvents old events new
takes_events old new told events none still r n k w = record {
  front = (r.read, r.front);
  shorter = r.shorter;
  counts = n;
  refuses = still;
  stands = λ fed read s.
      let says : record_in read.peers r.read ≡ Ok (peers new, told_as told events) = rw s.peers r.says in
      let on = reading_takes fed (reader_left old) (reader_left new) read r.read (peers new, told_as told events) (reads_of fed read old none s) r.front says in
      let same = same_progress read (peers new) told events new.records new.skipped new.treated r.none (rw s.records n) (rw s.skipped k) (rw s.treated w) in
      stands_on fed _ new still refl refl refl refl (rw same at on);
}

pub went_on : (old new : next.Source) (events : List Event) (given : Option RecordTold) (told : RecordTold) → given ≡ Some told → next.NextGoes old (Ok given) events new → next.ReadsRecord old told events new
went_on old new events given told is goes = rw is at goes

pub went_wrong : (old new : next.Source) (why : Refusal) (rule : Rule) → why ≡ Broken rule → next.NextFails old why new → next.BreaksRule old rule × (new.table ≡ old.table) × next.TakesAtMostOne old new
went_wrong old new why rule is fails = rw is at fails

-- ---- a rule is broken

breaks : (old : Reader) (rule : Rule) → reader_refusal old ≡ None → next.BreaksRule (source old) rule → (fed : List ℕ) (read : Progress) → ReaderStands fed read old → ReadsNo fed (record { read = read; rule = rule })
breaks old rule none (inl over) fed read s = rw over.1 (reading_too_long fed (reader_left old) read (reads_of fed read old none s) over.0)
breaks old rule none (inr b) fed read s = reading_breaks fed (reader_left old) b.1 read b.0 rule (reads_of fed read old none s) b.2 (rw s.peers b.3)

pub refuses_rule : (old new : Reader) (fault : Fault) → reader_refusal old ≡ None → fault.number ≡ old.records → next.BreaksRule (source old) fault.rule → reader_refusal new ≡ Some fault → new.records ≡ old.records → new.skipped ≡ old.skipped → new.treated ≡ old.treated → peers new ≡ peers old → ReaderRefuses old fault new
refuses_rule old new fault none number b kept n k w p = record {
  refuses = kept;
  peers = p;
  records = n;
  skipped = k;
  treated = w;
  tells = λ fed read s. (number ∙ sym s.records, stops fed read fault.rule (breaks old fault.rule none b fed read s));
  stands = λ fed read s. record {
    peers = s.peers ∙ sym p;
    records = s.records ∙ sym n;
    skipped = s.skipped ∙ sym k;
    treated = s.treated ∙ sym w;
    goes_on = rw kept tt;
    refuses = rw kept (number ∙ sym s.records, breaks old fault.rule none b fed read s);
  };
}

-- ---- the end

not_empty : (number b : ℕ) (octets : List ℕ) (rule : Rule) → framing.end_in number (b ∷ octets) (Err rule) ≡ Err (record { number = number; rule = rule })
not_empty number b octets rule = rw (ne_eqb (length (b ∷ octets)) 0 (λ e. omega arith)) refl

abbrev failed : Fault → Result (Unit {0}) Fault
failed f = Err f

same_fault : (f g : Fault) → failed f ≡ failed g → f ≡ g
same_fault f g e = cc

ok_not_err : (x : Unit {0}) (fault : Fault) → Ok x ≡ Err fault → ⊥
ok_not_err x fault e = cc

err_not_ok : (fault : Fault) (x : Unit {0}) → Err fault ≡ Ok x → ⊥
err_not_ok fault x e = cc

next_some : (number : ℕ) (table : Option (List Peer)) (r : Record) → (at_record number (record_in table r >>= λ told. Ok (Some (said_events told.1)))) ≡ Ok None → ⊥
next_some number table r e = said (record_in table r) e where
  said : (told : Result (Option (List Peer) × Option Said) Rule) → at_record number (told >>= λ told. Ok (Some (said_events told.1))) ≡ Ok None → ⊥
  said (Ok told) e = absurd cc
  said (Err rule) e = absurd cc

ended : (r : Reader) (front : Result (Record × List ℕ) Rule) → reader_refusal r ≡ None → reader_next_in r.records (peers r) front ≡ Ok None → (result : Result (Unit {0}) Malformed) → result_of (λ x. x) result ≡ framing.end_in r.records (reader_left r) front → record_at (reader_left r) ≡ front → ReaderTells r result
ended r (Ok front) none e result gives is = absurd (next_some r.records (peers r) front.0 e)
ended r (Err rule) none e result gives is = at_end (reader_left r) refl result gives where
  at_end : (octets : List ℕ) → reader_left r ≡ octets → (result : Result (Unit {0}) Malformed) → result_of (λ x. x) result ≡ framing.end_in r.records octets (Err rule) → ReaderTells r result
  at_end [] empty (Ok x) gives = λ fed read s. reading_ends fed read (rw empty at (reads_of fed read r none s))
  at_end [] empty (Err malformed) gives = absurd (err_not_ok _ _ gives)
  at_end (b ∷ octets) some (Ok x) gives = absurd (ok_not_err x (record { number = r.records; rule = rule }) (gives ∙ not_empty r.records b octets rule))
  at_end (b ∷ octets) some (Err malformed) gives = λ fed read s.
      let same = same_fault _ _ (gives ∙ not_empty r.records b octets rule) in
      (ap (λ (f : Fault). f.number) same ∙ sym s.records, reading_ends_cut fed (reader_left r) read malformed.rule (reads_of fed read r none s) (omega (arith, ap length some)) (is ∙ ap Err (sym (ap (λ (f : Fault). f.rule) same))))

nothing_next : (refused : Option Fault) (comes : Result (Option (List Event)) Fault) → refused ≡ None → IfNone refused (framing.refused_or refused comes ≡ Ok None) → comes ≡ Ok None
nothing_next None comes e used = used
nothing_next (Some fault) comes e used = absurd cc

pub tells : (r : Reader) (result : Result (Unit {0}) Malformed) → reader_refusal r ≡ None → framing.framer_refusal r.framer ≡ None → framing.framer_count r.framer ≡ r.records → ReaderIsUsedUp r → result_of (λ x. x) result ≡ framing.framer_end r.framer → ReaderTells r result
tells r result none going counts used gives =
    ended r (record_at (reader_left r)) none (nothing_next (reader_refusal r) _ none used) result (rw (going, counts) at gives) refl

pub ends_as : (r : Reader) (result : Result (Unit {0}) Malformed) → reader_refusal r ≡ None → framing.framer_refusal r.framer ≡ None → framing.framer_count r.framer ≡ r.records → result_of (λ x. x) result ≡ framing.framer_end r.framer → result_of (λ x. x) result ≡ reader_end r
ends_as r result none going counts gives = rw none (rw (going, counts) at gives)
