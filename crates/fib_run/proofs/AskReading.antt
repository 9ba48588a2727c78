-- Asks that are taken piece by piece.
use Rattle.std.proofs.Common.{◌≡◌, ℕ, ◌+◌, ◌^◌, ◌<◌, ◌≤◌, Bool, true, false, cond, List, [], ◌++◌, length, map, take, drop, Option, Some, None, Result, Ok, Err, refl, sym, ap, subst, ◌∙◌, arith, append_assoc, length-append, length-take, take_all}
use Rattle.std.specs.Prelude.{IfSome, IsErrOf, is_ok}
use Rattle.std.proofs.lemmas.Bool.{le-leb, lt-leb, leb-true}
use Rattle.std.proofs.lemmas.List.{length-map, map-append, take-append-drop}
use Rattle.std.specs.declared.vec.Vec.{Vec}
use Rattle.bstr.specs.Text.{without_terminator}
use Rattle.bstr.specs.Find.{NoneAfter, Nowhere, Passes, is_byte}
use Rattle.table_model.specs.Address.{Address}
use Rattle.fib_addr.specs.Views.{addr_as}
use Rattle.fib_addr.specs.declared.addr.Addr.{Addr}
use Rattle.fib_io.specs.Reads.{Anywhere, AtEnd, Makes, Pass, Read}
use Rattle.fib_io.proofs.Passing.{pass_stops_at_end}
use Rattle.fib_run.specs.Feeds.{ask_end, asks_end}
use Rattle.fib_io.specs.Pieces.{octets_read, octets_from, ComeNext, IsEnd, IsLarge}
use Rattle.fib_io.specs.declared.pieces.ReadError.{ReadError}
use Rattle.fib_io.specs.declared.pieces.ReadError.TheVariants as pieces
use Rattle.printed_text.specs.Texts.{lines_of, line_texts}
use Rattle.printed_text.proofs.Lines.{few_lines}
use Rattle.fib_run.specs.declared.asks.AskError.{AskError}
use Rattle.fib_run.specs.declared.asks.AskError.TheVariants.{BadLine, NoMemory, Fault, TooLarge}
use Rattle.fib_run.specs.declared.asks.AskReader.{AskReader}
use Rattle.fib_due.specs.declared.outcome.Outcome.{Outcome}
use Rattle.fib_due.specs.declared.outcome.Outcome.TheVariants as outcome
use Rattle.fib_due.specs.declared.outcome.Which.TheVariants.{Asks}
use Rattle.fib_due.specs.Asks.{addresses_from, asks_in, ended_asks_in, ended_lines, has_feed}
use Rattle.fib_run.specs.Asking.{AreEnded, AsksFed, AsksFrom, AsksStand, BringsAsks, HasBadLine, ReadsLines, ask_of_input, ask_refusal, asks_behind}
use Rattle.fib_due.specs.Due.{asks_from, told_asks}
use Rattle.fib_due.specs.InTime.{AsksMayGoOn}
use Rattle.fib_run.specs.Reads.{IsList}
use Rattle.mrt_read.specs.Cuts.{is_small}
use Rattle.mrt_read.proofs.Arriving.{Comes, all_fed, comes_first, comes_next, such_before}
use Rattle.fib_due.specs.Stops.{Stop, Refused, FailsDue, IsDueIfTold, lined, lined_past}
use Rattle.fib_run.proofs.AskLemmas.{addresses_on, then_lines}
use Rattle.fib_run.proofs.AskLines.{ended_both, ended_front, ended_more, ended_none, ends_lines, held_more, no_feed, no_feed_after}

-- ---- the lines of what was fed

-- lines behind the lines of octets that have ended
read_on : (front : List ℕ) (asks : List Address) (n : ℕ) (lines : List (List ℕ)) → addresses_from 1 (line_texts front) ≡ Ok asks → n ≡ length (lines_of front) → addresses_from 1 (map without_terminator (lines_of front ++ lines)) ≡ asks_behind asks n (map without_terminator lines)
read_on front asks n lines a l =
    let count : 0 + length (line_texts front) ≡ n = omega (arith, l, length-map (lines_of front) without_terminator) in
    ap (addresses_from 1) (map-append without_terminator (lines_of front) lines)
    ∙ (addresses_on 0 (line_texts front) (map without_terminator lines)
    ∙ (ap (λ read. then_lines (0 + length (line_texts front)) read (map without_terminator lines)) a
    ∙ ap (λ k. asks_behind asks k (map without_terminator lines)) count))

bad_on : (front : List ℕ) (line : ℕ) (lines : List (List ℕ)) → addresses_from 1 (line_texts front) ≡ Err line → addresses_from 1 (map without_terminator (lines_of front ++ lines)) ≡ Err line
bad_on front line lines e =
    ap (addresses_from 1) (map-append without_terminator (lines_of front) lines)
    ∙ (addresses_on 0 (line_texts front) (map without_terminator lines)
    ∙ ap (λ read. then_lines (0 + length (line_texts front)) read (map without_terminator lines)) e)

-- what is read of more octets behind those that have ended
reads_more : (front more : List ℕ) (asks : List Address) (n : ℕ) → AreEnded front → addresses_from 1 (line_texts front) ≡ Ok asks → n ≡ length (lines_of front) → addresses_from 1 (line_texts (front ++ more)) ≡ asks_behind asks n (line_texts more)
reads_more front more asks n ends a l = ap (λ ls. addresses_from 1 (map without_terminator ls)) (ends.apart more) ∙ read_on front asks n (lines_of more) a l

-- ---- a reader

pub reader_starts : (reader : AskReader) → reader.asks.items ≡ [] → reader.held.items ≡ [] → reader.lines ≡ 0 → AsksStand [] reader
unfolding addresses_from lines_of
reader_starts reader a h l = record {
  front = [];
  ends = ended_none;
  parts = sym h;
  asks = ap (λ asks. Ok (map addr_as asks)) (sym a);
  lines = l;
  unended = ap has_feed h;
}

-- a piece without a line feed is held
pub holds_more : (fed piece : List ℕ) (old new : AskReader) → new.asks.items ≡ old.asks.items → new.lines ≡ old.lines → new.held.items ≡ old.held.items ++ piece → Nowhere (Passes (is_byte 10) piece) 0 (length piece) → AsksStand fed old → AsksStand (fed ++ piece) new
holds_more fed piece old new a l h none s = record {
  front = s.front;
  ends = s.ends;
  parts = ap (λ z. z ++ piece) s.parts ∙ (append_assoc s.front old.held.items piece ∙ ap (λ z. s.front ++ z) (sym h));
  asks = s.asks ∙ ap (λ asks. Ok (map addr_as asks)) (sym a);
  lines = l ∙ s.lines;
  unended = ap has_feed h ∙ held_more old.held.items piece s.unended (no_feed piece none);
}

-- the octets that end lines with a piece whose last line feed stands there
abbrev pub ended_with : AskReader → List ℕ → ℕ → List ℕ
ended_with reader piece last = reader.held.items ++ take (last + 1) piece

-- a piece's last line feed
pub record HasFeed (piece : List ℕ) (last : ℕ) : Type 0 where
  pub after : NoneAfter (Passes (is_byte 10) piece) 0 (length piece) last
  pub here : Passes (is_byte 10) piece last

all_parts : (fed piece front held : List ℕ) (k : ℕ) → fed ≡ front ++ held → fed ++ piece ≡ (front ++ (held ++ take k piece)) ++ drop k piece
all_parts fed piece front held k e =
    ap (λ z. z ++ piece) e
    ∙ (ap (λ z. (front ++ held) ++ z) (sym (take-append-drop k piece))
    ∙ (sym (append_assoc (front ++ held) (take k piece) (drop k piece)) ∙ ap (λ z. z ++ drop k piece) (append_assoc front held (take k piece))))

-- lines that end with a piece are read, and what follows them is held
pub reads_lines : (fed piece read : List ℕ) (last : ℕ) (old new : AskReader) → HasFeed piece last → read ≡ ended_with old piece last → new.held.items ≡ drop (last + 1) piece → ReadsLines {T = Unit {0}} (map addr_as old.asks.items) old.lines (line_texts read) (Ok tt) (map addr_as new.asks.items) new.lines → AsksStand fed old → AsksStand (fed ++ piece) new
reads_lines fed piece read last old new f e h lines s =
    let text : List ℕ = ended_with old piece last in
    let r = subst (λ z. ReadsLines {T = Unit {0}} (map addr_as old.asks.items) old.lines (line_texts z) (Ok tt) (map addr_as new.asks.items) new.lines) e lines in
    let ends : AreEnded text = ends_lines old.held.items piece last f.after.high f.here in
    record {
      front = s.front ++ text;
      ends = ended_both s.front text s.ends ends;
      parts = all_parts fed piece s.front old.held.items (last + 1) s.parts ∙ ap (λ z. (s.front ++ text) ++ z) (sym h);
      asks = reads_more s.front text (map addr_as old.asks.items) old.lines s.ends s.asks s.lines ∙ r.0;
      lines = omega (arith, r.1, s.lines, ap length (s.ends.apart text), length-append (lines_of s.front) (lines_of text), length-map (lines_of text) without_terminator);
      unended = ap has_feed h ∙ no_feed_after piece last f.after;
    }

-- one of them is bad
pub reads_bad : (fed piece : List ℕ) (last line : ℕ) (old : AskReader) → HasFeed piece last → asks_behind (map addr_as old.asks.items) old.lines (line_texts (ended_with old piece last)) ≡ Err line → AsksStand fed old → HasBadLine (fed ++ piece) line
unfolding asks_in ended_asks_in
reads_bad fed piece last line old f e s =
    let text : List ℕ = ended_with old piece last in
    let rest : List ℕ = drop (last + 1) piece in
    let ends : AreEnded (s.front ++ text) = ended_both s.front text s.ends (ends_lines old.held.items piece last f.after.high f.here) in
    let bad : addresses_from 1 (line_texts (s.front ++ text)) ≡ Err line = reads_more s.front text (map addr_as old.asks.items) old.lines s.ends s.asks s.lines ∙ e in
    let parts : (more : List ℕ) → (fed ++ piece) ++ more ≡ (s.front ++ text) ++ (rest ++ more) = λ more. ap (λ z. z ++ more) (all_parts fed piece s.front old.held.items (last + 1) s.parts) ∙ append_assoc (s.front ++ text) rest more in
    record {
      whole = λ more. ap (λ z. addresses_from 1 (line_texts z)) (parts more) ∙ (ap (λ ls. addresses_from 1 (map without_terminator ls)) (ends.apart (rest ++ more)) ∙ bad_on (s.front ++ text) line (lines_of (rest ++ more)) bad);
      ended = λ more. ap (λ z. addresses_from 1 (map without_terminator (ended_lines z))) (parts more) ∙ (ap (λ ls. addresses_from 1 (map without_terminator ls)) (ended_more (s.front ++ text) (rest ++ more) ends) ∙ bad_on (s.front ++ text) line (ended_lines (rest ++ more)) bad);
    }

pub reads_fail : (fed piece read : List ℕ) (last : ℕ) (old new : AskReader) (error : AskError) (result : Result (Unit {0}) AskError) (more : List Address) (n : ℕ) → HasFeed piece last → read ≡ ended_with old piece last → ReadsLines {T = Unit {0}} (map addr_as old.asks.items) old.lines (line_texts read) (Err error) more n → result ≡ Err error → AsksStand fed old → AsksFed (fed ++ piece) result new
reads_fail fed piece read last old new error result more n f e fails is s = subst (λ r. AsksFed (fed ++ piece) r new) (sym is) (by_error error fails)
  where
    by_error : (error : AskError) → ReadsLines {T = Unit {0}} (map addr_as old.asks.items) old.lines (line_texts read) (Err error) more n → AsksFed {T = Unit {0}} (fed ++ piece) (Err error) new
    by_error (BadLine line) fails = reads_bad fed piece last line old f (sym (ap (λ z. asks_behind (map addr_as old.asks.items) old.lines (line_texts z)) e) ∙ fails) s
    by_error NoMemory fails = tt
    by_error Fault fails = absurd fails
    by_error TooLarge fails = absurd fails

-- the asks of all that was fed
pub whole_asks : (fed : List ℕ) (reader : AskReader) → AsksStand fed reader → asks_in fed ≡ asks_behind (map addr_as reader.asks.items) reader.lines (line_texts reader.held.items)
unfolding asks_in
whole_asks fed reader s = ap (λ z. addresses_from 1 (line_texts z)) s.parts ∙ reads_more s.front reader.held.items (map addr_as reader.asks.items) reader.lines s.ends s.asks s.lines

-- what is read of what is held, is what the input has
pub ends_read : {X : Type 0} (fed held : List ℕ) (reader : AskReader) (error : AskError) (result : Result (Vec Addr X) AskError) (more : List Address) (n : ℕ) → held ≡ reader.held.items → ReadsLines {T = Unit {0}} (map addr_as reader.asks.items) reader.lines (line_texts held) (Err error) more n → result ≡ Err error → AsksStand fed reader → IsList (λ (asks : Vec Addr X). map addr_as asks.items) result (asks_in fed)
ends_read {X = X} fed held reader error result more n e fails is s = subst (λ r. IsList (λ (asks : Vec Addr X). map addr_as asks.items) r (asks_in fed)) (sym is) (by_error error fails)
  where
    whole : asks_in fed ≡ asks_behind (map addr_as reader.asks.items) reader.lines (line_texts held)
    whole = whole_asks fed reader s ∙ ap (λ z. asks_behind (map addr_as reader.asks.items) reader.lines (line_texts z)) (sym e)

    by_error : (error : AskError) → ReadsLines {T = Unit {0}} (map addr_as reader.asks.items) reader.lines (line_texts held) (Err error) more n → IsList (λ (asks : Vec Addr X). map addr_as asks.items) (Err error) (asks_in fed)
    by_error (BadLine line) fails = whole ∙ fails
    by_error NoMemory fails = tt
    by_error Fault fails = absurd fails
    by_error TooLarge fails = absurd fails

-- the asks of the lines among it that have ended
ended_asks : (fed : List ℕ) (reader : AskReader) → AsksStand fed reader → ended_asks_in fed ≡ Ok (map addr_as reader.asks.items)
unfolding ended_asks_in
ended_asks fed reader s = ap (λ z. addresses_from 1 (map without_terminator (ended_lines z))) s.parts ∙ (ap (λ ls. addresses_from 1 (map without_terminator ls)) (ended_front s.front reader.held.items s.ends s.unended) ∙ s.asks)

-- ---- an input

-- So many octets of the input were fed.
pub record Asking (content : Option (List ℕ)) (reader : AskReader) (at : ℕ) : Type 0 where
  pub fed : List ℕ
  pub octets : length fed ≡ at
  pub comes : IfSome content (Comes fed at)
  pub stands : AsksStand fed reader

-- what was fed may be read on from
fed_on : (fed : List ℕ) (reader : AskReader) → AsksStand fed reader → AsksMayGoOn fed
fed_on fed reader s = ap is_ok (ended_asks fed reader s)

pub asking_on : (content : Option (List ℕ)) (reader : AskReader) (at : ℕ) → at ≤ 2 ^ 36 → Asking content reader at → IfSome content (λ c. AsksMayGoOn (take at c))
asking_on content reader at within s = such_before content s.fed at AsksMayGoOn within s.octets s.comes (fed_on s.fed reader s.stands)

pub asking_start : (content : Option (List ℕ)) (reader : AskReader) → AsksStand [] reader → Asking content reader 0
asking_start content reader s = record { fed = []; octets = refl; comes = comes_first content; stands = s }

pub asking_feeds : (content : Option (List ℕ)) (old new : AskReader) (room : List ℕ) (at n : ℕ) → n ≤ length room → IfSome content (λ c. ComeNext c at room n) → Asking content old at → ((fed : List ℕ) → AsksStand fed old → AsksStand (fed ++ take n room) new) → Asking content new (at + n)
asking_feeds content old new room at n h next s feeds = record {
  fed = s.fed ++ take n room;
  octets = omega (arith, s.octets, h, length-append s.fed (take n room), length-take n room);
  comes = comes_next content s.fed room at n s.comes next;
  stands = feeds s.fed s.stands;
}

pub feed_fits : (content : Option (List ℕ)) (reader : AskReader) (room : List ℕ) (at n : ℕ) → at + n ≤ 2 ^ 36 → n ≤ length room → Asking content reader at → reader.lines + length reader.held.items + length (take n room) < 2 ^ 64
feed_fits content reader room at n within h s = omega (arith, within, h, s.octets, s.stands.lines, few_lines s.stands.front, ap length s.stands.parts, length-append s.stands.front reader.held.items, length-take n room)

pub finish_fits : (content : Option (List ℕ)) (reader : AskReader) (at : ℕ) → at ≤ 2 ^ 36 → Asking content reader at → reader.lines + length reader.held.items < 2 ^ 64
finish_fits content reader at within s = omega (arith, within, s.octets, s.stands.lines, few_lines s.stands.front, ap length s.stands.parts, length-append s.stands.front reader.held.items)

-- ---- refusals

refused_is : (d : Result (List Address) Stop) (o : Outcome) → d ≡ Err (Refused o) → IsDueIfTold d (Err (Refused o))
refused_is d o e = rw e refl

-- what is due of an input that ends, and of one that goes on
small_due : (c : List ℕ) → is_small c ≡ true → asks_from c ≡ lined Asks (asks_in c)
unfolding asks_from
small_due c e = ap (λ t. cond t (lined Asks (asks_in c)) (lined_past Asks (ended_asks_in (octets_read c)))) e

past_due : (c : List ℕ) → is_small c ≡ false → asks_from c ≡ lined_past Asks (ended_asks_in (octets_read c))
unfolding asks_from
past_due c e = ap (λ t. cond t (lined Asks (asks_in c)) (lined_past Asks (ended_asks_in (octets_read c)))) e

bad_due : (c octets rest : List ℕ) (line : ℕ) → octets_read c ≡ octets ++ rest → HasBadLine octets line → asks_from c ≡ Err (Refused (outcome.BadLine Asks line 1))
bad_due c octets rest line e bad = by_test (is_small c) refl
  where
    by_test : (t : Bool) → is_small c ≡ t → asks_from c ≡ Err (Refused (outcome.BadLine Asks line 1))
    by_test true s =
        let whole : c ≡ octets ++ rest = sym (take_all (2 ^ 36) c (leb-true (length c) (2 ^ 36) s)) ∙ e in
        small_due c s ∙ ap (lined Asks) (ap asks_in whole ∙ bad.whole rest)
    by_test false s = past_due c s ∙ ap (lined_past Asks) (ap ended_asks_in e ∙ bad.ended rest)

pub refused_feed : (content : Option (List ℕ)) (old new : AskReader) (room : List ℕ) (at n : ℕ) (error : AskError) → IfSome content (λ c. ComeNext c at room n) → Asking content old at → ((fed : List ℕ) → AsksStand fed old → AsksFed {T = Unit {0}} (fed ++ take n room) (Err error) new) → FailsDue (ask_refusal error) (told_asks content)
refused_feed None old new room at n (BadLine line) next s fails = tt
refused_feed (Some c) old new room at n (BadLine line) next s fails =
    refused_is (asks_from c) (outcome.BadLine Asks line 1) (bad_due c (s.fed ++ take n room) (octets_from (at + n) c) line (comes_next (Some c) s.fed room at n s.comes next) (fails s.fed s.stands))
refused_feed content old new room at n NoMemory next s fails = tt
refused_feed content old new room at n Fault next s fails = absurd (fails s.fed s.stands)
refused_feed content old new room at n TooLarge next s fails = absurd (fails s.fed s.stands)

refused_large : (content : Option (List ℕ)) (reader : AskReader) (at : ℕ) → IfSome content (λ c. IsLarge c at) → Asking content reader at → FailsDue (ask_refusal TooLarge) (told_asks content)
refused_large None reader at large s = tt
refused_large (Some c) reader at large s =
    let all : ended_asks_in (octets_read c) ≡ Ok (map addr_as reader.asks.items) = ap ended_asks_in (all_fed c s.fed at large.0 s.comes) ∙ ended_asks s.fed reader s.stands in
    refused_is (asks_from c) (outcome.TooLarge Asks) (past_due c (lt-leb (length c) (2 ^ 36) large.1) ∙ ap (lined_past Asks) all)

pub refused_piece : (content : Option (List ℕ)) (reader : AskReader) (at : ℕ) (error : ReadError) → (IsErrOf {T = ℕ} (Err error) pieces.TooLarge → IfSome content (λ c. IsLarge c at)) → Asking content reader at → FailsDue (ask_refusal (ask_of_input error)) (told_asks content)
refused_piece content reader at pieces.Fault large s = tt
refused_piece content reader at pieces.NoMemory large s = tt
refused_piece content reader at pieces.TooLarge large s = refused_large content reader at (large refl) s

-- ---- the end

ends_due : (c fed : List ℕ) (at : ℕ) (read : Result (List Address) ℕ) → IsEnd c at → Comes fed at c → asks_in fed ≡ read → asks_from c ≡ lined Asks read
ends_due c fed at read end comes e =
    let whole : c ≡ fed = sym (take_all (2 ^ 36) c end.1) ∙ all_fed c fed at end.0 comes in
    small_due c (le-leb (length c) (2 ^ 36) end.1) ∙ ap (lined Asks) (ap asks_in whole ∙ e)

brought_is : (d : Result (List Address) Stop) (asks : List Address) → d ≡ Ok asks → IsDueIfTold d (Ok asks)
brought_is d asks e = rw e refl

pub brings_all : {X : Type 0} (content : Option (List ℕ)) (reader : AskReader) (at : ℕ) (result : Result (Vec Addr X) AskError) → IfSome content (λ c. IsEnd c at) → Asking content reader at → ((fed : List ℕ) → AsksStand fed reader → IsList (λ (asks : Vec Addr X). map addr_as asks.items) result (asks_in fed)) → BringsAsks result (told_asks content)
brings_all None reader at (Ok asks) end s gives = tt
brings_all (Some c) reader at (Ok asks) end s gives = brought_is (asks_from c) (map addr_as asks.items) (ends_due c s.fed at (Ok (map addr_as asks.items)) end s.comes (gives s.fed s.stands))
brings_all None reader at (Err (BadLine line)) end s gives = tt
brings_all (Some c) reader at (Err (BadLine line)) end s gives = refused_is (asks_from c) (outcome.BadLine Asks line 1) (ends_due c s.fed at (Err line) end s.comes (gives s.fed s.stands))
brings_all content reader at (Err NoMemory) end s gives = tt
brings_all content reader at (Err Fault) end s gives = absurd (gives s.fed s.stands)
brings_all content reader at (Err TooLarge) end s gives = absurd (gives s.fed s.stands)

-- ---- the counts of faults, which a reader leaves

pub cause_of_end : {X : Type 0} (before now : List ℕ → ℕ) (name : List ℕ) (content : Option (List ℕ)) (reader : AskReader) (at : ℕ) (result : Result (Vec Addr X) AskError) → now ≡ before → Asking content reader at → ((fed : List ℕ) → AsksStand fed reader → IsList (λ (asks : Vec Addr X). map addr_as asks.items) result (asks_in fed)) → AsksFrom before now name result
cause_of_end before now name content reader at (Ok asks) kept s gives = kept
cause_of_end before now name content reader at (Err (BadLine line)) kept s gives = kept
cause_of_end before now name content reader at (Err NoMemory) kept s gives = kept
cause_of_end before now name content reader at (Err Fault) kept s gives = absurd (gives s.fed s.stands)
cause_of_end before now name content reader at (Err TooLarge) kept s gives = kept

pub cause_of_feed : {X : Type 0} (before now : List ℕ → ℕ) (name : List ℕ) (content : Option (List ℕ)) (old new : AskReader) (room : List ℕ) (at n : ℕ) (error : AskError) (result : Result X AskError) → result ≡ Err error → now ≡ before → Asking content old at → ((fed : List ℕ) → AsksStand fed old → AsksFed {T = Unit {0}} (fed ++ take n room) (Err error) new) → AsksFrom before now name result
cause_of_feed {X = X} before now name content old new room at n error result is kept s fails = subst (AsksFrom before now name) (sym is) (by_error error fails)
  where
    by_error : (error : AskError) → ((fed : List ℕ) → AsksStand fed old → AsksFed {T = Unit {0}} (fed ++ take n room) (Err error) new) → AsksFrom {T = X} before now name (Err error)
    by_error (BadLine line) fails = kept
    by_error NoMemory fails = kept
    by_error Fault fails = absurd (fails s.fed s.stands)
    by_error TooLarge fails = kept

-- ---- where the pass over the input ends

pub reads_of_end : {X : Type 0} (before now : Option (List Read)) (name : List ℕ) (content : Option (List ℕ)) (reader : AskReader) (at : ℕ) (result : Result (Vec Addr X) AskError) → Asking content reader at → ((fed : List ℕ) → AsksStand fed reader → IsList (λ (asks : Vec Addr X). map addr_as asks.items) result (asks_in fed)) → Makes before now (Pass AtEnd name) → Makes before now (Pass (ask_end result) name)
reads_of_end before now name content reader at (Ok asks) s gives made = made
reads_of_end before now name content reader at (Err (BadLine line)) s gives made = pass_stops_at_end before now name made
reads_of_end before now name content reader at (Err NoMemory) s gives made = pass_stops_at_end before now name made
reads_of_end before now name content reader at (Err Fault) s gives made = absurd (gives s.fed s.stands)
reads_of_end before now name content reader at (Err TooLarge) s gives made = absurd (gives s.fed s.stands)

pub reads_of_feed : (before now : Option (List Read)) (name : List ℕ) (content : Option (List ℕ)) (old new : AskReader) (room : List ℕ) (at n : ℕ) (error : AskError) → Asking content old at → ((fed : List ℕ) → AsksStand fed old → AsksFed {T = Unit {0}} (fed ++ take n room) (Err error) new) → Makes before now (Pass Anywhere name) → Makes before now (Pass (asks_end error) name)
reads_of_feed before now name content old new room at n (BadLine line) s fails made = made
reads_of_feed before now name content old new room at n NoMemory s fails made = made
reads_of_feed before now name content old new room at n Fault s fails made = absurd (fails s.fed s.stands)
reads_of_feed before now name content old new room at n TooLarge s fails made = absurd (fails s.fed s.stands)
