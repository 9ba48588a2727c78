-- Records that are cut, and those that aren't.
use Rattle.std.proofs.Common.{◌≡◌, ℕ, zero, suc, ◌<◌, Bool, true, false, List, [], ◌∷◌, ◌++◌, length, Option, None, Result, Ok, Err, refl, ap, ◌∙◌, inl, inr, arith, length-append}
use Rattle.std.specs.Prelude.{not, ◌&&◌, ◌==◌, ◌⊎◌}
use Rattle.std.proofs.lemmas.Bool.{and_right, eq-eqb, ne_eqb}
use Rattle.route_model.specs.Events.{Peer}
use Rattle.octet_fields.specs.Field.{◌>>=◌, steps}
use Rattle.wire_model.specs.declared.rule.Rule.{Rule}
use Rattle.wire_model.specs.declared.rule.Rule.TheVariants.{HeaderCut, BodyCut, TooLong, PeerTableForm, NoPeerTable, PrefixLength, PeerIndex, RibForm, AttributeCut, AttributeValue, SecondMp, SessionForm, MessageLength, UpdateLengths}
use Rattle.wire_model.specs.Record.{Record, Fault, at_record, record_at, next_record, records_in}
use Rattle.wire_model.specs.Pieces.{TakesRecords}
use Rattle.wire_model.proofs.More.{takes_on, stays_too_long}
use Rattle.wire_model.specs.Input.{Progress}
use Rattle.wire_model.specs.Reading.{ReadsEvents}
use Rattle.mrt_read.specs.InputReading as input
use Rattle.mrt_read.specs.Standing as reading
use Rattle.mrt_read.specs.declared.reader.Reader.{Reader}
use Rattle.mrt_read.specs.Cuts.{cut_at}

pub reads_on : (octets : List ℕ) (read : Progress) (reader : Reader) → reading.reader_refusal reader ≡ None → reading.ReaderStands octets read reader → ReadsEvents octets read (reading.reader_left reader)
reads_on octets read reader none s = rw none at s.goes_on

abbrev pub IsCutNow : Reader → Type 0
IsCutNow = input.IsCutNow

pub cut_at_start : (reader : Reader) → reading.reader_left reader ≡ [] → IsCutNow reader
unfolding record_at
cut_at_start reader empty = rw empty (inl refl)

-- ---- a record that isn't cut

abbrev after_record : List Record → Result (Record × List ℕ) Rule → Result (List Record × List ℕ) Fault
after_record taken r = at_record (length taken) r >>= λ x. Ok (taken ++ x.0 ∷ [], x.1)

number_past : (n : ℕ) (taken : List Record) (octets : List ℕ) (k : ℕ) → k < length taken → cut_at k (steps next_record n taken octets) ≡ false
unfolding steps next_record
number_past n taken [] k h = refl
number_past zero taken (o ∷ os) k h = refl
number_past (suc n) taken (o ∷ os) k h = by_record (record_at (o ∷ os)) (number_past n)
  where
    by_record : (r : Result (Record × List ℕ) Rule) → ((taken : List Record) (octets : List ℕ) (k : ℕ) → k < length taken → cut_at k (steps next_record n taken octets) ≡ false)
        → cut_at k (after_record taken r >>= λ x. steps next_record n x.0 x.1) ≡ false
    by_record (Ok r) ih = ih (taken ++ r.0 ∷ []) r.1 k (omega (arith, length-append taken (r.0 ∷ [])))
    by_record (Err rule) ih = rw (ne_eqb (length taken) k (λ e. omega arith)) refl

long_rule : (number : ℕ) (table : Option (List Peer)) (rule : Rule) (fault : Fault) → reading.reader_next_in number table (Err rule) ≡ Err fault → rule ≡ TooLong
long_rule number table HeaderCut fault e = absurd cc
long_rule number table BodyCut fault e = absurd cc
long_rule number table TooLong fault e = refl
long_rule number table PeerTableForm fault e = absurd cc
long_rule number table NoPeerTable fault e = absurd cc
long_rule number table PrefixLength fault e = absurd cc
long_rule number table PeerIndex fault e = absurd cc
long_rule number table RibForm fault e = absurd cc
long_rule number table AttributeCut fault e = absurd cc
long_rule number table AttributeValue fault e = absurd cc
long_rule number table SecondMp fault e = absurd cc
long_rule number table SessionForm fault e = absurd cc
long_rule number table MessageLength fault e = absurd cc
long_rule number table UpdateLengths fault e = absurd cc

-- what is refused before the end isn't cut
pub uncut : (fed rest : List ℕ) (old : Reader) (taken : List Record) (fault : Fault) → TakesRecords fed taken (reading.reader_left old) → length taken ≡ old.records → reading.reader_refusal old ≡ None → reading.reader_next old ≡ Err fault → cut_at old.records (records_in (fed ++ rest)) ≡ false
uncut fed rest old taken fault t n none next = by_front (record_at (reading.reader_left old)) refl (rw none at next)
  where
    by_front : (front : Result (Record × List ℕ) Rule) → record_at (reading.reader_left old) ≡ front → reading.reader_next_in old.records (reading.peers old) front ≡ Err fault → cut_at old.records (records_in (fed ++ rest)) ≡ false
    by_front (Ok r) is e =
        let on = takes_on fed (reading.reader_left old) r.1 taken r.0 t is in
        ap (cut_at old.records) (on.whatever rest) ∙ number_past (length (r.1 ++ rest)) (taken ++ r.0 ∷ []) (r.1 ++ rest) old.records (omega (arith, n, length-append taken (r.0 ∷ [])))
    by_front (Err rule) is e =
        let over = long_rule old.records (reading.peers old) rule fault e in
        let b = stays_too_long fed (reading.reader_left old) taken t (is ∙ ap Err over) in
        ap (cut_at old.records) (b.whatever rest) ∙ and_right (length taken == old.records) false refl

same_eqb : (a b : ℕ) → a ≡ b → (a == b) ≡ true
same_eqb a b h = eq-eqb a b h

pub cut_rules : (n k : ℕ) (rule : Rule) → n ≡ k → (rule ≡ HeaderCut) ⊎ (rule ≡ BodyCut) → cut_at k (Err (record { number = n; rule = rule })) ≡ true
cut_rules n k rule e (inl h) = rw (h, same_eqb n k e) refl
cut_rules n k rule e (inr h) = rw (h, same_eqb n k e) refl

pub not_cut : (ends b : Bool) → b ≡ false → (not ends && b) ≡ false
not_cut true b e = refl
not_cut false b e = e

pub ends_here : (ends b : Bool) → ends ≡ true → (not ends && b) ≡ false
ends_here true b e = refl
ends_here false b e = absurd cc

pub goes_past : (ends b : Bool) → ends ≡ false → b ≡ true → (not ends && b) ≡ true
goes_past true b e h = absurd cc
goes_past false b e h = h
