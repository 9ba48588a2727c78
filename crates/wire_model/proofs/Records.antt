-- Records are read one after another.
use Rattle.std.proofs.Common.{◌≡◌, ℕ, zero, suc, ◌+◌, ◌^◌, ◌<◌, ◌≤◌, false, List, [], ◌∷◌, ◌++◌, length, map, Option, Some, Ok, refl, ap, ◌∙◌, append_assoc, append-nil, length-append, add-zero, arith}
use Rattle.std.specs.Prelude.{nat_lt, flat_map}
use Rattle.std.specs.List.{range_with_len}
use Rattle.std.proofs.lemmas.Bool.{le-ltb}
use Rattle.route_model.specs.Events.{Peer, Event}
use Rattle.octet_fields.specs.Field.{steps, until_end}
use Rattle.wire_model.specs.declared.rule.Rule.TheVariants.{HeaderCut, BodyCut}
use Rattle.wire_model.specs.Record.{most_length, record_at}
use Rattle.wire_model.proofs.More.{until_end_next}
use Rattle.wire_model.specs.Update.{Said, said}
use Rattle.wire_model.specs.Input.{Progress, record_in, counted, read_record}
use Rattle.wire_model.proofs.Reading.{shortens}
use Rattle.wire_model.specs.Octets.{number_octets, record_octets}
use Rattle.wire_model.proofs.Fields.{length-number_octets, octets_read, number_read}

pub length-record : (kind subtype : ℕ) (body : List ℕ) → length (record_octets kind subtype body) ≡ 12 + length body
unfolding record_octets
length-record kind subtype body =
    let time = number_octets 4 0 in
    let k = number_octets 2 kind in
    let s = number_octets 2 subtype in
    let len = number_octets 4 (length body) in
    omega (arith, length-append (time ++ k ++ s ++ len) body, length-append (time ++ k ++ s) len, length-append (time ++ k) s, length-append time k, length-number_octets 4 0, length-number_octets 2 kind, length-number_octets 2 subtype, length-number_octets 4 (length body))

long_enough : (kind subtype len : ℕ) (rest : List ℕ) → 12 ≤ length (number_octets 4 0 ++ (number_octets 2 kind ++ (number_octets 2 subtype ++ (number_octets 4 len ++ rest))))
long_enough kind subtype len rest =
    let time = number_octets 4 0 in
    let k = number_octets 2 kind in
    let s = number_octets 2 subtype in
    let l = number_octets 4 len in
    omega (arith, length-append time (k ++ (s ++ (l ++ rest))), length-append k (s ++ (l ++ rest)), length-append s (l ++ rest), length-append l rest, length-number_octets 4 0, length-number_octets 2 kind, length-number_octets 2 subtype, length-number_octets 4 len)

pub record_found : (kind subtype : ℕ) (body rest : List ℕ) → kind < 256 ^ 2 → subtype < 256 ^ 2 → length body ≤ most_length → record_at (record_octets kind subtype body ++ rest) ≡ Ok (record { kind = kind; subtype = subtype; body = body }, rest)
unfolding record_at record_octets
record_found kind subtype body rest k s few =
    let time = number_octets 4 0 in
    let behind = number_octets 2 kind ++ (number_octets 2 subtype ++ (number_octets 4 (length body) ++ (body ++ rest))) in
    let same : (time ++ number_octets 2 kind ++ number_octets 2 subtype ++ number_octets 4 (length body) ++ body) ++ rest ≡ time ++ behind = simp append_assoc refl in
    let long : nat_lt (length (time ++ behind)) 12 ≡ false = le-ltb _ _ (long_enough kind subtype (length body) (body ++ rest)) in
    let allowed : nat_lt most_length (length body) ≡ false = le-ltb _ _ few in
    rw (same, long, octets_read HeaderCut 4 time behind (length-number_octets 4 0), number_read HeaderCut 2 kind _ k, number_read HeaderCut 2 subtype _ s, number_read HeaderCut 4 (length body) (body ++ rest) (omega arith), allowed, octets_read BodyCut (length body) body rest refl) refl

-- a record that tells what it holds is counted
pub record_read : (read : Progress) (told : Option (List Peer) × Option Said) (kind subtype : ℕ) (body rest : List ℕ) → kind < 256 ^ 2 → subtype < 256 ^ 2 → length body ≤ most_length → record_in read.peers (record { kind = kind; subtype = subtype; body = body }) ≡ Ok told → read_record read (record_octets kind subtype body ++ rest) ≡ Ok (counted read told, rest)
unfolding read_record
record_read read told kind subtype body rest k s few e = rw (record_found kind subtype body rest k s few, e) refl

-- what was read, where nothing was skipped or treated
abbrev pub read_so : Option (List Peer) → List Event → ℕ → Progress
read_so peers events records = record { peers = peers; events = events; records = records; skipped = 0; treated = 0 }

-- records of which each says one event
pub records_read : (peers : Option (List Peer)) (octets : ℕ → List ℕ) (event : ℕ → Event)
    → ((i records : ℕ) (events : List Event) (rest : List ℕ) → read_record (read_so peers events records) (octets i ++ rest) ≡ Ok (counted (read_so peers events records) (peers, Some (said (event i ∷ []))), rest))
    → (a n records : ℕ) (events : List Event) → until_end read_record (read_so peers events records) (flat_map octets (range_with_len a n)) ≡ Ok (read_so peers (events ++ map event (range_with_len a n)) (records + n))
unfolding steps
records_read peers octets event one a zero records events = rw (append-nil events, add-zero records) refl
records_read peers octets event one a (suc n) records events =
    let rest = flat_map octets (range_with_len (a + 1) n) in
    let behind = records_read peers octets event one (a + 1) n (records + 1) (events ++ event a ∷ []) in
    let count : records + 1 + n ≡ records + suc n = omega arith in
    until_end_next read_record shortens (read_so peers events records) (counted (read_so peers events records) (peers, Some (said (event a ∷ [])))) (octets a ++ rest) rest (one a records events rest)
    ∙ (behind ∙ ap (λ (all : List Event). Ok (read_so peers all (records + 1 + n))) (append_assoc events (event a ∷ []) (map event (range_with_len (a + 1) n)))
    ∙ ap (λ (k : ℕ). Ok (read_so peers (events ++ event a ∷ map event (range_with_len (a + 1) n)) k)) count)
