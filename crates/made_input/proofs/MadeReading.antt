-- What is made is read as what was drawn.
use Rattle.std.proofs.Common.{◌≡◌, ℕ, zero, suc, ◌+◌, ◌*◌, ◌/◌, ◌≤◌, Bool, List, [], ◌∷◌, ◌++◌, length, Some, None, Ok, refl, ap, ◌∙◌, length-append, zero-add, arith}
use Rattle.std.specs.Prelude.{flat_map}
use Rattle.std.specs.List.{range_with_len}
use Rattle.route_model.specs.Events.{Event}
use Rattle.wire_model.proofs.More.{until_end_next}
use Rattle.wire_model.specs.Update.{said}
use Rattle.wire_model.specs.Input.{start, record_in, counted, read_record, input}
use Rattle.wire_model.proofs.Reading.{shortens}
use Rattle.made_input.specs.Drawn.{made_asn, made_peers, DrawnRoute, DrawnOffer, announcement, entry_route, entry_attrs, entry_state, update_route, update_attrs, is_withdrawal, dump_events, update_events}
use Rattle.made_input.specs.Draws.{state_after}
use Rattle.wire_model.specs.Octets.{number_octets, prefix_octets, record_octets}
use Rattle.made_input.specs.Files.{peer_entry, peer_table_body, attrs_attributes, rib_body, dump_octets, session_body, message_octets, update_body, update_record, updates_octets}
use Rattle.wire_model.proofs.Fields.{length-number_octets}
use Rattle.wire_model.proofs.Prefixes.{length-prefix}
use Rattle.made_input.proofs.AttributeReading.{length-attributes}
use Rattle.made_input.proofs.Bounds.{IsRoute, IsOffer, route_is, attrs_is}
use Rattle.wire_model.proofs.Records.{length-record, record_read, read_so, records_read}
use Rattle.made_input.proofs.DumpReading.{table_read, rib_read}
use Rattle.made_input.proofs.UpdatesReading.{told_of, length-message, length-session, length-update, update_told}

-- ---- lengths

length-peer : (i : ℕ) → length (peer_entry i) ≡ 13
unfolding peer_entry
length-peer i = omega (arith, length-number_octets 4 (made_asn i))

length-peers : (a n : ℕ) → length (flat_map peer_entry (range_with_len a n)) ≡ 13 * n
length-peers a zero = refl
length-peers a (suc n) = omega (arith, length-append (peer_entry a) (flat_map peer_entry (range_with_len (a + 1) n)), length-peer a, length-peers (a + 1) n)

pub length-table : length peer_table_body ≡ 112
unfolding peer_table_body
length-table =
    let id = number_octets 4 0 in
    let name = number_octets 2 0 in
    let count = number_octets 2 8 in
    let peers = flat_map peer_entry (range_with_len 0 8) in
    omega (arith, length-append (id ++ name ++ count) peers, length-append (id ++ name) count, length-append id name, length-number_octets 4 0, length-number_octets 2 0, length-number_octets 2 8, length-peers 0 8)

pub length-rib : (i : ℕ) (r : DrawnRoute) (o : DrawnOffer) → IsRoute r → IsOffer o → length (rib_body i r o) ≤ 50
unfolding rib_body
length-rib i r o route attrs =
    let sequence = number_octets 4 i in
    let prefix = prefix_octets r.prefix in
    let count = number_octets 2 1 in
    let index = number_octets 2 r.peer in
    let time = number_octets 4 0 in
    let list = attrs_attributes r.peer o in
    let len = number_octets 2 (length list) in
    let path : o.path ≤ 4 = attrs.path in
    let bits : length r.prefix.bits ≤ 24 = route.few in
    omega (arith, length-append (sequence ++ prefix ++ count ++ index ++ time) (len ++ list), length-append (sequence ++ prefix ++ count ++ index) time, length-append (sequence ++ prefix ++ count) index, length-append (sequence ++ prefix) count, length-append sequence prefix, length-append len list, length-number_octets 4 i, length-prefix r.prefix route.family route.few, length-number_octets 2 1, length-number_octets 2 r.peer, length-number_octets 4 0, length-attributes r.peer o, length-number_octets 2 (length list))

-- ---- the dump

table_told : (rest : List ℕ) → read_record start (record_octets 13 1 peer_table_body ++ rest) ≡ Ok (read_so (Some made_peers) [] 1, rest)
unfolding record_in
table_told rest = record_read start (Some made_peers, Some (said [])) 13 1 peer_table_body rest (omega arith) (omega arith) (omega (arith, length-table)) (rw table_read refl)

entry_told : (seed i records : ℕ) (events : List Event) (rest : List ℕ) → read_record (read_so (Some made_peers) events records) (record_octets 13 2 (rib_body i (entry_route seed i) (entry_attrs seed i)) ++ rest) ≡ Ok (counted (read_so (Some made_peers) events records) (Some made_peers, Some (said (announcement (entry_route seed i) (entry_attrs seed i) ∷ []))), rest)
unfolding record_in
entry_told seed i records events rest =
    let route = route_is (entry_state seed i) in
    let attrs = attrs_is (state_after (entry_state seed i) 3) in
    let few : length (rib_body i (entry_route seed i) (entry_attrs seed i)) ≤ 50 = length-rib i (entry_route seed i) (entry_attrs seed i) route attrs in
    record_read (read_so (Some made_peers) events records) (Some made_peers, Some (said (announcement (entry_route seed i) (entry_attrs seed i) ∷ []))) 13 2 (rib_body i (entry_route seed i) (entry_attrs seed i)) rest (omega arith) (omega arith) (omega arith) (rw (rib_read i (entry_route seed i) (entry_attrs seed i) route attrs) refl)

pub dump_read : (seed n : ℕ) → input (dump_octets seed n) ≡ Ok (record { peers = Some made_peers; events = dump_events seed n; records = 1 + n; skipped = 0; treated = 0 })
unfolding input
dump_read seed n =
    let rest = flat_map (λ i. record_octets 13 2 (rib_body i (entry_route seed i) (entry_attrs seed i))) (range_with_len 0 n) in
    until_end_next read_record shortens start (read_so (Some made_peers) [] 1) (record_octets 13 1 peer_table_body ++ rest) rest (table_told rest)
    ∙ records_read (Some made_peers) (λ i. record_octets 13 2 (rib_body i (entry_route seed i) (entry_attrs seed i))) (λ i. announcement (entry_route seed i) (entry_attrs seed i)) (entry_told seed) 0 n 1 []

-- ---- the updates

update_counted : (gone : Bool) (r : DrawnRoute) (o : DrawnOffer) → IsRoute r → IsOffer o → (records : ℕ) (events : List Event) (rest : List ℕ) → read_record (read_so None events records) (update_record gone r o ++ rest) ≡ Ok (counted (read_so None events records) (None, Some (said (told_of gone r o ∷ []))), rest)
unfolding record_in update_record
update_counted gone r o route attrs records events rest =
    let body = update_body gone r o in
    let few : length body ≤ 40 = length-update gone r o route attrs in
    record_read (read_so None events records) (None, Some (said (told_of gone r o ∷ []))) 16 4 (session_body r.peer (message_octets body)) rest (omega arith) (omega arith) (omega (arith, length-session r.peer (message_octets body), length-message body)) (rw (update_told gone r o route attrs) refl)

pub updates_read : (seed n : ℕ) → input (updates_octets seed n) ≡ Ok (record { peers = None; events = update_events seed n; records = n / 2; skipped = 0; treated = 0 })
unfolding input
updates_read seed n =
    records_read None (λ j. update_record (is_withdrawal seed n j) (update_route seed n j) (update_attrs seed n j)) (λ j. told_of (is_withdrawal seed n j) (update_route seed n j) (update_attrs seed n j)) (λ j records events rest. update_counted (is_withdrawal seed n j) (update_route seed n j) (update_attrs seed n j) (route_is _) (attrs_is _) records events rest) 0 (n / 2) 0 []
    ∙ ap (λ (k : ℕ). Ok (read_so None (update_events seed n) k)) (zero-add (n / 2))

-- ---- the files are short

pieces_few : (f : ℕ → List ℕ) (k : ℕ) → ((i : ℕ) → length (f i) ≤ k) → (a n : ℕ) → length (flat_map f (range_with_len a n)) ≤ k * n
pieces_few f k h a zero = omega arith
pieces_few f k h a (suc n) = omega (arith, length-append (f a) (flat_map f (range_with_len (a + 1) n)), h a, pieces_few f k h (a + 1) n)

abbrev pub rib_record : ℕ → ℕ → List ℕ
rib_record seed i = record_octets 13 2 (rib_body i (entry_route seed i) (entry_attrs seed i))

rib_few : (seed i : ℕ) → length (rib_record seed i) ≤ 62
rib_few seed i = omega (arith, length-record 13 2 (rib_body i (entry_route seed i) (entry_attrs seed i)), length-rib i (entry_route seed i) (entry_attrs seed i) (route_is (entry_state seed i)) (attrs_is (state_after (entry_state seed i) 3)))

pub dump_few : (seed n : ℕ) → length (dump_octets seed n) ≤ 124 + 62 * n
dump_few seed n = omega (arith, length-append (record_octets 13 1 peer_table_body) (flat_map (rib_record seed) (range_with_len 0 n)), length-record 13 1 peer_table_body, length-table, pieces_few (rib_record seed) 62 (rib_few seed) 0 n)

update_few : (gone : Bool) (r : DrawnRoute) (o : DrawnOffer) → IsRoute r → IsOffer o → length (update_record gone r o) ≤ 91
unfolding update_record
update_few gone r o route attrs =
    let body = update_body gone r o in
    omega (arith, length-record 16 4 (session_body r.peer (message_octets body)), length-session r.peer (message_octets body), length-message body, length-update gone r o route attrs)

pub updates_few : (seed n : ℕ) → length (updates_octets seed n) ≤ 91 * (n / 2)
updates_few seed n = pieces_few (λ j. update_record (is_withdrawal seed n j) (update_route seed n j) (update_attrs seed n j)) 91 (λ j. update_few (is_withdrawal seed n j) (update_route seed n j) (update_attrs seed n j) (route_is _) (attrs_is _)) 0 (n / 2)
