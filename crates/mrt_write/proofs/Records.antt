-- The records of a checkpoint are read as its peers and candidates.
use Rattle.std.proofs.Common.{◌≡◌, ℕ, suc, ◌+◌, ◌*◌, ◌%◌, ◌^◌, ◌<◌, ◌≤◌, Bool, true, false, List, [], ◌∷◌, ◌++◌, length, map, Some, Ok, refl, sym, ap, ◌∙◌, append_assoc, append-nil, length-append, add-zero, arith}
use Rattle.std.specs.Prelude.{flat_map}
use Rattle.std.specs.List.{AllByRecursion}
use Rattle.std.proofs.lemmas.List.{map-append}
use Rattle.table_model.specs.declared.family.Family.{Family}
use Rattle.table_model.specs.declared.family.Family.TheVariants.{V4, V6}
use Rattle.table_model.specs.Address.{Prefix}
use Rattle.octet_fields.specs.Field.{one_more, times, steps, until_end}
use Rattle.wire_model.specs.declared.rule.Rule.TheVariants.{PeerTableForm, RibForm}
use Rattle.wire_model.specs.Record.{most_length}
use Rattle.wire_model.specs.Wire.{octets_for, id_size}
use Rattle.table_model.specs.Width.{width}
use Rattle.wire_model.proofs.More.{until_end_next}
use Rattle.wire_model.specs.Rib.{peer_at, peer_table, entry_hop, event_of, rib_entry_at, rib}
use Rattle.wire_model.specs.Update.{said}
use Rattle.wire_model.specs.Input.{start, record_in, read_record, input}
use Rattle.wire_model.proofs.Reading.{shortens}
use Rattle.route_model.specs.Events.{Peer, Event}
use Rattle.route_model.specs.Choice.{Place, PathAttrs, Candidates}
use Rattle.wire_model.specs.Octets.{number_octets, prefix_octets, record_octets}
use Rattle.wire_model.proofs.Fields.{length-number_octets, octets_read, number_read, no_octets_read}
use Rattle.wire_model.proofs.Prefixes.{prefix_read}
use Rattle.wire_model.proofs.Records.{record_read, read_so}
use Rattle.wire_model.specs.Octets.{address_octets}
use Rattle.mrt_write.specs.Entries.{table_peer, peer_index, id_octets, attributes_of, entry_octets}
use Rattle.mrt_write.specs.Checkpoint.{Piece, announced, rib_subtype, table_body, piece_body, piece_record, piece_records, checkpoint}
use Rattle.mrt_write.specs.Writable.{IsWritablePeer, IsWritable, IsPiece, AreWritable, all_of}
use Rattle.wire_model.proofs.Addresses.{length-address, address_read}
use Rattle.mrt_write.proofs.Attributes.{attributes_read, length-attributes}

-- ---- the peers

peer_read_at : (f : Family) (bits : List Bool) (asn : ℕ) (rest : List ℕ) → (let q : Peer = record { addr = record { family = f; bits = bits }; asn = asn } in IsWritablePeer q → peer_at (table_peer q ++ rest) ≡ Ok (q, rest))
unfolding peer_at table_peer
peer_read_at V4 bits asn rest w =
    let q : Peer = record { addr = record { family = V4; bits = bits }; asn = asn } in
    let octets = address_octets q.addr in
    let id = number_octets 4 0 in
    let as4 = number_octets 4 asn in
    let same : (id ++ octets ++ as4) ++ rest ≡ id ++ (octets ++ (as4 ++ rest)) = simp append_assoc refl in
    let small : asn < 2 ^ 32 = w.asn in
    rw (same, octets_read PeerTableForm 4 id (octets ++ (as4 ++ rest)) (length-number_octets 4 0), address_read PeerTableForm q.addr (as4 ++ rest) w.addr, number_read PeerTableForm 4 asn rest (omega arith)) refl
peer_read_at V6 bits asn rest w =
    let q : Peer = record { addr = record { family = V6; bits = bits }; asn = asn } in
    let octets = address_octets q.addr in
    let id = number_octets 4 0 in
    let as4 = number_octets 4 asn in
    let same : (id ++ octets ++ as4) ++ rest ≡ id ++ (octets ++ (as4 ++ rest)) = simp append_assoc refl in
    let small : asn < 2 ^ 32 = w.asn in
    rw (same, octets_read PeerTableForm 4 id (octets ++ (as4 ++ rest)) (length-number_octets 4 0), address_read PeerTableForm q.addr (as4 ++ rest) w.addr, number_read PeerTableForm 4 asn rest (omega arith)) refl

peer_read : (q : Peer) (rest : List ℕ) → IsWritablePeer q → peer_at (table_peer q ++ rest) ≡ Ok (q, rest)
peer_read q rest w = peer_read_at q.addr.family q.addr.bits q.asn rest w

peers_read : (peers front : List Peer) (rest : List ℕ) → AllByRecursion IsWritablePeer peers → times (one_more peer_at) (length peers) front (flat_map table_peer peers ++ rest) ≡ Ok (front ++ peers, rest)
unfolding times
peers_read [] front rest w = rw (append-nil front) refl
peers_read (q ∷ peers) front rest w =
    let behind = flat_map table_peer peers in
    let one : one_more peer_at front (table_peer q ++ (behind ++ rest)) ≡ Ok (front ++ q ∷ [], behind ++ rest) = rw (peer_read q (behind ++ rest) w.0) refl in
    rw (append_assoc (table_peer q) behind rest, one, peers_read peers (front ++ q ∷ []) rest w.1, append_assoc front (q ∷ []) peers) refl

pub table_read : (peers : List Peer) → length peers ≤ 65535 → AllByRecursion IsWritablePeer peers → peer_table (table_body peers) ≡ Ok peers
unfolding peer_table table_body
table_read peers few w =
    let id = number_octets 4 0 in
    let octets = flat_map table_peer peers in
    let behind = number_octets 2 0 ++ (number_octets 2 (length peers) ++ (octets ++ [])) in
    let same : id ++ (number_octets 2 0 ++ (number_octets 2 (length peers) ++ octets)) ≡ id ++ behind = simp append-nil refl in
    rw (same, octets_read PeerTableForm 4 id behind (length-number_octets 4 0), number_read PeerTableForm 2 0 (number_octets 2 (length peers) ++ (octets ++ [])) (omega arith), no_octets_read PeerTableForm (number_octets 2 (length peers) ++ (octets ++ [])), number_read PeerTableForm 2 (length peers) (octets ++ []) (omega arith), peers_read peers [] [] w) refl

-- ---- an entry

entry_read : (peers : List Peer) (ids : Bool) (p : Prefix) (c : Place × PathAttrs) (rest : List ℕ) → IsWritable peers ids p c → rib_entry_at peers ids p.family p (entry_octets peers ids c ++ rest) ≡ Ok (announced c, rest)
unfolding rib_entry_at entry_octets
entry_read peers ids p c rest w =
    let index = peer_index peers c.0.via.peer in
    let list = attributes_of c in
    let read = attributes_read p.family c w.asn w.path w.hop in
    let after = number_octets 2 (length list) ++ (list ++ rest) in
    let behind = number_octets 4 0 ++ (id_octets ids c.0.via.id ++ after) in
    let same : (number_octets 2 index ++ (number_octets 4 0 ++ (id_octets ids c.0.via.id ++ (number_octets 2 (length list) ++ list)))) ++ rest ≡ number_octets 2 index ++ behind = simp append_assoc refl in
    let small : index < 2 ^ 16 = w.index in
    let event : event_of read.list.path (entry_hop p.family read.list) c.0.via p ≡ announced c = rw (read.path, read.hop, w.prefix) refl in
    rw (same, number_read RibForm 2 index behind (omega arith), w.peer, octets_read RibForm 4 (number_octets 4 0) (id_octets ids c.0.via.id ++ after) (length-number_octets 4 0), number_read RibForm (id_size ids) c.0.via.id after w.id, number_read RibForm 2 (length list) (list ++ rest) (length-attributes c w.path), octets_read RibForm (length list) list rest refl, read.read, event) refl

entries_read : (peers : List Peer) (ids : Bool) (p : Prefix) (cs : Candidates) (front : List Event) (rest : List ℕ) → AllByRecursion (IsWritable peers ids p) cs
    → times (one_more (rib_entry_at peers ids p.family p)) (length cs) front (flat_map (entry_octets peers ids) cs ++ rest) ≡ Ok (front ++ map announced cs, rest)
unfolding times
entries_read peers ids p [] front rest w = rw (append-nil front) refl
entries_read peers ids p (c ∷ cs) front rest w =
    let behind = flat_map (entry_octets peers ids) cs in
    let one : one_more (rib_entry_at peers ids p.family p) front (entry_octets peers ids c ++ (behind ++ rest)) ≡ Ok (front ++ announced c ∷ [], behind ++ rest) = rw (entry_read peers ids p c (behind ++ rest) w.0) refl in
    rw (append_assoc (entry_octets peers ids c) behind rest, one, entries_read peers ids p cs (front ++ announced c ∷ []) rest w.1, append_assoc front (announced c ∷ []) (map announced cs)) refl

pub rib_read : (peers : List Peer) (ids : Bool) (number : ℕ) (p : Piece) → IsPiece peers ids p → rib peers ids p.prefix.family (piece_body peers ids number p) ≡ Ok (map announced p.candidates)
unfolding rib piece_body
rib_read peers ids number p w =
    let sequence = number_octets 4 (number % 2 ^ 32) in
    let entries = flat_map (entry_octets peers ids) p.candidates in
    let count = number_octets 2 (length p.candidates) ++ (entries ++ []) in
    let same : sequence ++ (prefix_octets p.prefix ++ (number_octets 2 (length p.candidates) ++ entries)) ≡ sequence ++ (prefix_octets p.prefix ++ count) = simp append-nil refl in
    let few : length p.candidates ≤ 65535 = w.few in
    rw (same, octets_read RibForm 4 sequence (prefix_octets p.prefix ++ count) (length-number_octets 4 (number % 2 ^ 32)), prefix_read RibForm p.prefix count w.is_prefix, number_read RibForm 2 (length p.candidates) (entries ++ []) (omega arith), entries_read peers ids p.prefix p.candidates [] [] w.candidates) refl

-- ---- the records

few_octets : (f : Family) → octets_for (width f) ≤ 16
few_octets V4 = omega arith
few_octets V6 = omega arith

length-peers : (peers : List Peer) → length (flat_map table_peer peers) ≤ 25 * length peers
unfolding table_peer
length-peers [] = omega arith
length-peers (q ∷ peers) =
    let octets = address_octets q.addr in
    omega (arith, length-peers peers, length-append (table_peer q) (flat_map table_peer peers), length-append (number_octets 4 0 ++ octets) (number_octets 4 q.asn), length-append (number_octets 4 0) octets, length-number_octets 4 0, length-address q.addr, few_octets q.addr.family, length-number_octets 4 q.asn)

pub length-table : (peers : List Peer) → length peers ≤ 65535 → length (table_body peers) ≤ most_length
unfolding table_body
length-table peers few =
    let octets = flat_map table_peer peers in
    omega (arith, length-append (number_octets 4 0) (number_octets 2 0 ++ (number_octets 2 (length peers) ++ octets)), length-append (number_octets 2 0) (number_octets 2 (length peers) ++ octets), length-append (number_octets 2 (length peers)) octets, length-number_octets 4 0, length-number_octets 2 0, length-number_octets 2 (length peers), length-peers peers)

rib_told_at : (ids : Bool) (f : Family) (peers : List Peer) (body : List ℕ) (events : List Event) → rib peers ids f body ≡ Ok events → record_in (Some peers) (record { kind = 13; subtype = rib_subtype ids f; body = body }) ≡ Ok (Some peers, Some (said events))
unfolding record_in
rib_told_at false V4 peers body events e = rw e refl
rib_told_at false V6 peers body events e = rw e refl
rib_told_at true V4 peers body events e = rw e refl
rib_told_at true V6 peers body events e = rw e refl

few_subtypes : (ids : Bool) (f : Family) → rib_subtype ids f < 256 ^ 2
few_subtypes false V4 = omega arith
few_subtypes false V6 = omega arith
few_subtypes true V4 = omega arith
few_subtypes true V6 = omega arith

record_told : (peers : List Peer) (ids : Bool) (number : ℕ) (p : Piece) (events : List Event) (records : ℕ) (rest : List ℕ) → IsPiece peers ids p
    → read_record (read_so (Some peers) events records) (piece_record peers ids number p ++ rest) ≡ Ok (read_so (Some peers) (events ++ map announced p.candidates) (records + 1), rest)
unfolding piece_record
record_told peers ids number p events records rest w =
    record_read (read_so (Some peers) events records) (Some peers, Some (said (map announced p.candidates))) 13 (rib_subtype ids p.prefix.family) (piece_body peers ids number p) rest (omega arith) (few_subtypes ids p.prefix.family) (w.small number) (rib_told_at ids p.prefix.family peers (piece_body peers ids number p) (map announced p.candidates) (rib_read peers ids number p w))

all_more : (events : List Event) (p : Piece) (pieces : List Piece) → (events ++ map announced p.candidates) ++ map announced (all_of pieces) ≡ events ++ map announced (all_of (p ∷ pieces))
all_more events p pieces = append_assoc events (map announced p.candidates) (map announced (all_of pieces)) ∙ ap (λ xs. events ++ xs) (sym (map-append announced p.candidates (all_of pieces)))

pieces_read : (peers : List Peer) (ids : Bool) (pieces : List Piece) (number : ℕ) (events : List Event) (records : ℕ) → AllByRecursion (IsPiece peers ids) pieces
    → until_end read_record (read_so (Some peers) events records) (piece_records peers ids number pieces) ≡ Ok (read_so (Some peers) (events ++ map announced (all_of pieces)) (records + length pieces))
unfolding steps piece_records
pieces_read peers ids [] number events records w = rw (append-nil events, add-zero records) refl
pieces_read peers ids (p ∷ pieces) number events records w =
    let rest = piece_records peers ids (number + 1) pieces in
    let next = read_so (Some peers) (events ++ map announced p.candidates) (records + 1) in
    let behind = pieces_read peers ids pieces (number + 1) (events ++ map announced p.candidates) (records + 1) w.1 in
    let count : records + 1 + length pieces ≡ records + suc (length pieces) = omega arith in
    until_end_next read_record shortens (read_so (Some peers) events records) next (piece_record peers ids number p ++ rest) rest (record_told peers ids number p events records rest w.0)
    ∙ (behind ∙ (ap (λ all. Ok (read_so (Some peers) all (records + 1 + length pieces))) (all_more events p pieces) ∙ ap (λ k. Ok (read_so (Some peers) (events ++ map announced (all_of (p ∷ pieces))) k)) count))

pub checkpoint_read : (peers : List Peer) (ids : Bool) (pieces : List Piece) → AreWritable peers ids pieces → input (checkpoint peers ids pieces) ≡ Ok (read_so (Some peers) (map announced (all_of pieces)) (1 + length pieces))
unfolding input record_in
checkpoint_read peers ids pieces w =
    let rest = piece_records peers ids 0 pieces in
    let table = record_read start (Some peers, Some (said [])) 13 1 (table_body peers) rest (omega arith) (omega arith) (length-table peers w.few) (rw (table_read peers w.few w.each) refl) in
    until_end_next read_record shortens start (read_so (Some peers) [] 1) (record_octets 13 1 (table_body peers) ++ rest) rest table ∙ pieces_read peers ids pieces 0 [] 1 w.whole
