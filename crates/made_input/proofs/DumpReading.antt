-- The dump is read as its entries.
use Rattle.std.proofs.Common.{◌≡◌, ℕ, zero, suc, ◌+◌, ◌<◌, ◌≤◌, false, List, [], ◌∷◌, ◌++◌, length, map, Some, Ok, refl, append_assoc, append-nil, arith}
use Rattle.std.specs.Prelude.{flat_map, slice_get, ◌==◌}
use Rattle.std.specs.List.{range_with_len}
use Rattle.std.proofs.lemmas.Bool.{ne_eqb}
use Rattle.table_model.specs.declared.family.Family.TheVariants.{V4}
use Rattle.route_model.specs.Events.{Peer}
use Rattle.octet_fields.specs.Field.{one_more, times}
use Rattle.wire_model.specs.declared.rule.Rule.{Rule}
use Rattle.wire_model.specs.declared.rule.Rule.TheVariants.{PeerTableForm, RibForm}
use Rattle.wire_model.specs.declared.place.Place.TheVariants.{Rib}
use Rattle.wire_model.specs.Wire.{address_at}
use Rattle.wire_model.specs.Rib.{peer_at, peer_table, rib_entry_at, rib}
use Rattle.made_input.specs.Drawn.{ipv4, peer_octets, made_asn, made_peer, made_peers, DrawnRoute, DrawnOffer, announcement}
use Rattle.wire_model.specs.Octets.{number_octets, prefix_octets}
use Rattle.made_input.specs.Files.{peer_entry, peer_table_body, attrs_attributes, rib_body}
use Rattle.wire_model.proofs.Fields.{length-number_octets, octets_read, octets_all, number_read, nothing_read, no_octets_read}
use Rattle.wire_model.proofs.Prefixes.{v4_read}
use Rattle.made_input.proofs.AttributeReading.{length-attributes, attributes_read}
use Rattle.made_input.proofs.Bounds.{IsRoute, IsOffer}

-- ---- the peers

pub address_read : (cut : Rule) (xs rest : List ℕ) → length xs ≡ 4 → address_at cut V4 (xs ++ rest) ≡ Ok (ipv4 xs, rest)
unfolding address_at
address_read cut xs rest e = rw (octets_read cut 4 xs rest e) refl

peer_read : (i : ℕ) (rest : List ℕ) → i < 8 → peer_at (peer_entry i ++ rest) ≡ Ok (made_peer i, rest)
unfolding peer_at peer_entry made_peer
peer_read i rest h =
    let behind = number_octets 4 (made_asn i) ++ rest in
    rw (octets_read PeerTableForm 4 (peer_octets i) (peer_octets i ++ behind) refl, address_read PeerTableForm (peer_octets i) behind refl, number_read PeerTableForm 4 (made_asn i) rest (omega arith)) refl

peers_read : (a n : ℕ) (front : List Peer) (rest : List ℕ) → a + n ≤ 8 → times (one_more peer_at) n front (flat_map peer_entry (range_with_len a n) ++ rest) ≡ Ok (front ++ map made_peer (range_with_len a n), rest)
unfolding times
peers_read a zero front rest h = rw (append-nil front) refl
peers_read a (suc n) front rest h =
    let behind = flat_map peer_entry (range_with_len (a + 1) n) in
    let one : one_more peer_at front (peer_entry a ++ (behind ++ rest)) ≡ Ok (front ++ made_peer a ∷ [], behind ++ rest) = rw (peer_read a (behind ++ rest) (omega arith)) refl in
    rw (append_assoc (peer_entry a) behind rest, one, peers_read (a + 1) n (front ++ made_peer a ∷ []) rest (omega arith), append_assoc front (made_peer a ∷ []) (map made_peer (range_with_len (a + 1) n))) refl

pub table_read : peer_table peer_table_body ≡ Ok made_peers
unfolding peer_table peer_table_body
table_read =
    let id = number_octets 4 0 in
    let peers = flat_map peer_entry (range_with_len 0 8) in
    let behind = number_octets 2 0 ++ (number_octets 2 8 ++ (peers ++ [])) in
    let same : id ++ number_octets 2 0 ++ number_octets 2 8 ++ peers ≡ id ++ behind = simp (append_assoc, append-nil) refl in
    rw (same, octets_read PeerTableForm 4 id behind (length-number_octets 4 0), number_read PeerTableForm 2 0 (number_octets 2 8 ++ (peers ++ [])) (omega arith), no_octets_read PeerTableForm (number_octets 2 8 ++ (peers ++ [])), number_read PeerTableForm 2 8 (peers ++ []) (omega arith), peers_read 0 8 [] [] (omega arith)) refl

-- the peer at an index
peer_found : (i : ℕ) → i < 8 → slice_get made_peers i ≡ Some (made_peer i)
peer_found zero h = refl
peer_found (suc zero) h = refl
peer_found (suc (suc zero)) h = refl
peer_found (suc (suc (suc zero))) h = refl
peer_found (suc (suc (suc (suc zero)))) h = refl
peer_found (suc (suc (suc (suc (suc zero))))) h = refl
peer_found (suc (suc (suc (suc (suc (suc zero)))))) h = refl
peer_found (suc (suc (suc (suc (suc (suc (suc zero))))))) h = refl
peer_found (suc (suc (suc (suc (suc (suc (suc (suc i)))))))) h = absurd (omega arith)

-- ---- an entry

abbrev entry_octets : DrawnRoute → DrawnOffer → List ℕ
entry_octets r o = number_octets 2 r.peer ++ (number_octets 4 0 ++ (number_octets 2 (length (attrs_attributes r.peer o)) ++ attrs_attributes r.peer o))

entry_read : (r : DrawnRoute) (o : DrawnOffer) → IsRoute r → IsOffer o → rib_entry_at made_peers false V4 r.prefix (entry_octets r o) ≡ Ok (announcement r o, [])
unfolding rib_entry_at
entry_read r o route attrs =
    let time = number_octets 4 0 in
    let list = attrs_attributes r.peer o in
    let area = number_octets 2 (length list) ++ list in
    let peer : r.peer < 8 = route.peer in
    let path : o.path ≤ 4 = attrs.path in
    let some : (o.path == 0) ≡ false = ne_eqb o.path 0 (omega (arith, attrs.some)) in
    rw (number_read RibForm 2 r.peer (time ++ area) (omega arith), peer_found r.peer peer, octets_read RibForm 4 time area (length-number_octets 4 0), nothing_read RibForm area, number_read RibForm 2 (length list) list (omega (arith, length-attributes r.peer o)), octets_all RibForm (length list) list refl, attributes_read (Rib V4) refl r.peer o peer, some) refl

pub rib_read : (i : ℕ) (r : DrawnRoute) (o : DrawnOffer) → IsRoute r → IsOffer o → rib made_peers false V4 (rib_body i r o) ≡ Ok (announcement r o ∷ [])
unfolding rib rib_body times
rib_read i r o route attrs =
    let sequence = number_octets 4 i in
    let behind = number_octets 2 1 ++ entry_octets r o in
    let same : sequence ++ prefix_octets r.prefix ++ number_octets 2 1 ++ number_octets 2 r.peer ++ number_octets 4 0 ++ (number_octets 2 (length (attrs_attributes r.peer o)) ++ attrs_attributes r.peer o) ≡ sequence ++ (prefix_octets r.prefix ++ behind) = simp append_assoc refl in
    rw (same, octets_read RibForm 4 sequence (prefix_octets r.prefix ++ behind) (length-number_octets 4 i), v4_read RibForm r.prefix behind route.family route.few, number_read RibForm 2 1 (entry_octets r o) (omega arith), entry_read r o route attrs) refl
