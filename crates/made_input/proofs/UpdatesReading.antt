-- The updates are read as what was drawn.
use Rattle.std.proofs.Common.{◌≡◌, ℕ, ◌+◌, ◌^◌, ◌<◌, ◌≤◌, Bool, false, true, List, [], ◌∷◌, ◌++◌, length, replicate, Some, Ok, refl, sym, ap, ◌∙◌, append_assoc, append-nil, length-append, arith}
use Rattle.std.specs.Prelude.{nat_lt, ◌==◌, if◌then◌else◌}
use Rattle.std.proofs.Common.{eq-eqb}
use Rattle.std.proofs.lemmas.Bool.{le-ltb, ne_eqb}
use Rattle.std.proofs.lemmas.List.{length-replicate}
use Rattle.table_model.specs.declared.family.Family.TheVariants.{V4}
use Rattle.table_model.specs.Address.{Prefix}
use Rattle.route_model.specs.Events.{Peer, Event}
use Rattle.octet_fields.specs.Field.{number_at, steps}
use Rattle.wire_model.specs.declared.rule.Rule.{Rule}
use Rattle.wire_model.specs.declared.rule.Rule.TheVariants.{SessionForm, MessageLength, UpdateLengths}
use Rattle.wire_model.specs.declared.place.Place.TheVariants.{Update}
use Rattle.wire_model.specs.Wire.{nlris}
use Rattle.wire_model.specs.Attribute.{nothing_found, listed_from, attributes}
use Rattle.wire_model.specs.Update.{Said, said, update, message, session_behind, session_in, bgp4mp}
use Rattle.made_input.specs.Drawn.{peer_octets, made_asn, made_peer, DrawnRoute, DrawnOffer, announcement, withdrawal}
use Rattle.wire_model.specs.Octets.{number_octets, prefix_octets}
use Rattle.made_input.specs.Files.{attrs_attributes, update_body, message_octets, session_body}
use Rattle.wire_model.proofs.Fields.{length-number_octets, octets_read, number_read, no_octets_read}
use Rattle.wire_model.proofs.Prefixes.{length-prefix, nlri_read}
use Rattle.made_input.proofs.AttributeReading.{length-attributes, attributes_read}
use Rattle.made_input.proofs.Bounds.{IsRoute, IsOffer}
use Rattle.made_input.proofs.DumpReading.{address_read}

-- what an update says
abbrev pub told_of : Bool → DrawnRoute → DrawnOffer → Event
told_of gone r o = if gone then withdrawal r else announcement r o

-- lists that are empty
no_nlri : (cut : Rule) → nlris cut false V4 [] ≡ Ok []
unfolding nlris steps
no_nlri cut = refl

no_attributes : attributes (Update true false) [] ≡ Ok (listed_from nothing_found)
unfolding attributes steps
no_attributes = refl

-- a number with nothing behind it
last_number : {F : Type 0} (fault : F) (k n : ℕ) → n < 256 ^ k → number_at fault k (number_octets k n) ≡ Ok (n, [])
last_number fault k n h = ap (number_at fault k) (sym (append-nil (number_octets k n))) ∙ number_read fault k n [] h

prefix_below : (p : Prefix) → p.family ≡ V4 → length p.bits ≤ 24 → length (prefix_octets p) ≤ 4
prefix_below p v4 few = omega (arith, length-prefix p v4 few)

update_read : (gone : Bool) (r : DrawnRoute) (o : DrawnOffer) → IsRoute r → IsOffer o → update true false (made_peer r.peer) (update_body gone r o) ≡ Ok (said (told_of gone r o ∷ []))
unfolding update update_body
update_read true r o route attrs =
    let prefix = prefix_octets r.prefix in
    let none = number_octets 2 0 in
    let same : (number_octets 2 (length prefix) ++ prefix) ++ none ≡ number_octets 2 (length prefix) ++ (prefix ++ none) = append_assoc (number_octets 2 (length prefix)) prefix none in
    let short : length prefix ≤ 4 = prefix_below r.prefix route.family route.few in
    rw (same, number_read UpdateLengths 2 (length prefix) (prefix ++ none) (omega arith), octets_read UpdateLengths (length prefix) prefix none refl, nlri_read UpdateLengths r.prefix route.family route.few, last_number UpdateLengths 2 0 (omega arith), no_attributes, no_nlri UpdateLengths) refl
update_read false r o route attrs =
    let prefix = prefix_octets r.prefix in
    let none = number_octets 2 0 in
    let list = attrs_attributes r.peer o in
    let same : none ++ (number_octets 2 (length list) ++ list) ++ prefix ≡ none ++ (number_octets 2 (length list) ++ (list ++ prefix)) = simp append_assoc refl in
    let path : o.path ≤ 4 = attrs.path in
    let some : (o.path == 0) ≡ false = ne_eqb o.path 0 (omega (arith, attrs.some)) in
    rw (same, number_read UpdateLengths 2 0 (number_octets 2 (length list) ++ (list ++ prefix)) (omega arith), no_octets_read UpdateLengths (number_octets 2 (length list) ++ (list ++ prefix)), no_nlri UpdateLengths, number_read UpdateLengths 2 (length list) (list ++ prefix) (omega (arith, length-attributes r.peer o)), octets_read UpdateLengths (length list) list prefix refl, attributes_read (Update true false) refl r.peer o route.peer, some, nlri_read UpdateLengths r.prefix route.family route.few) refl

-- ---- the message

pub length-message : (body : List ℕ) → length (message_octets body) ≡ 19 + length body
unfolding message_octets
length-message body =
    let marker : List ℕ = replicate 16 255 in
    let len = number_octets 2 (19 + length body) in
    omega (arith, length-append (marker ++ len) (2 ∷ body), length-append marker len, length-replicate {A = ℕ} 16 255, length-number_octets 2 (19 + length body))

message_read : (peer : Peer) (body : List ℕ) (words : Said) → length body ≤ 60000 → update true false peer body ≡ Ok words → message true false peer (message_octets body) ≡ Ok words
unfolding message message_octets
message_read peer body words few e =
    let marker : List ℕ = replicate 16 255 in
    let len = number_octets 2 (19 + length body) in
    let behind = len ++ 2 ∷ body in
    let same : marker ++ len ++ 2 ∷ body ≡ marker ++ behind = append_assoc marker len (2 ∷ body) in
    let size : length (marker ++ behind) ≡ 19 + length body = ap length (sym same) ∙ length-message body in
    let long : nat_lt (length (marker ++ behind)) 19 ≡ false = le-ltb _ _ (omega arith) in
    let whole : (19 + length body == length (marker ++ behind)) ≡ true = eq-eqb _ _ (sym size) in
    rw (same, long, octets_read MessageLength 16 marker behind (length-replicate {A = ℕ} 16 255), number_read MessageLength 2 (19 + length body) (2 ∷ body) (omega arith), whole, e) refl

-- ---- the record

session_read : (peer : ℕ) (octets : List ℕ) (words : Said) → peer < 8 → message true false (made_peer peer) octets ≡ Ok words → bgp4mp 4 false (session_body peer octets) ≡ Ok (Some words)
unfolding bgp4mp session_in session_behind session_body made_peer
session_read peer octets words h e =
    let local = number_octets 4 64511 in
    let interface = number_octets 2 0 in
    let here : List ℕ = 192 ∷ 0 ∷ 2 ∷ 254 ∷ [] in
    let addresses = peer_octets peer ++ (here ++ octets) in
    let behind = number_octets 2 1 ++ addresses in
    let same : number_octets 4 (made_asn peer) ++ local ++ interface ++ number_octets 2 1 ++ peer_octets peer ++ here ++ octets ≡ number_octets 4 (made_asn peer) ++ (local ++ (interface ++ behind)) = simp append_assoc refl in
    rw (same, no_octets_read SessionForm (number_octets 4 (made_asn peer) ++ (local ++ (interface ++ behind))), number_read SessionForm 4 (made_asn peer) (local ++ (interface ++ behind)) (omega arith), octets_read SessionForm 4 local (interface ++ behind) (length-number_octets 4 64511), octets_read SessionForm 2 interface behind (length-number_octets 2 0), number_read SessionForm 2 1 addresses (omega arith), address_read SessionForm (peer_octets peer) (here ++ octets) refl, address_read SessionForm here octets refl, e) refl

-- ---- lengths

pub length-update : (gone : Bool) (r : DrawnRoute) (o : DrawnOffer) → IsRoute r → IsOffer o → length (update_body gone r o) ≤ 40
unfolding update_body
length-update true r o route attrs =
    let prefix = prefix_octets r.prefix in
    let len = number_octets 2 (length prefix) in
    omega (arith, prefix_below r.prefix route.family route.few, length-append (len ++ prefix) (number_octets 2 0), length-append len prefix, length-number_octets 2 (length prefix), length-number_octets 2 0)
length-update false r o route attrs =
    let prefix = prefix_octets r.prefix in
    let list = attrs_attributes r.peer o in
    let len = number_octets 2 (length list) in
    let none = number_octets 2 0 in
    let path : o.path ≤ 4 = attrs.path in
    omega (arith, prefix_below r.prefix route.family route.few, length-append (none ++ (len ++ list)) prefix, length-append none (len ++ list), length-append len list, length-number_octets 2 (length list), length-number_octets 2 0, length-attributes r.peer o)

pub length-session : (peer : ℕ) (octets : List ℕ) → length (session_body peer octets) ≡ 20 + length octets
unfolding session_body
length-session peer octets =
    let asn = number_octets 4 (made_asn peer) in
    let local = number_octets 4 64511 in
    let interface = number_octets 2 0 in
    let family = number_octets 2 1 in
    let here : List ℕ = 192 ∷ 0 ∷ 2 ∷ 254 ∷ [] in
    omega (arith, length-append (asn ++ local ++ interface ++ family ++ peer_octets peer ++ here) octets, length-append (asn ++ local ++ interface ++ family ++ peer_octets peer) here, length-append (asn ++ local ++ interface ++ family) (peer_octets peer), length-append (asn ++ local ++ interface) family, length-append (asn ++ local) interface, length-append asn local, length-number_octets 4 (made_asn peer), length-number_octets 4 64511, length-number_octets 2 0, length-number_octets 2 1)

-- the record of an update says its event
pub update_told : (gone : Bool) (r : DrawnRoute) (o : DrawnOffer) → IsRoute r → IsOffer o → bgp4mp 4 false (session_body r.peer (message_octets (update_body gone r o))) ≡ Ok (Some (said (told_of gone r o ∷ [])))
update_told gone r o route attrs =
    let body = update_body gone r o in
    let few : length body ≤ 40 = length-update gone r o route attrs in
    session_read r.peer (message_octets body) (said (told_of gone r o ∷ [])) route.peer
    (message_read (made_peer r.peer) body (said (told_of gone r o ∷ [])) (omega arith) (update_read gone r o route attrs))
