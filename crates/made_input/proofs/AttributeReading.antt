-- The attributes of an offer are read as its path and next hop.
use Rattle.std.proofs.Common.{◌≡◌, ℕ, ◌+◌, ◌*◌, ◌^◌, ◌<◌, true, false, List, [], ◌∷◌, ◌++◌, length, Option, Some, None, Ok, refl, sym, ap, ◌∙◌, append_assoc, append-nil, length-append, arith}
use Rattle.octet_fields.specs.Field.{until_end}
use Rattle.octet_fields.proofs.Steps.{left_at_start, left_after, left_at_end}
use Rattle.wire_model.specs.declared.place.Place.{Place}
use Rattle.wire_model.specs.declared.place.Place.TheVariants.{Rib, Update}
use Rattle.wire_model.specs.Path.{Path}
use Rattle.wire_model.specs.Attribute.{Found, nothing_found, is_wide, with_as_path, with_next_hop, with_value, attribute_at, Listed, attributes}
use Rattle.made_input.specs.Drawn.{ipv4, hop_octets, made_asn, DrawnOffer}
use Rattle.wire_model.specs.Octets.{attribute_octets, as_path_octets, repeated_path}
use Rattle.made_input.specs.Files.{attrs_attributes}
use Rattle.wire_model.proofs.Attributes.{length-as_path, path_read, attribute_read, length-attribute, shorter}

-- ---- the values

origin_value : (place : Place) (found : Found) (value : List ℕ) → with_value place found 1 value ≡ Ok found
unfolding with_value
origin_value place found value = refl

path_value : (place : Place) → is_wide place ≡ true → (asn n : ℕ) → asn < 2 ^ 32 → with_value place nothing_found 2 (as_path_octets asn n) ≡ Ok (record nothing_found { path = Some (Some (repeated_path asn n)) })
unfolding with_value with_as_path
path_value (Rib family) wide asn n h = rw (path_read asn n h) refl
path_value (Update four ids) wide asn n h = let e : four ≡ true = wide in rw (e, path_read asn n h) refl

hop_value : (place : Place) (path : Option (Option Path)) (i : ℕ) → with_value place (record nothing_found { path = path }) 3 (hop_octets i) ≡ Ok (record nothing_found { path = path; hop = Some (Some (ipv4 (hop_octets i))) })
unfolding with_value with_next_hop
hop_value (Rib family) path i = refl
hop_value (Update four ids) path i = refl

-- ---- the list

-- what the attributes of a peer's offer give
abbrev pub attrs_list : ℕ → DrawnOffer → Listed
attrs_list peer o = record { path = repeated_path (made_asn peer) o.path; hop = Some (ipv4 (hop_octets o.hop)); reach = None; unreach = None; bad = false }

pub length-attributes : (peer : ℕ) (o : DrawnOffer) → length (attrs_attributes peer o) ≡ 16 + 4 * o.path
unfolding attrs_attributes
length-attributes peer o =
    let origin = attribute_octets 1 (0 ∷ []) in
    let path = attribute_octets 2 (as_path_octets (made_asn peer) o.path) in
    let hop = attribute_octets 3 (hop_octets o.hop) in
    omega (arith, length-append (origin ++ path) hop, length-append origin path, length-attribute 1 (0 ∷ []), length-attribute 2 (as_path_octets (made_asn peer) o.path), length-attribute 3 (hop_octets o.hop), length-as_path (made_asn peer) o.path)

pub attributes_read : (place : Place) → is_wide place ≡ true → (peer : ℕ) (o : DrawnOffer) → peer < 8 → attributes place (attrs_attributes peer o) ≡ Ok (attrs_list peer o)
unfolding attributes attrs_attributes
attributes_read place wide peer o known =
    let path = repeated_path (made_asn peer) o.path in
    let fits : made_asn peer < 2 ^ 32 = omega arith in
    let first = 0 ∷ [] in
    let second = as_path_octets (made_asn peer) o.path in
    let third = hop_octets o.hop in
    let behind = attribute_octets 3 third ++ [] in
    let more = attribute_octets 2 second ++ behind in
    let found : Found = record nothing_found { path = Some (Some path) } in
    let all : Found = record nothing_found { path = Some (Some path); hop = Some (Some (ipv4 third)) } in
    let step = attribute_at place in
    let total = until_end step nothing_found (attribute_octets 1 first ++ more) in
    let start = left_at_start step nothing_found (attribute_octets 1 first ++ more) in
    let one = left_after step nothing_found nothing_found (attribute_octets 1 first ++ more) more total (attribute_read place nothing_found nothing_found 1 first more refl (origin_value place nothing_found first)) (shorter 1 first more) start in
    let two = left_after step nothing_found found more behind total (attribute_read place nothing_found found 2 second behind refl (path_value place wide (made_asn peer) o.path fits)) (shorter 2 second behind) one in
    let three = left_after step found all behind [] total (attribute_read place found all 3 third [] refl (hop_value place (Some (Some path)) o.hop)) (shorter 3 third []) two in
    let read : total ≡ Ok all = left_at_end step all [] total refl three in
    let same : attribute_octets 1 first ++ attribute_octets 2 second ++ attribute_octets 3 third ≡ attribute_octets 1 first ++ more =
    append_assoc (attribute_octets 1 first) (attribute_octets 2 second) (attribute_octets 3 third) ∙ ap (λ (xs : List ℕ). attribute_octets 1 first ++ (attribute_octets 2 second ++ xs)) (sym (append-nil (attribute_octets 3 third))) in
    rw (same, read) refl
