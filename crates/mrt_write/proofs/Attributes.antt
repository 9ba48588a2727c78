-- The attributes of a candidate are read as a path of its length and its next hop.
use Rattle.std.proofs.Common.{◌≡◌, ℕ, suc, ◌+◌, ◌<◌, ◌≤◌, ◌^◌, Bool, true, false, List, [], ◌∷◌, ◌++◌, length, take, Option, Some, None, Result, Ok, refl, sym, ap, ◌∙◌, append_assoc, append-nil, length-append, arith}
use Rattle.std.specs.Prelude.{nat_lt, nat_eq, ◌==◌, bit_and, if◌then◌else◌}
use Rattle.std.proofs.lemmas.Bool.{eqb-true}
use Rattle.std.proofs.lemmas.List.{take_all}
use Rattle.table_model.specs.declared.family.Family.{Family}
use Rattle.table_model.specs.declared.family.Family.TheVariants.{V4, V6}
use Rattle.table_model.specs.Address.{Address, IsAddress}
use Rattle.table_model.specs.Width.{width}
use Rattle.octet_fields.specs.Field.{until_end}
use Rattle.octet_fields.proofs.Steps.{Left, left_at_start, left_after, left_at_end}
use Rattle.wire_model.specs.declared.rule.Rule.{Rule}
use Rattle.wire_model.specs.declared.rule.Rule.TheVariants.{AttributeCut, AttributeValue}
use Rattle.wire_model.specs.Wire.{octets_for}
use Rattle.wire_model.specs.declared.place.Place.TheVariants.{Rib}
use Rattle.wire_model.specs.Path.{Path, no_path}
use Rattle.wire_model.specs.Attribute.{Found, nothing_found, Listed, listed_from, with_as_path, with_next_hop, with_reach, with_value, rib_hop, next_hop_at, is_hop_length, is_second, attribute_at, attributes}
use Rattle.wire_model.specs.Rib.{entry_hop}
use Rattle.route_model.specs.Choice.{Place, PathAttrs}
use Rattle.wire_model.specs.Octets.{number_octets}
use Rattle.wire_model.specs.Octets.{behind_length}
use Rattle.wire_model.proofs.Fields.{length-number_octets, octets_read, octets_all, number_read, octet_read}
use Rattle.wire_model.specs.Octets.{address_octets, repeated_path}
use Rattle.mrt_write.specs.Entries.{path_octets, path_attribute, hop_attribute_of, hop_attribute, attributes_of}
use Rattle.wire_model.proofs.Addresses.{length-address, address_bits}
use Rattle.mrt_write.proofs.Paths.{path_read, length-path}

-- ---- one attribute

-- with flags that tell a length of one octet
short_read : (family : Family) (found next : Found) (flags kind : ℕ) (value rest : List ℕ) → bit_and flags 16 ≡ 0 → is_second found kind ≡ false → with_value (Rib family) found kind value ≡ Ok next
    → attribute_at (Rib family) found (flags ∷ kind ∷ length value ∷ (value ++ rest)) ≡ Ok (next, rest)
unfolding attribute_at
short_read family found next flags kind value rest plain first e =
    rw (first, plain, octet_read AttributeCut (length value) (value ++ rest), octets_read AttributeCut (length value) value rest refl, e) refl

-- with two
long_read : (family : Family) (found next : Found) (kind : ℕ) (value rest : List ℕ) → is_second found kind ≡ false → length value < 256 ^ 2 → with_value (Rib family) found kind value ≡ Ok next
    → attribute_at (Rib family) found (80 ∷ kind ∷ (number_octets 2 (length value) ++ (value ++ rest))) ≡ Ok (next, rest)
unfolding attribute_at
long_read family found next kind value rest first few e =
    rw (first, number_read AttributeCut 2 (length value) (value ++ rest) few, octets_read AttributeCut (length value) value rest refl, e) refl

-- ---- the values

-- what stands where a path was read
abbrev pub with_path : ℕ → ℕ → Found
with_path asn n = record nothing_found { path = Some (Some (repeated_path asn n)) }

path_value : (family : Family) (asn n : ℕ) → asn < 2 ^ 32 → with_value (Rib family) nothing_found 2 (path_octets asn n) ≡ Ok (with_path asn n)
unfolding with_value with_as_path
path_value family asn n fits = rw (path_read asn n fits) refl

-- what stands where a next hop was read too
abbrev pub hop_at : Family → Option (Option Path) → Family → List Bool → Found
hop_at family path V4 bits = record nothing_found { path = path; hop = Some (Some (record { family = V4; bits = bits })) }
hop_at family path V6 bits = record nothing_found { path = path; has_reach = true; reach = Some (record { family = family; hop = record { family = V6; bits = bits }; nlri = [] }) }

next_hop_value : (family : Family) (path : Option (Option Path)) (bits : List Bool) → length bits ≡ 32 → (let hop : Address = record { family = V4; bits = bits } in with_value (Rib family) (record nothing_found { path = path }) 3 (address_octets hop) ≡ Ok (hop_at family path V4 bits))
unfolding with_value with_next_hop
next_hop_value family path bits h =
    let hop : Address = record { family = V4; bits = bits } in
    let four : nat_eq (length (address_octets hop)) 4 ≡ true = ap (λ n. nat_eq n 4) (length-address hop) in
    rw (four, address_bits hop h) refl

known : (family : Family) → is_hop_length family 16 ≡ true
known V4 = refl
known V6 = refl

reach_value : (family : Family) (path : Option (Option Path)) (bits : List Bool) → length bits ≡ 128 → (let hop : Address = record { family = V6; bits = bits } in with_value (Rib family) (record nothing_found { path = path }) 14 (16 ∷ address_octets hop) ≡ Ok (hop_at family path V6 bits))
unfolding with_value with_reach rib_hop next_hop_at
reach_value family path bits h =
    let hop : Address = record { family = V6; bits = bits } in
    let octets = address_octets hop in
    let long : length octets ≡ 16 = length-address hop in
    let other : nat_eq (length octets) 4 ≡ false = ap (λ n. nat_eq n 4) long in
    let all : take 16 octets ≡ octets = take_all 16 octets (omega arith) in
    rw (known family, octets_all AttributeValue 16 octets long, other, all, address_bits hop h) refl

hop_step_at : (family : Family) (path : Option (Option Path)) (f : Family) (bits : List Bool) (rest : List ℕ) → length bits ≡ width f
    → (let hop : Address = record { family = f; bits = bits } in attribute_at (Rib family) (record nothing_found { path = path }) (hop_attribute_of f (address_octets hop) ++ rest) ≡ Ok (hop_at family path f bits, rest))
hop_step_at family path V4 bits rest h =
    let hop : Address = record { family = V4; bits = bits } in
    let octets = address_octets hop in
    let four : length octets ≡ 4 = length-address hop in
    ap (λ n. attribute_at (Rib family) (record nothing_found { path = path }) (64 ∷ 3 ∷ n ∷ (octets ++ rest))) (sym four)
    ∙ short_read family (record nothing_found { path = path }) (hop_at family path V4 bits) 64 3 octets rest refl refl (next_hop_value family path bits h)
hop_step_at family path V6 bits rest h =
    let hop : Address = record { family = V6; bits = bits } in
    let octets = address_octets hop in
    let long : suc (length octets) ≡ 17 = ap suc (length-address hop) in
    ap (λ n. attribute_at (Rib family) (record nothing_found { path = path }) (128 ∷ 14 ∷ n ∷ 16 ∷ (octets ++ rest))) (sym long)
    ∙ short_read family (record nothing_found { path = path }) (hop_at family path V6 bits) 128 14 (16 ∷ octets) rest refl refl (reach_value family path bits h)

hop_step : (family : Family) (path : Option (Option Path)) (hop : Address) (rest : List ℕ) → IsAddress hop → attribute_at (Rib family) (record nothing_found { path = path }) (hop_attribute hop ++ rest) ≡ Ok (hop_at family path hop.family hop.bits, rest)
unfolding hop_attribute
hop_step family path hop rest h = hop_step_at family path hop.family hop.bits rest h

path_step : (family : Family) (asn n : ℕ) (rest : List ℕ) → asn < 2 ^ 32 → n ≤ 15000 → (n == 0) ≡ false → attribute_at (Rib family) nothing_found (path_attribute asn n ++ rest) ≡ Ok (with_path asn n, rest)
unfolding path_attribute
path_step family asn n rest fits few some = by_size (nat_lt (length octets) 256) refl (with_path asn n) (path_value family asn n fits)
  where
    octets : List ℕ
    octets = path_octets asn n

    by_size : (b : Bool) → nat_lt (length octets) 256 ≡ b → (next : Found) → with_value (Rib family) nothing_found 2 octets ≡ Ok next
        → attribute_at (Rib family) nothing_found ((if n == 0 then [] else (if b then 64 ∷ 2 ∷ length octets ∷ octets else 80 ∷ 2 ∷ behind_length octets)) ++ rest) ≡ Ok (next, rest)
    by_size true e next value = rw some (short_read family nothing_found next 64 2 octets rest refl refl value)
    by_size false e next value =
        let same : behind_length octets ++ rest ≡ number_octets 2 (length octets) ++ (octets ++ rest) = append_assoc (number_octets 2 (length octets)) octets rest in
        rw some (ap (λ xs. attribute_at (Rib family) nothing_found (80 ∷ 2 ∷ xs)) same ∙ long_read family nothing_found next 2 octets rest refl (omega (arith, length-path asn n few)) value)

no_attribute : (asn n : ℕ) → (n == 0) ≡ true → path_attribute asn n ≡ []
unfolding path_attribute
no_attribute asn n e = rw e refl

-- ---- the list

length-hop_at : (f : Family) (octets : List ℕ) → 0 < length (hop_attribute_of f octets)
length-hop_at V4 octets = omega arith
length-hop_at V6 octets = omega arith

some_hop : (hop : Address) → 0 < length (hop_attribute hop)
unfolding hop_attribute
some_hop hop = length-hop_at hop.family (address_octets hop)

length-path_attribute : (asn n : ℕ) → n ≤ 15000 → length (path_attribute asn n) ≤ 60122
unfolding path_attribute
length-path_attribute asn n few = by_tests (n == 0) (nat_lt (length (path_octets asn n)) 256)
  where
    by_tests : (b c : Bool) → length (if b then [] else (if c then 64 ∷ 2 ∷ length (path_octets asn n) ∷ path_octets asn n else 80 ∷ 2 ∷ behind_length (path_octets asn n))) ≤ 60122
    by_tests true c = omega arith
    by_tests false true = omega (arith, length-path asn n few)
    by_tests false false = omega (arith, length-path asn n few, length-append (number_octets 2 (length (path_octets asn n))) (path_octets asn n), length-number_octets 2 (length (path_octets asn n)))

some_path : (asn n : ℕ) → (n == 0) ≡ false → 0 < length (path_attribute asn n)
unfolding path_attribute
some_path asn n some = by_tests (n == 0) some (nat_lt (length (path_octets asn n)) 256)
  where
    by_tests : (b : Bool) → b ≡ false → (c : Bool) → 0 < length (if b then [] else (if c then 64 ∷ 2 ∷ length (path_octets asn n) ∷ path_octets asn n else 80 ∷ 2 ∷ behind_length (path_octets asn n)))
    by_tests true e c = let no : true ≡ false = e in absurd cc
    by_tests false e true = omega arith
    by_tests false e false = omega arith

-- what was found is the path and the next hop
abbrev IsRead : Family → Listed → Path → Address → Type 0
IsRead family list path hop = (list.path ≡ path) × (entry_hop family list ≡ Some hop)

found_path : (family : Family) (path : Path) (f : Family) (bits : List Bool) → IsRead family (listed_from (hop_at family (Some (Some path)) f bits)) path (record { family = f; bits = bits })
found_path V4 path V4 bits = (refl, refl)
found_path V4 path V6 bits = (refl, refl)
found_path V6 path V4 bits = (refl, refl)
found_path V6 path V6 bits = (refl, refl)

found_none : (family : Family) (f : Family) (bits : List Bool) → IsRead family (listed_from (hop_at family None f bits)) no_path (record { family = f; bits = bits })
found_none V4 V4 bits = (refl, refl)
found_none V4 V6 bits = (refl, refl)
found_none V6 V4 bits = (refl, refl)
found_none V6 V6 bits = (refl, refl)

-- the list of a candidate
pub record AttributesRead (family : Family) (c : Place × PathAttrs) : Type 0 where
  pub list : Listed
  pub read : attributes (Rib family) (attributes_of c) ≡ Ok list
  pub path : list.path ≡ repeated_path c.0.via.peer.asn c.1.path
  pub hop : entry_hop family list ≡ Some c.1.hop

last_read : (family : Family) (path : Option (Option Path)) (hop : Address) (total : Result Found Rule) → IsAddress hop → Left (attribute_at (Rib family)) (record nothing_found { path = path }) (hop_attribute hop) total → total ≡ Ok (hop_at family path hop.family hop.bits)
last_read family path hop total h l =
    let next = hop_at family path hop.family hop.bits in
    let e = ap (attribute_at (Rib family) (record nothing_found { path = path })) (sym (append-nil (hop_attribute hop))) ∙ hop_step family path hop [] h in
    left_at_end (attribute_at (Rib family)) next [] total refl (left_after (attribute_at (Rib family)) (record nothing_found { path = path }) next (hop_attribute hop) [] total e (some_hop hop) l)

pub attributes_read : (family : Family) (c : Place × PathAttrs) → c.0.via.peer.asn < 2 ^ 32 → c.1.path ≤ 15000 → IsAddress c.1.hop → AttributesRead family c
unfolding attributes attributes_of
attributes_read family c fits few h = by_length (c.1.path == 0) refl
  where
    by_length : (b : Bool) → (c.1.path == 0) ≡ b → AttributesRead family c
    by_length true e =
        let n : c.1.path ≡ 0 = eqb-true c.1.path 0 e in
        let none : path_attribute c.0.via.peer.asn c.1.path ≡ [] = no_attribute c.0.via.peer.asn c.1.path e in
        let octets = hop_attribute c.1.hop in
        let total = until_end (attribute_at (Rib family)) nothing_found octets in
        let read = last_read family None c.1.hop total h (left_at_start (attribute_at (Rib family)) nothing_found octets) in
        let is = found_none family c.1.hop.family c.1.hop.bits in
        record { list = listed_from (hop_at family None c.1.hop.family c.1.hop.bits); read = rw (none, read) refl; path = is.0 ∙ ap (repeated_path c.0.via.peer.asn) (sym n); hop = is.1 }
    by_length false e =
        let asn = c.0.via.peer.asn in
        let n = c.1.path in
        let path = repeated_path asn n in
        let first = path_attribute asn n in
        let octets = first ++ hop_attribute c.1.hop in
        let total = until_end (attribute_at (Rib family)) nothing_found octets in
        let one = left_after (attribute_at (Rib family)) nothing_found (with_path asn n) octets (hop_attribute c.1.hop) total (path_step family asn n (hop_attribute c.1.hop) fits few e) (omega (arith, length-append first (hop_attribute c.1.hop), some_path asn n e)) (left_at_start (attribute_at (Rib family)) nothing_found octets) in
        let read = last_read family (Some (Some path)) c.1.hop total h one in
        let is = found_path family path c.1.hop.family c.1.hop.bits in
        record { list = listed_from (hop_at family (Some (Some path)) c.1.hop.family c.1.hop.bits); read = rw read refl; path = is.0; hop = is.1 }

length-hop : (f : Family) (octets : List ℕ) → length (hop_attribute_of f octets) ≤ 4 + length octets
length-hop V4 octets = omega arith
length-hop V6 octets = omega arith

few_octets : (f : Family) → octets_for (width f) ≤ 16
few_octets V4 = omega arith
few_octets V6 = omega arith

pub length-attributes : (c : Place × PathAttrs) → c.1.path ≤ 15000 → length (attributes_of c) < 256 ^ 2
unfolding attributes_of hop_attribute
length-attributes c few =
    omega (arith, length-append (path_attribute c.0.via.peer.asn c.1.path) (hop_attribute_of c.1.hop.family (address_octets c.1.hop)), length-path_attribute c.0.via.peer.asn c.1.path few, length-hop c.1.hop.family (address_octets c.1.hop), length-address c.1.hop, few_octets c.1.hop.family)
