-- How many octets a short path and a next hop have.
use Rattle.std.proofs.Common.{◌≡◌, ℕ, ◌+◌, ◌*◌, ◌/◌, ◌%◌, ◌<◌, false, List, [], ◌∷◌, ◌++◌, length, refl, sym, ap, ◌∙◌, mod-eq_of_lt, length-append, arith}
use Rattle.std.specs.Prelude.{◌==◌}
use Rattle.std.proofs.lemmas.Bool.{ne_eqb}
use Rattle.table_model.specs.declared.family.Family.{Family}
use Rattle.table_model.specs.declared.family.Family.TheVariants.{V4, V6}
use Rattle.table_model.specs.Address.{Address}
use Rattle.table_model.specs.Width.{width}
use Rattle.wire_model.specs.Wire.{octets_for}
use Rattle.route_model.specs.Choice.{Place, PathAttrs}
use Rattle.wire_model.specs.Octets.{as_path_octets, address_octets}
use Rattle.wire_model.proofs.Attributes.{length-as_path}
use Rattle.wire_model.proofs.Addresses.{length-address}
use Rattle.mrt_write.specs.Entries.{path_octets, path_attribute, hop_attribute_of, hop_attribute, attributes_of}
use Rattle.mrt_write.proofs.Written.{value_short, path_some, path_none}

-- a path of 1 to 254 is one sequence
one_sequence : (asn n : ℕ) → 0 < n → n < 255 → path_octets asn n ≡ as_path_octets asn n
unfolding path_octets
one_sequence asn n some few =
    let rest : n % 255 ≡ n = mod-eq_of_lt few in
    let whole : n / 255 ≡ 0 = omega arith in
    let not_none : (n == 0) ≡ false = ne_eqb n 0 (λ e. omega (arith, e)) in
    rw (rest, whole, not_none) refl

-- so its length takes one octet
pub short_put : (before : List ℕ) (asn n : ℕ) → 0 < n → n < 64 → (before ++ 64 ∷ 2 ∷ (4 * n + 2) ∷ []) ++ as_path_octets asn n ≡ before ++ path_attribute asn n
short_put before asn n some few =
    let value = as_path_octets asn n in
    let long : length value ≡ 4 * n + 2 = omega (arith, length-as_path asn n) in
    ap (λ k. (before ++ 64 ∷ 2 ∷ k ∷ []) ++ value) (sym long)
    ∙ (value_short before value (omega (arith, long)) ∙ path_some before value asn n (λ e. omega (arith, e)) (sym (one_sequence asn n some (omega arith))))

length_short : (asn n : ℕ) → 0 < n → n < 64 → length (path_attribute asn n) ≡ 5 + 4 * n
length_short asn n some few = omega (arith, ap length (short_put [] asn n some few), length-as_path asn n)

-- the attributes of no path, and of a short one
pub length_none : (c : Place × PathAttrs) → c.1.path ≡ 0 → length (attributes_of c) ≡ length (hop_attribute c.1.hop)
unfolding attributes_of
length_none c e = sym (ap (λ xs. length (xs ++ hop_attribute c.1.hop)) (path_none [] c.0.via.peer.asn c.1.path e))

pub length_some : (c : Place × PathAttrs) → 0 < c.1.path → c.1.path < 64 → length (attributes_of c) ≡ 5 + 4 * c.1.path + length (hop_attribute c.1.hop)
unfolding attributes_of
length_some c some few = omega (arith, length-append (path_attribute c.0.via.peer.asn c.1.path) (hop_attribute c.1.hop), length_short c.0.via.peer.asn c.1.path some few)

pub length_v4 : (a : Address) → a.family ≡ V4 → length (hop_attribute a) ≡ 7
unfolding hop_attribute
length_v4 a e = by_family a.family e (address_octets a) (length-address a)
  where
    by_family : (f : Family) → f ≡ V4 → (octets : List ℕ) → length octets ≡ octets_for (width f) → length (hop_attribute_of f octets) ≡ 7
    by_family V4 e octets h = omega (arith, h)
    by_family V6 e octets h = absurd cc

pub length_v6 : (a : Address) → a.family ≡ V6 → length (hop_attribute a) ≡ 20
unfolding hop_attribute
length_v6 a e = by_family a.family e (address_octets a) (length-address a)
  where
    by_family : (f : Family) → f ≡ V6 → (octets : List ℕ) → length octets ≡ octets_for (width f) → length (hop_attribute_of f octets) ≡ 20
    by_family V4 e octets h = absurd cc
    by_family V6 e octets h = omega (arith, h)
