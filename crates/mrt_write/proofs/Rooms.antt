-- Whether a record takes one candidate more.
use Rattle.std.proofs.Common.{inl, inr, ◌≡◌, ℕ, ◌+◌, ◌/◌, ◌%◌, ◌^◌, ◌<◌, ◌≤◌, min, Bool, true, false, not, List, [], ◌∷◌, ◌++◌, length, refl, sym, ap, ◌∙◌, subst, length-append, arith}
use Rattle.std.specs.Prelude.{◌&&◌, flat_map, nat_lt}
use Rattle.std.proofs.lemmas.Bool.{lt-ltb, le-ltb, cases_lt, ltb-true, and_parts}
use Rattle.std.proofs.lemmas.List.{length-take-le}
use Rattle.std.specs.Ordering.{is_eq}
use Rattle.table_model.specs.Width.{width}
use Rattle.table_model.specs.Order.{filled}
use Rattle.table_model.specs.Address.{IsPrefix, same_prefix}
use Rattle.wire_model.specs.Record.{most_length}
use Rattle.wire_model.specs.Wire.{octets_for}
use Rattle.route_model.specs.Events.{Peer}
use Rattle.route_model.specs.Choice.{Place, PathAttrs}
use Rattle.route_model.proofs.Keyed.{key_test}
use Rattle.route_model.proofs.Places.{prefix_key}
use Rattle.fib_addr.specs.Views.{prefix_as}
use Rattle.fib_addr.specs.declared.prefix.Prefix as code
use Rattle.fib_addr.specs.OrderLaws.{tied}
use Rattle.fib_addr.specs.contracts.prefix.PrefixPartialEq.TheImpl as prefix_eq
use Rattle.fib_addr.proofs.Ordering.{cmp_is}
use Rattle.fib_addr.proofs.Parts.{length_prefix}
use Rattle.wire_model.specs.Octets.{number_octets, prefix_octets}
use Rattle.wire_model.proofs.Fields.{length-number_octets}
use Rattle.mrt_write.specs.Entries.{entry_octets}
use Rattle.mrt_write.specs.Checkpoint.{Piece, most_entries, piece_body}
use Rattle.mrt_write.specs.Saved.{has_place, with_candidate}
use Rattle.fib_prefix.specs.Views.{cand_as}
use Rattle.fib_prefix.specs.declared.event.Cand as code_cand
use Rattle.mrt_write.proofs.Written.{ceiling}

pub is_prefix : (p : code.Prefix) → IsPrefix (prefix_as p)
is_prefix p = subst (λ n. n ≤ width p.family) (sym (length_prefix (width p.family) p.len p.bits p.fits)) p.fits

pub test_is : (p q : code.Prefix) → (prefix_eq.ghosts).eq p q ≡ same_prefix (prefix_as p) (prefix_as q)
test_is p q = tied p q ∙ (ap is_eq (cmp_is p q) ∙ key_test prefix_key (prefix_as p) (prefix_as q) (is_prefix p) (is_prefix q))

-- how long what is written of a prefix is
pub length_written : (p : code.Prefix) → length (prefix_octets (prefix_as p)) ≡ 1 + octets_for p.len
unfolding prefix_octets
length_written p =
    let w = width p.family in
    let octets = number_octets (octets_for w) (filled (prefix_as p)) in
    let long : length (prefix_as p).bits ≡ p.len = length_prefix w p.len p.bits p.fits in
    let has_place : p.len ≤ w = p.fits in
    let few : octets_for p.len ≤ octets_for w = fewer p.len w has_place in
    omega (arith, ap octets_for long, length-take-le (octets_for (length (prefix_as p).bits)) octets (omega (arith, ap octets_for long, length-number_octets (octets_for w) (filled (prefix_as p)))))
  where
    fewer : (n w : ℕ) → n ≤ w → octets_for n ≤ octets_for w
    fewer n w h = omega arith

length_more : (peers : List Peer) (ids : Bool) (cs : List (Place × PathAttrs)) (c : Place × PathAttrs) → length (flat_map (entry_octets peers ids) (cs ++ c ∷ [])) ≡ length (flat_map (entry_octets peers ids) cs) + length (entry_octets peers ids c)
length_more peers ids [] c = omega (arith, length-append (entry_octets peers ids c) [])
length_more peers ids (x ∷ cs) c = omega (arith, length-append (entry_octets peers ids x) (flat_map (entry_octets peers ids) (cs ++ c ∷ [])), length-append (entry_octets peers ids x) (flat_map (entry_octets peers ids) cs), length_more peers ids cs c)

length_grown : (peers : List Peer) (ids : Bool) (p : Piece) (c : Place × PathAttrs) → length (piece_body peers ids 0 (with_candidate p c)) ≡ 6 + length (prefix_octets p.prefix) + length (flat_map (entry_octets peers ids) p.candidates) + length (entry_octets peers ids c)
unfolding piece_body
length_grown peers ids p c =
    let entries = flat_map (entry_octets peers ids) (p.candidates ++ c ∷ []) in
    let count = number_octets 2 (length (p.candidates ++ c ∷ [])) in
    omega (arith, length-append (number_octets 4 (0 % 2 ^ 32)) (prefix_octets p.prefix ++ (count ++ entries)), length-append (prefix_octets p.prefix) (count ++ entries), length-append count entries, length-number_octets 4 (0 % 2 ^ 32), length-number_octets 2 (length (p.candidates ++ c ∷ [])), length_more peers ids p.candidates c)

not_more : (n m : ℕ) (b : Bool) → (n ≤ m → b ≡ true) → (m < n → b ≡ false) → b ≡ not (nat_lt m n)
not_more n m b low high = elim (cases_lt m n) [
  | inl h ↦ high h ∙ sym (ap not (lt-ltb m n h))
  | inr h ↦ low h ∙ sym (ap not (le-ltb m n h))
]

pub room_is : (prefix : code.Prefix) (count octets : ℕ) (cand : code_cand.Cand) (more : ℕ) (n : ℕ) (small : Bool) → n ≡ prefix.len / 8 + min 1 (prefix.len % 8) → (7 + n + octets + more ≤ 16777216 → small ≡ true) → (16777216 < 7 + n + octets + more → small ≡ false)
    → (peers : List Peer) (ids : Bool) (p : Piece) → p.prefix ≡ prefix_as prefix → length p.candidates ≡ count → length (flat_map (entry_octets peers ids) p.candidates) ≡ octets → length (entry_octets peers ids (cand_as cand)) ≡ more
    → (((prefix_eq.ghosts).eq prefix cand.prefix && nat_lt count 65535) && small) ≡ has_place peers ids p (cand_as cand)
unfolding has_place
room_is prefix count octets cand more n small up low high peers ids p e1 e2 e3 e4 =
    let written : length (prefix_octets p.prefix) ≡ 1 + n = ap (λ q. length (prefix_octets q)) e1 ∙ (length_written prefix ∙ ap (λ k. 1 + k) (sym (up ∙ ceiling prefix.len))) in
    let long : length (piece_body peers ids 0 (with_candidate p (cand_as cand))) ≡ 7 + n + octets + more = omega (arith, length_grown peers ids p (cand_as cand), written, e3, e4) in
    let body : small ≡ not (nat_lt most_length (length (piece_body peers ids 0 (with_candidate p (cand_as cand))))) = not_more _ most_length small (λ h. low (omega (arith, long))) (λ h. high (omega (arith, long))) in
    let prefix_is : (prefix_eq.ghosts).eq prefix cand.prefix ≡ same_prefix p.prefix (prefix_as cand.prefix) = test_is prefix cand.prefix ∙ ap (λ q. same_prefix q (prefix_as cand.prefix)) (sym e1) in
    let count_is : nat_lt count 65535 ≡ nat_lt (length p.candidates) most_entries = ap (λ k. nat_lt k 65535) (sym e2) in
    turned _ _ _ _ _ _ prefix_is count_is body
  where
    turned : (a b c d e f : Bool) → a ≡ d → b ≡ e → c ≡ f → ((a && b) && c) ≡ (d && (e && f))
    turned a b c d e f x y z = ap (λ k. (k && b) && c) x ∙ (ap (λ k. (d && k) && c) y ∙ (ap (λ k. (d && e) && k) z ∙ regrouped d e f))
      where
        regrouped : (d e f : Bool) → ((d && e) && f) ≡ (d && (e && f))
        regrouped true e f = refl
        regrouped false e f = refl

pub room_left : (a : Bool) (count octets more n : ℕ) (small : Bool) → (small ≡ true → 7 + n + octets + more ≤ 16777216) → ((a && nat_lt count 65535) && small) ≡ true → (count < 65535) × (octets + more ≤ 16777216)
room_left a count octets more n small h e =
    let one = and_parts (a && nat_lt count 65535) small e in
    let two = and_parts a (nat_lt count 65535) one.0 in
    (ltb-true _ _ two.1, omega (arith, h one.1))
