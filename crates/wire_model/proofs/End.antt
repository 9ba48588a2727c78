-- Where a definition reads to the end, nothing is left over.
use Rattle.std.proofs.Common.{◌≡◌, ℕ, ◌*◌, ◌≤◌, ◌<◌, Bool, true, false, List, [], ◌∷◌, length, take, drop, Result, Ok, Err, refl, subst, arith}
use Rattle.std.specs.Prelude.{nat_lt, ◌==◌, ◌||◌, if◌then◌else◌, bit_and, IfOk}
use Rattle.std.proofs.lemmas.List.{length-drop}
use Rattle.table_model.specs.declared.family.Family.{Family}
use Rattle.table_model.specs.Bits.{number}
use Rattle.table_model.specs.Width.{width}
use Rattle.octet_fields.specs.Field.{◌>>=◌, refuse, octet_at, octets_at, number_at, one_more, steps, until_end}
use Rattle.wire_model.specs.declared.place.Place.{Place}
use Rattle.wire_model.specs.declared.rule.Rule.{Rule}
use Rattle.wire_model.specs.declared.rule.Rule.TheVariants.{PrefixLength, AttributeCut, AttributeValue, SecondMp}
use Rattle.wire_model.specs.Wire.{octets_for, prefix_at, id_size, nlri_at}
use Rattle.wire_model.specs.Path.{Path, segment_at}
use Rattle.wire_model.specs.Attribute.{Found, is_second, with_value, attribute_at}
use Rattle.wire_model.specs.Record.{next_record}
use Rattle.wire_model.specs.Input.{read_record}
use Rattle.wire_model.specs.End.{ReadsToEnd}
use Rattle.wire_model.proofs.More.{Shortens, records_shorten, until_end_next, until_end_fault}
use Rattle.wire_model.proofs.Reading.{shortens}
use Rattle.wire_model.proofs.Told.{then_any, then_meets}

to_end : {S F : Type 0} (step : S → List ℕ → Result (S × List ℕ) F) → Shortens step → ReadsToEnd step
unfolding steps
to_end {S = S} {F = F} step p = record { ends = λ s. refl; goes_on = λ s octets some. by_step s octets some (step s octets) refl; takes = p.by }
  where
    by_step : (s : S) (octets : List ℕ) → 0 < length octets → (r : Result (S × List ℕ) F) → step s octets ≡ r → until_end step s octets ≡ (r >>= λ x. until_end step x.0 x.1)
    by_step s octets some (Ok x) e = until_end_next step p s x.0 octets x.1 e
    by_step s octets some (Err f) e = until_end_fault step s octets f some e

-- ---- what fields leave

abbrev Leaves : {A F : Type 0} → ℕ → Result (A × List ℕ) F → Type 0
Leaves n r = IfOk r (λ x. length x.1 < n)

leaves : {S F : Type 0} (step : S → List ℕ → Result (S × List ℕ) F) → ((s : S) (octets : List ℕ) → Leaves (length octets) (step s octets)) → Shortens step
leaves step h = record { by = λ s next octets after e. subst (Leaves (length octets)) e (h s octets) }

octet_leaves : {F : Type 0} (fault : F) (octets : List ℕ) → IfOk (octet_at fault octets) (λ x. length x.1 < length octets)
octet_leaves fault [] = tt
octet_leaves fault (b ∷ octets) = omega arith

dropped : {A F : Type 0} (fault : F) (n : ℕ) (octets : List ℕ) (x : A) (b : Bool) → IfOk {T = A × List ℕ} {E = F} (if b then Err fault else Ok (x, drop n octets)) (λ y. length y.1 ≤ length octets)
dropped fault n octets x true = tt
dropped fault n octets x false = omega (arith, length-drop n octets)

octets_leave : {F : Type 0} (fault : F) (n : ℕ) (octets : List ℕ) → IfOk (octets_at fault n octets) (λ x. length x.1 ≤ length octets)
octets_leave fault n octets = dropped fault n octets (take n octets) (nat_lt (length octets) n)

number_leaves : {F : Type 0} (fault : F) (n : ℕ) (octets : List ℕ) → IfOk (number_at fault n octets) (λ x. length x.1 ≤ length octets)
number_leaves fault n octets = dropped fault n octets (number (take n octets)) (nat_lt (length octets) n)

one_leaves : {A F : Type 0} (item : List ℕ → Result (A × List ℕ) F) → ((octets : List ℕ) → Leaves (length octets) (item octets)) → (front : List A) (octets : List ℕ) → Leaves (length octets) (one_more item front octets)
one_leaves item h front octets = then_meets (item octets) _ (λ x. length x.1 < length octets) _ (h octets) (λ x less. less)

-- ---- each step leaves fewer octets

prefix_leaves : (cut : Rule) (family : Family) (octets : List ℕ) → Leaves (length octets) (prefix_at cut family octets)
unfolding prefix_at
prefix_leaves cut family octets =
    then_meets (octet_at cut octets) _ (λ x. length x.1 < length octets) _ (octet_leaves cut octets) (λ len less.
    then_any (refuse PrefixLength (nat_lt (width family) len.0)) _ _ (λ short.
    then_meets (octets_at cut (octets_for len.0) len.1) _ (λ x. length x.1 ≤ length len.1) _ (octets_leave cut (octets_for len.0) len.1) (λ front le. omega (arith, less, le))))

nlri_leaves : (cut : Rule) (ids : Bool) (family : Family) (octets : List ℕ) → Leaves (length octets) (nlri_at cut ids family octets)
unfolding nlri_at
nlri_leaves cut ids family octets =
    then_meets (number_at cut (id_size ids) octets) _ (λ x. length x.1 ≤ length octets) _ (number_leaves cut (id_size ids) octets) (λ id le.
    then_meets (prefix_at cut family id.1) _ (λ x. length x.1 < length id.1) _ (prefix_leaves cut family id.1) (λ prefix less. omega (arith, le, less)))

segment_leaves : (size : ℕ) (so_far : Path) (octets : List ℕ) → Leaves (length octets) (segment_at size so_far octets)
unfolding segment_at
segment_leaves size so_far octets =
    then_meets (octet_at AttributeValue octets) _ (λ x. length x.1 < length octets) _ (octet_leaves AttributeValue octets) (λ kind less.
    then_any (refuse AttributeValue (nat_lt kind.0 1 || nat_lt 4 kind.0)) _ _ (λ known.
    then_meets (octet_at AttributeValue kind.1) _ (λ x. length x.1 < length kind.1) _ (octet_leaves AttributeValue kind.1) (λ count fewer.
    then_meets (octets_at AttributeValue (count.0 * size) count.1) _ (λ x. length x.1 ≤ length count.1) _ (octets_leave AttributeValue (count.0 * size) count.1) (λ numbers le. omega (arith, less, fewer, le)))))

attribute_leaves : (place : Place) (found : Found) (octets : List ℕ) → Leaves (length octets) (attribute_at place found octets)
unfolding attribute_at
attribute_leaves place found octets =
    then_meets (octet_at AttributeCut octets) _ (λ x. length x.1 < length octets) _ (octet_leaves AttributeCut octets) (λ flags less.
    then_meets (octet_at AttributeCut flags.1) _ (λ x. length x.1 < length flags.1) _ (octet_leaves AttributeCut flags.1) (λ kind fewer.
    then_any (refuse SecondMp (is_second found kind.0)) _ _ (λ first.
    then_meets (number_at AttributeCut (if bit_and flags.0 16 == 0 then 1 else 2) kind.1) _ (λ x. length x.1 ≤ length kind.1) _ (number_leaves AttributeCut (if bit_and flags.0 16 == 0 then 1 else 2) kind.1) (λ len le.
    then_meets (octets_at AttributeCut len.0 len.1) _ (λ x. length x.1 ≤ length len.1) _ (octets_leave AttributeCut len.0 len.1) (λ value le2.
    then_any (with_value place found kind.0 value.0) _ _ (λ next. omega (arith, less, fewer, le, le2)))))))

pub nlri_ends : (cut : Rule) (ids : Bool) (family : Family) → ReadsToEnd (one_more (nlri_at cut ids family))
nlri_ends cut ids family = to_end (one_more (nlri_at cut ids family)) (leaves (one_more (nlri_at cut ids family)) (one_leaves (nlri_at cut ids family) (nlri_leaves cut ids family)))

pub path_ends : (size : ℕ) → ReadsToEnd (segment_at size)
path_ends size = to_end (segment_at size) (leaves (segment_at size) (segment_leaves size))

pub attributes_end : (place : Place) → ReadsToEnd (attribute_at place)
attributes_end place = to_end (attribute_at place) (leaves (attribute_at place) (attribute_leaves place))

pub records_end : ReadsToEnd next_record
records_end = to_end next_record records_shorten

pub input_ends : ReadsToEnd read_record
input_ends = to_end read_record shortens
