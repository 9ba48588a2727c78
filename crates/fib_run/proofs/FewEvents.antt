-- The octets of an input bring no more events than there are octets.
use Rattle.std.proofs.Common.{◌≡◌, ℕ, zero, suc, ◌+◌, ◌≤◌, ◌<◌, Bool, true, false, List, [], ◌∷◌, ◌++◌, length, take, drop, Option, Some, None, Result, Ok, Err, refl, sym, ap, subst, arith, length-append}
use Rattle.std.specs.Prelude.{nat_lt, not, slice_get, ◌==◌, if◌then◌else◌, bit_and, IfOk, IfSome, MatchResult}
use Rattle.std.proofs.lemmas.Bool.{ltb-false}
use Rattle.std.proofs.lemmas.List.{length-drop, length-map, take-append-drop}
use Rattle.table_model.specs.declared.family.Family.{Family}
use Rattle.table_model.specs.declared.family.Family.TheVariants.{V4}
use Rattle.table_model.specs.Address.{Address, Prefix}
use Rattle.table_model.specs.Bits.{number}
use Rattle.table_model.specs.Width.{width}
use Rattle.route_model.specs.Events.{Peer, Withdraw, Down}
use Rattle.octet_fields.specs.Field.{◌>>=◌, refuse, octet_at, octets_at, number_at, all_read, one_more, times, steps, until_end}
use Rattle.wire_model.specs.declared.place.Place.{Place}
use Rattle.wire_model.specs.declared.place.Place.TheVariants.{Rib, Update}
use Rattle.wire_model.specs.declared.session.Session.{Session}
use Rattle.wire_model.specs.declared.session.Session.TheVariants.{StateChange, Message}
use Rattle.wire_model.specs.declared.rule.Rule.{Rule}
use Rattle.wire_model.specs.declared.rule.Rule.TheVariants.{HeaderCut, BodyCut, TooLong, PrefixLength, RibForm, AttributeCut, AttributeValue, SecondMp, SessionForm, MessageLength, UpdateLengths}
use Rattle.wire_model.specs.Wire.{octets_for, address_at, prefix_at, Nlri, id_size, nlri_at, nlris, family_of, family_at}
use Rattle.wire_model.specs.Attribute.{ReachAttr, Unreached, Found, nothing_found, is_hop_length, next_hop_at, rib_hop, reach_of_rib, reach_in, unreach_in, judged, keep_first, with_as_path, next_hop_in, with_next_hop, with_reach, with_unreach, with_value, is_second, attribute_at, Listed, attributes}
use Rattle.wire_model.specs.Rib.{event_of, indexed, rib_entry_at, rib, peer_table}
use Rattle.wire_model.specs.Update.{Said, said, via_of, withdrawn, routes, unreach_events, reach_events, update, message, is_lost, state_change, session_of, session_says, session_behind, session_in, bgp4mp}
use Rattle.wire_model.specs.Record.{Record, most_length, record_at}
use Rattle.wire_model.specs.Input.{Progress, Stopped, start, rib_behind, is_dump, is_session, rib_of, said_behind, record_in, counted, or_stop, read_record, input}
use Rattle.wire_model.proofs.Told.{then_any, then_meets}

-- ---- what a field uses up

weaker : {A F : Type 0} (r : Result A F) (P Q : A → Type 0) → IfOk r P → ((x : A) → P x → Q x) → IfOk r Q
weaker (Ok x) P Q p h = h x p
weaker (Err e) P Q p h = tt

octet_leaves : {F : Type 0} (fault : F) (octets : List ℕ) → IfOk (octet_at fault octets) (λ x. length x.1 < length octets)
octet_leaves fault [] = tt
octet_leaves fault (b ∷ octets) = omega arith

-- those that are read and those that are left
abbrev Splits : ℕ → ℕ → List ℕ × List ℕ → Type 0
Splits n all x = (length x.0 + length x.1 ≤ all) × (n + length x.1 ≤ all)

octets_leave : {F : Type 0} (fault : F) (n : ℕ) (octets : List ℕ) → IfOk (octets_at fault n octets) (Splits n (length octets))
octets_leave {F = F} fault n octets = by_test (nat_lt (length octets) n) refl
  where
    by_test : (b : Bool) → nat_lt (length octets) n ≡ b → IfOk {T = List ℕ × List ℕ} {E = F} (if b then Err fault else Ok (take n octets, drop n octets)) (Splits n (length octets))
    by_test true t = tt
    by_test false t =
        let le : n ≤ length octets = ltb-false (length octets) n t in
        (omega (arith, length-append (take n octets) (drop n octets), ap length (take-append-drop n octets)), omega (arith, le, length-drop n octets))

number_leaves : {F : Type 0} (fault : F) (n : ℕ) (octets : List ℕ) → IfOk (number_at fault n octets) (λ x. length x.1 ≤ length octets)
number_leaves {F = F} fault n octets = by_test (nat_lt (length octets) n)
  where
    by_test : (b : Bool) → IfOk {T = ℕ × List ℕ} {E = F} (if b then Err fault else Ok (number (take n octets), drop n octets)) (λ x. length x.1 ≤ length octets)
    by_test true = tt
    by_test false = omega (arith, length-drop n octets)

-- ---- what grows by no more than a step uses up grows by no more than all of them do

steps_within : {S F : Type 0} (step : S → List ℕ → Result (S × List ℕ) F) (size : S → ℕ) → ((s : S) (octets : List ℕ) → IfOk (step s octets) (λ x. size x.0 + length x.1 ≤ size s + length octets)) → (n : ℕ) (s : S) (octets : List ℕ) → IfOk (steps step n s octets) (λ r. size r ≤ size s + length octets)
unfolding steps
steps_within step size h n s [] = omega arith
steps_within step size h zero s (b ∷ octets) = omega arith
steps_within step size h (suc n) s (b ∷ octets) =
    then_meets (step s (b ∷ octets)) (λ x. steps step n x.0 x.1) (λ x. size x.0 + length x.1 ≤ size s + length (b ∷ octets)) _ (h s (b ∷ octets)) (λ x le.
    weaker (steps step n x.0 x.1) (λ r. size r ≤ size x.0 + length x.1) _ (steps_within step size h n x.0 x.1) (λ r le2. omega (arith, le, le2)))

times_within : {S F : Type 0} (step : S → List ℕ → Result (S × List ℕ) F) (size : S → ℕ) → ((s : S) (octets : List ℕ) → IfOk (step s octets) (λ x. size x.0 + length x.1 ≤ size s + length octets)) → (n : ℕ) (s : S) (octets : List ℕ) → IfOk (times step n s octets) (λ x. size x.0 + length x.1 ≤ size s + length octets)
unfolding times
times_within step size h zero s octets = omega arith
times_within step size h (suc n) s octets =
    then_meets (step s octets) (λ x. times step n x.0 x.1) (λ x. size x.0 + length x.1 ≤ size s + length octets) _ (h s octets) (λ x le.
    weaker (times step n x.0 x.1) (λ r. size r.0 + length r.1 ≤ size x.0 + length x.1) _ (times_within step size h n x.0 x.1) (λ r le2. omega (arith, le, le2)))

one_more_within : {A F : Type 0} (item : List ℕ → Result (A × List ℕ) F) → ((octets : List ℕ) → IfOk (item octets) (λ x. length x.1 < length octets)) → (front : List A) (octets : List ℕ) → IfOk (one_more item front octets) (λ x. length x.0 + length x.1 ≤ length front + length octets)
one_more_within item h front octets = then_meets (item octets) _ (λ x. length x.1 < length octets) _ (h octets) (λ x less. omega (arith, less, length-append front (x.0 ∷ [])))

-- ---- prefixes

prefix_leaves : (cut : Rule) (family : Family) (octets : List ℕ) → IfOk (prefix_at cut family octets) (λ x. length x.1 < length octets)
unfolding prefix_at
prefix_leaves cut family octets =
    then_meets (octet_at cut octets) _ (λ x. length x.1 < length octets) _ (octet_leaves cut octets) (λ len less.
    then_any (refuse PrefixLength (nat_lt (width family) len.0)) _ _ (λ short.
    then_meets (octets_at cut (octets_for len.0) len.1) _ (Splits (octets_for len.0) (length len.1)) _ (octets_leave cut (octets_for len.0) len.1) (λ front le. omega (arith, less, le.1))))

nlri_leaves : (cut : Rule) (ids : Bool) (family : Family) (octets : List ℕ) → IfOk (nlri_at cut ids family octets) (λ x. length x.1 < length octets)
unfolding nlri_at
nlri_leaves cut ids family octets =
    then_meets (number_at cut (id_size ids) octets) _ (λ x. length x.1 ≤ length octets) _ (number_leaves cut (id_size ids) octets) (λ id le.
    then_meets (prefix_at cut family id.1) _ (λ x. length x.1 < length id.1) _ (prefix_leaves cut family id.1) (λ prefix less. omega (arith, le, less)))

nlris_within : (cut : Rule) (ids : Bool) (family : Family) (octets : List ℕ) → IfOk (nlris cut ids family octets) (λ ns. length ns ≤ length octets)
unfolding nlris
nlris_within cut ids family octets =
    weaker (steps (one_more (nlri_at cut ids family)) (length octets) [] octets) (λ ns. length ns ≤ 0 + length octets) _ (steps_within (one_more (nlri_at cut ids family)) length (one_more_within (nlri_at cut ids family) (nlri_leaves cut ids family)) (length octets) [] octets) (λ ns few. omega (arith, few))

-- ---- attributes

abbrev reached : Option ReachAttr → ℕ
reached None = 0
reached (Some reach) = length reach.nlri

abbrev unreached : Option Unreached → ℕ
unreached None = 0
unreached (Some unreach) = length unreach.nlri

-- the prefixes that stood in a list so far
abbrev prefixes_found : Found → ℕ
prefixes_found found = reached found.reach + unreached found.unreach

next_hop_leaves : (family : Family) (octets : List ℕ) → IfOk (next_hop_at family octets) (λ x. length x.1 ≤ length octets)
unfolding next_hop_at
next_hop_leaves family octets =
    then_meets (octet_at AttributeValue octets) _ (λ x. length x.1 < length octets) _ (octet_leaves AttributeValue octets) (λ len less.
    then_any (refuse AttributeValue (not (is_hop_length family len.0))) _ _ (λ known.
    then_meets (octets_at AttributeValue len.0 len.1) _ (Splits len.0 (length len.1)) _ (octets_leave AttributeValue len.0 len.1) (λ hop le. omega (arith, less, le.1))))

family_leaves : (octets : List ℕ) → IfOk (family_at octets) (λ x. length x.1 ≤ length octets)
unfolding family_at
family_leaves octets =
    then_meets (number_at AttributeValue 2 octets) _ (λ x. length x.1 ≤ length octets) _ (number_leaves AttributeValue 2 octets) (λ afi le.
    then_meets (octet_at AttributeValue afi.1) _ (λ x. length x.1 < length afi.1) _ (octet_leaves AttributeValue afi.1) (λ safi less. omega (arith, le, less)))

reach_within : (ids : Bool) (family : Option Family) (octets : List ℕ) → IfOk (reach_in ids family octets) (λ x. reached x ≤ length octets)
unfolding reach_in
reach_within ids None octets = omega arith
reach_within ids (Some family) octets =
    then_meets (next_hop_at family octets) _ (λ x. length x.1 ≤ length octets) _ (next_hop_leaves family octets) (λ hop le.
    then_meets (octet_at AttributeValue hop.1) _ (λ x. length x.1 < length hop.1) _ (octet_leaves AttributeValue hop.1) (λ reserved less.
    then_meets (nlris AttributeValue ids family reserved.1) _ (λ ns. length ns ≤ length reserved.1) _ (nlris_within AttributeValue ids family reserved.1) (λ nlri few. omega (arith, le, less, few))))

unreach_within : (ids : Bool) (family : Option Family) (octets : List ℕ) → IfOk (unreach_in ids family octets) (λ x. unreached x ≤ length octets)
unfolding unreach_in
unreach_within ids None octets = omega arith
unreach_within ids (Some family) octets = then_meets (nlris AttributeValue ids family octets) _ (λ ns. length ns ≤ length octets) _ (nlris_within AttributeValue ids family octets) (λ nlri few. few)

-- found grows by no more than the value's octets
abbrev Grown : Found → ℕ → Result Found Rule → Type 0
Grown found n r = IfOk r (λ next. prefixes_found next ≤ prefixes_found found + n)

rib_reach : (family : Family) (hop : Result (Address × List ℕ) Rule) → reached (reach_of_rib family hop) ≡ 0
rib_reach family (Ok hop) = refl
rib_reach family (Err rule) = refl

path_grows : (place : Place) (found : Found) (value : List ℕ) → Grown found (length value) (with_as_path place found value)
unfolding with_as_path
path_grows place found value = then_any (keep_first found.path _) _ _ (λ path. omega arith)

hop_grows : (place : Place) (found : Found) (value : List ℕ) → Grown found (length value) (with_next_hop place found value)
unfolding with_next_hop
hop_grows place found value = then_any (keep_first found.hop (judged place (next_hop_in value))) _ _ (λ hop. omega arith)

reach_grows : (place : Place) (found : Found) (value : List ℕ) → Grown found (length value) (with_reach place found value)
unfolding with_reach
reach_grows (Rib family) found value = omega (arith, rib_reach family (rib_hop family value))
reach_grows (Update wide ids) found value =
    then_meets (family_at value) _ (λ x. length x.1 ≤ length value) _ (family_leaves value) (λ family le.
    then_meets (reach_in ids family.0 family.1) _ (λ x. reached x ≤ length family.1) _ (reach_within ids family.0 family.1) (λ reach few. omega (arith, le, few)))

unreach_grows : (place : Place) (found : Found) (value : List ℕ) → Grown found (length value) (with_unreach place found value)
unfolding with_unreach
unreach_grows (Rib family) found value = omega arith
unreach_grows (Update wide ids) found value =
    then_meets (family_at value) _ (λ x. length x.1 ≤ length value) _ (family_leaves value) (λ family le.
    then_meets (unreach_in ids family.0 family.1) _ (λ x. unreached x ≤ length family.1) _ (unreach_within ids family.0 family.1) (λ unreach few. omega (arith, le, few)))

either : {A F : Type 0} (b : Bool) (r s : Result A F) (P : A → Type 0) → IfOk r P → IfOk s P → IfOk (if b then r else s) P
either true r s P p q = p
either false r s P p q = q

value_grows : (place : Place) (found : Found) (kind : ℕ) (value : List ℕ) → Grown found (length value) (with_value place found kind value)
unfolding with_value
value_grows place found kind value =
    either (kind == 2) _ _ _ (path_grows place found value)
    (either (kind == 3) _ _ _ (hop_grows place found value)
    (either (kind == 14) _ _ _ (reach_grows place found value)
    (either (kind == 15) _ _ _ (unreach_grows place found value) (omega arith))))

attribute_grows : (place : Place) (found : Found) (octets : List ℕ) → IfOk (attribute_at place found octets) (λ x. prefixes_found x.0 + length x.1 ≤ prefixes_found found + length octets)
unfolding attribute_at
attribute_grows place found octets =
    then_meets (octet_at AttributeCut octets) _ (λ x. length x.1 < length octets) _ (octet_leaves AttributeCut octets) (λ flags less.
    then_meets (octet_at AttributeCut flags.1) _ (λ x. length x.1 < length flags.1) _ (octet_leaves AttributeCut flags.1) (λ kind fewer.
    then_any (refuse SecondMp (is_second found kind.0)) _ _ (λ first.
    then_meets (number_at AttributeCut (if bit_and flags.0 16 == 0 then 1 else 2) kind.1) _ (λ x. length x.1 ≤ length kind.1) _ (number_leaves AttributeCut (if bit_and flags.0 16 == 0 then 1 else 2) kind.1) (λ len le.
    then_meets (octets_at AttributeCut len.0 len.1) _ (Splits len.0 (length len.1)) _ (octets_leave AttributeCut len.0 len.1) (λ value split.
    then_meets (with_value place found kind.0 value.0) _ (λ next. prefixes_found next ≤ prefixes_found found + length value.0) _ (value_grows place found kind.0 value.0) (λ next grown. omega (arith, less, fewer, le, split.0, grown)))))))

attributes_within : (place : Place) (octets : List ℕ) → IfOk (attributes place octets) (λ list. reached list.reach + unreached list.unreach ≤ length octets)
unfolding attributes
attributes_within place octets = then_meets (until_end (attribute_at place) nothing_found octets) _ (λ found. prefixes_found found ≤ 0 + 0 + length octets) _ (steps_within (attribute_at place) prefixes_found (attribute_grows place) (length octets) nothing_found octets) (λ found few. omega (arith, few))

-- ---- RIB records

entry_leaves : (peers : List Peer) (ids : Bool) (family : Family) (prefix : Prefix) (octets : List ℕ) → IfOk (rib_entry_at peers ids family prefix octets) (λ x. length x.1 < length octets)
unfolding rib_entry_at
entry_leaves peers ids family prefix octets =
    then_meets (number_at RibForm 2 octets) _ (λ x. length x.1 ≤ length octets) _ (number_leaves RibForm 2 octets) (λ index le.
    then_any (indexed (slice_get peers index.0)) _ _ (λ peer.
    then_meets (octets_at RibForm 4 index.1) _ (Splits 4 (length index.1)) _ (octets_leave RibForm 4 index.1) (λ time four.
    then_meets (number_at RibForm (id_size ids) time.1) _ (λ x. length x.1 ≤ length time.1) _ (number_leaves RibForm (id_size ids) time.1) (λ id le4.
    then_meets (number_at RibForm 2 id.1) _ (λ x. length x.1 ≤ length id.1) _ (number_leaves RibForm 2 id.1) (λ len le2.
    then_meets (octets_at RibForm len.0 len.1) _ (Splits len.0 (length len.1)) _ (octets_leave RibForm len.0 len.1) (λ area le3.
    then_any (attributes (Rib family) area.0) _ _ (λ list. omega (arith, le, four.1, le4, le2, le3.1))))))))

all_read_within : {A F : Type 0} (fault : F) (P : A → Type 0) (x : A × List ℕ) → P x.0 → IfOk (all_read fault x) P
all_read_within {F = F} fault P x p = by_test (length x.1 == 0)
  where
    by_test : (b : Bool) → IfOk {E = F} (if b then Ok x.0 else Err fault) P
    by_test true = p
    by_test false = tt

rib_within : (peers : List Peer) (ids : Bool) (family : Family) (body : List ℕ) → IfOk (rib peers ids family body) (λ events. length events ≤ length body)
unfolding rib
rib_within peers ids family body =
    then_meets (octets_at RibForm 4 body) _ (Splits 4 (length body)) _ (octets_leave RibForm 4 body) (λ sequence four.
    then_meets (prefix_at RibForm family sequence.1) _ (λ x. length x.1 < length sequence.1) _ (prefix_leaves RibForm family sequence.1) (λ prefix less.
    then_meets (number_at RibForm 2 prefix.1) _ (λ x. length x.1 ≤ length prefix.1) _ (number_leaves RibForm 2 prefix.1) (λ count le.
    then_meets (times (one_more (rib_entry_at peers ids family prefix.0)) count.0 [] count.1) _ (λ x. length x.0 + length x.1 ≤ 0 + length count.1) _
    (times_within (one_more (rib_entry_at peers ids family prefix.0)) length (one_more_within (rib_entry_at peers ids family prefix.0) (entry_leaves peers ids family prefix.0)) count.0 [] count.1) (λ events few.
    all_read_within RibForm (λ es. length es ≤ length body) events (omega (arith, four.1, less, le, few))))))

-- ---- UPDATE

unreach_count : (peer : Peer) (unreach : Option Unreached) → length (unreach_events peer unreach) ≡ unreached unreach
unreach_count peer None = refl
unreach_count peer (Some unreach) = length-map unreach.nlri (λ (n : Nlri). Withdraw (via_of peer n) n.prefix)

reach_count : (peer : Peer) (list : Listed) (reach : Option ReachAttr) → length (reach_events peer list reach) ≡ reached reach
reach_count peer list None = refl
reach_count peer list (Some reach) = length-map reach.nlri (λ (n : Nlri). event_of list.path (if list.bad then None else Some reach.hop) (via_of peer n) n.prefix)

four_parts : {X : Type 0} (a b c d : List X) → length (a ++ b ++ c ++ d) ≡ length a + length b + length c + length d
four_parts a b c d = omega (arith, length-append (a ++ b ++ c) d, length-append (a ++ b) c, length-append a b)

-- what is said has no more events than so many
abbrev Says : ℕ → Said → Type 0
Says n words = length words.events ≤ n

update_within : (wide ids : Bool) (peer : Peer) (octets : List ℕ) → IfOk (update wide ids peer octets) (Says (length octets))
unfolding update
update_within wide ids peer octets =
    then_meets (number_at UpdateLengths 2 octets) _ (λ x. length x.1 ≤ length octets) _ (number_leaves UpdateLengths 2 octets) (λ gone_len le.
    then_meets (octets_at UpdateLengths gone_len.0 gone_len.1) _ (Splits gone_len.0 (length gone_len.1)) _ (octets_leave UpdateLengths gone_len.0 gone_len.1) (λ gone_area split.
    then_meets (nlris UpdateLengths ids V4 gone_area.0) _ (λ ns. length ns ≤ length gone_area.0) _ (nlris_within UpdateLengths ids V4 gone_area.0) (λ gone g.
    then_meets (number_at UpdateLengths 2 gone_area.1) _ (λ x. length x.1 ≤ length gone_area.1) _ (number_leaves UpdateLengths 2 gone_area.1) (λ list_len le2.
    then_meets (octets_at UpdateLengths list_len.0 list_len.1) _ (Splits list_len.0 (length list_len.1)) _ (octets_leave UpdateLengths list_len.0 list_len.1) (λ area split2.
    then_meets (attributes (Update wide ids) area.0) _ (λ list. reached list.reach + unreached list.unreach ≤ length area.0) _ (attributes_within (Update wide ids) area.0) (λ list h.
    then_meets (nlris UpdateLengths ids V4 area.1) _ (λ ns. length ns ≤ length area.1) _ (nlris_within UpdateLengths ids V4 area.1) (λ nlri n.
    let all = four_parts (withdrawn peer gone) (unreach_events peer list.unreach) (routes peer list.path list.hop nlri) (reach_events peer list list.reach) in
    omega (arith, le, split.0, g, le2, split2.0, h, n, all, length-map gone (λ (n : Nlri). Withdraw (via_of peer n) n.prefix), unreach_count peer list.unreach, length-map nlri (λ (n : Nlri). event_of list.path list.hop (via_of peer n) n.prefix), reach_count peer list list.reach))))))))

message_within : (wide ids : Bool) (peer : Peer) (octets : List ℕ) → IfOk (message wide ids peer octets) (Says (length octets))
unfolding message
message_within wide ids peer octets =
    then_any (refuse {F = Rule} MessageLength (nat_lt (length octets) 19)) _ _ (λ long.
    then_meets (octets_at MessageLength 16 octets) _ (Splits 16 (length octets)) _ (octets_leave MessageLength 16 octets) (λ marker split.
    then_meets (number_at MessageLength 2 marker.1) _ (λ x. length x.1 ≤ length marker.1) _ (number_leaves MessageLength 2 marker.1) (λ len le.
    then_any (refuse {F = Rule} MessageLength (not (len.0 == length octets))) _ _ (λ all.
    then_meets (octet_at MessageLength len.1) _ (λ x. length x.1 < length len.1) _ (octet_leaves MessageLength len.1) (λ kind less.
    either (kind.0 == 2) _ _ _ (weaker (update wide ids peer kind.1) (Says (length kind.1)) _ (update_within wide ids peer kind.1) (λ words few. omega (arith, split.1, le, less, few))) (omega arith))))))

-- ---- state changes and sessions

lost_count : (peer : Peer) (b : Bool) (n : ℕ) → length (if b then Down peer ∷ [] else []) ≤ n + 1
lost_count peer true n = omega arith
lost_count peer false n = omega arith

state_change_within : (peer : Peer) (octets : List ℕ) → IfOk (state_change peer octets) (Says (length octets + 1))
unfolding state_change
state_change_within peer octets =
    then_any (number_at SessionForm 2 octets) _ _ (λ old.
    then_any (number_at SessionForm 2 old.1) _ _ (λ new.
    all_read_within SessionForm (Says (length octets + 1)) (said (if is_lost old.0 new.0 then Down peer ∷ [] else []), new.1) (lost_count peer (is_lost old.0 new.0) (length octets))))

session_says_within : (session : Session) (peer : Peer) (octets : List ℕ) → IfOk (session_says session peer octets) (Says (length octets + 1))
session_says_within (StateChange wide) peer octets = state_change_within peer octets
session_says_within (Message wide ids) peer octets = weaker (message wide ids peer octets) (Says (length octets)) _ (message_within wide ids peer octets) (λ words few. omega (arith, few))

address_leaves : (cut : Rule) (family : Family) (octets : List ℕ) → IfOk (address_at cut family octets) (λ x. length x.1 ≤ length octets)
unfolding address_at
address_leaves cut family octets = then_meets (octets_at cut (octets_for (width family)) octets) _ (Splits (octets_for (width family)) (length octets)) _ (octets_leave cut (octets_for (width family)) octets) (λ front split. omega (arith, split.1))

-- the events, where there are some, are no more than so many and one
abbrev AtMost : ℕ → Option Said → Type 0
AtMost n told = IfSome told (Says (n + 1))

session_behind_within : (session : Session) (asn : ℕ) (family : Option Family) (octets : List ℕ) → IfOk (session_behind session asn family octets) (AtMost (length octets))
unfolding session_behind
session_behind_within session asn None octets = tt
session_behind_within session asn (Some family) octets =
    then_meets (address_at SessionForm family octets) _ (λ x. length x.1 ≤ length octets) _ (address_leaves SessionForm family octets) (λ addr le.
    then_meets (address_at SessionForm family addr.1) _ (λ x. length x.1 ≤ length addr.1) _ (address_leaves SessionForm family addr.1) (λ local le2.
    then_meets (session_says session (record { addr = addr.0; asn = asn }) local.1) _ (Says (length local.1 + 1)) _ (session_says_within session (record { addr = addr.0; asn = asn }) local.1) (λ events few. omega (arith, le, le2, few))))

at_most_more : (m n : ℕ) (told : Option Said) → m ≤ n → AtMost m told → AtMost n told
at_most_more m n None le few = tt
at_most_more m n (Some words) le few = omega (arith, le, few)

session_in_within : (session : Option Session) (micro : Bool) (body : List ℕ) → IfOk (session_in session micro body) (AtMost (length body))
unfolding session_in
session_in_within None micro body = tt
session_in_within (Some session) micro body =
    then_meets (octets_at SessionForm _ body) _ (Splits _ (length body)) _ (octets_leave SessionForm _ body) (λ time le.
    then_meets (number_at SessionForm _ time.1) _ (λ x. length x.1 ≤ length time.1) _ (number_leaves SessionForm _ time.1) (λ asn le2.
    then_meets (octets_at SessionForm _ asn.1) _ (Splits _ (length asn.1)) _ (octets_leave SessionForm _ asn.1) (λ local le3.
    then_meets (octets_at SessionForm 2 local.1) _ (Splits 2 (length local.1)) _ (octets_leave SessionForm 2 local.1) (λ interface le4.
    then_meets (number_at SessionForm 2 interface.1) _ (λ x. length x.1 ≤ length interface.1) _ (number_leaves SessionForm 2 interface.1) (λ afi le5.
    weaker (session_behind session asn.0 (family_of afi.0) afi.1) (AtMost (length afi.1)) _ (session_behind_within session asn.0 (family_of afi.0) afi.1) (λ told few.
    at_most_more (length afi.1) (length body) told (omega (arith, le.1, le2, le3.1, le4.1, le5)) few))))))

bgp4mp_within : (sub : ℕ) (micro : Bool) (body : List ℕ) → IfOk (bgp4mp sub micro body) (AtMost (length body))
unfolding bgp4mp
bgp4mp_within sub micro body = session_in_within (session_of sub) micro body

-- ---- the input

rib_behind_within : (peers : Option (List Peer)) (ids : Bool) (family : Family) (body : List ℕ) → IfOk (rib_behind peers ids family body) (λ events. length events ≤ length body)
rib_behind_within (Some peers) ids family body = rib_within peers ids family body
rib_behind_within None ids family body = tt

record_behind_within : (peers : Option (List Peer)) (r : Record) (held : Option (Bool × Family)) → IfOk (said_behind peers r held) (AtMost (length r.body))
record_behind_within peers r (Some (ids, family)) = then_meets (rib_behind peers ids family r.body) _ (λ events. length events ≤ length r.body) _ (rib_behind_within peers ids family r.body) (λ events few. omega (arith, few))
record_behind_within peers r None = either (is_session r) _ _ _ (bgp4mp_within r.subtype (r.kind == 17) r.body) tt

record_within : (peers : Option (List Peer)) (r : Record) → IfOk (record_in peers r) (λ told. AtMost (length r.body) told.1)
unfolding record_in
record_within peers r =
    either (is_dump 1 r) _ _ _ (then_any (peer_table r.body) _ _ (λ table. omega arith))
    (then_meets (said_behind peers r (rib_of r)) _ (AtMost (length r.body)) _ (record_behind_within peers r (rib_of r)) (λ words few. few))

record_leaves : (octets : List ℕ) → IfOk (record_at octets) (λ x. length x.0.body + length x.1 < length octets)
unfolding record_at
record_leaves octets =
    then_any (refuse HeaderCut (nat_lt (length octets) 12)) _ _ (λ whole.
    then_meets (octets_at HeaderCut 4 octets) _ (Splits 4 (length octets)) _ (octets_leave HeaderCut 4 octets) (λ time four.
    then_meets (number_at HeaderCut 2 time.1) _ (λ x. length x.1 ≤ length time.1) _ (number_leaves HeaderCut 2 time.1) (λ kind le.
    then_meets (number_at HeaderCut 2 kind.1) _ (λ x. length x.1 ≤ length kind.1) _ (number_leaves HeaderCut 2 kind.1) (λ subtype le2.
    then_meets (number_at HeaderCut 4 subtype.1) _ (λ x. length x.1 ≤ length subtype.1) _ (number_leaves HeaderCut 4 subtype.1) (λ len le3.
    then_any (refuse TooLong (nat_lt most_length len.0)) _ _ (λ allowed.
    then_meets (octets_at BodyCut len.0 len.1) _ (Splits len.0 (length len.1)) _ (octets_leave BodyCut len.0 len.1) (λ body split. omega (arith, four.1, le, le2, le3, split.0))))))))

-- what was read is no more than so many, and there is room for the octets that are left
pub record HasRoom (n : ℕ) (read : Progress) (left : List ℕ) : Type 0 where
  pub events : length read.events + length left ≤ n
  pub records : read.records + length left ≤ n
  pub skipped : read.skipped + length left ≤ n
  pub treated : read.treated + length left ≤ n

one_at_most : (b : Bool) → (if b then 1 else 0) ≤ 1
one_at_most true = omega arith
one_at_most false = omega arith

counted_room : (n body : ℕ) (read : Progress) (told : Option (List Peer) × Option Said) (octets left : List ℕ) → HasRoom n read octets → body + length left < length octets → AtMost body told.1 → HasRoom n (counted read told) left
counted_room n body read (peers, Some words) octets left h less few = record {
  events = omega (arith, h.events, less, few, length-append read.events words.events);
  records = omega (arith, h.records, less);
  skipped = omega (arith, h.skipped, less);
  treated = omega (arith, h.treated, less, one_at_most words.treated);
}
counted_room n body read (peers, None) octets left h less few = record {
  events = omega (arith, h.events, less);
  records = omega (arith, h.records, less);
  skipped = omega (arith, h.skipped, less);
  treated = omega (arith, h.treated, less);
}

or_stopped : {A : Type 0} (P : A → Type 0) (read : Progress) (r : Result A Rule) → IfOk r P → MatchResult (or_stop read r) P (λ s. s.read ≡ read)
or_stopped P read (Ok x) p = p
or_stopped P read (Err rule) p = refl

one_record : (n : ℕ) (read : Progress) (octets : List ℕ) → HasRoom n read octets → MatchResult (read_record read octets) (λ x. HasRoom n x.0 x.1) (λ s. s.read ≡ read)
unfolding read_record
one_record n read octets h =
    or_stopped (λ x. HasRoom n x.0 x.1) read _
    (then_meets (record_at octets) _ (λ x. length x.0.body + length x.1 < length octets) _ (record_leaves octets) (λ r less.
    then_meets (record_in read.peers r.0) _ (λ told. AtMost (length r.0.body) told.1) _ (record_within read.peers r.0) (λ told few. counted_room n (length r.0.body) read told octets r.1 h less few)))

steps_room : (n fuel : ℕ) (read : Progress) (octets : List ℕ) → HasRoom n read octets → MatchResult (steps read_record fuel read octets) (λ p. HasRoom n p []) (λ s. HasRoom n s.read [])
unfolding steps
steps_room n fuel read [] h = h
steps_room n zero read (b ∷ octets) h = record { events = omega (arith, h.events); records = omega (arith, h.records); skipped = omega (arith, h.skipped); treated = omega (arith, h.treated) }
steps_room n (suc fuel) read (b ∷ octets) h = by_step (read_record read (b ∷ octets)) (one_record n read (b ∷ octets) h) (steps_room n fuel)
  where
    by_step : (r : Result (Progress × List ℕ) Stopped) → MatchResult r (λ x. HasRoom n x.0 x.1) (λ s. s.read ≡ read) → ((p : Progress) (left : List ℕ) → HasRoom n p left → MatchResult (steps read_record fuel p left) (λ p. HasRoom n p []) (λ s. HasRoom n s.read []))
        → MatchResult (r >>= λ x. steps read_record fuel x.0 x.1) (λ p. HasRoom n p []) (λ s. HasRoom n s.read [])
    by_step (Ok x) p ih = ih x.0 x.1 p
    by_step (Err s) e ih = subst (λ p. HasRoom n p []) (sym e) (record { events = omega (arith, h.events); records = omega (arith, h.records); skipped = omega (arith, h.skipped); treated = omega (arith, h.treated) })

-- an input has no more events, no more records, no more skipped ones and no more treated messages than octets
pub input_within : (octets : List ℕ) → MatchResult (input octets) (λ p. HasRoom (length octets) p []) (λ s. HasRoom (length octets) s.read [])
unfolding input
input_within octets = steps_room (length octets) (length octets) start octets (record { events = omega arith; records = omega arith; skipped = omega arith; treated = omega arith })
