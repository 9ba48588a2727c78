-- What is read is well formed: addresses and prefixes have no more bits than their families.
use Rattle.std.proofs.Common.{◌≡◌, ℕ, zero, suc, ◌*◌, ◌≤◌, Bool, true, false, List, [], ◌∷◌, ◌++◌, length, take, drop, Option, Some, None, Result, Ok, Err, refl, sym, ap, subst, ◌∙◌, arith, append_assoc, append-nil, length-append}
use Rattle.std.specs.Prelude.{nat_lt, slice_get, unwrap_or, not, ◌==◌, ◌||◌, if◌then◌else◌, IfOk, IfSome, MatchResult}
use Rattle.std.specs.List.{AllByRecursion}
use Rattle.std.proofs.lemmas.Bool.{ltb-false, eqb-true}
use Rattle.std.proofs.lemmas.List.{length-take-le}
use Rattle.table_model.specs.declared.family.Family.{Family}
use Rattle.table_model.specs.declared.family.Family.TheVariants.{V4, V6}
use Rattle.table_model.specs.Address.{Address, Prefix, IsAddress, IsPrefix}
use Rattle.table_model.specs.Bits.{bits_of, octet_bits}
use Rattle.table_model.specs.Width.{width}
use Rattle.table_model.proofs.BitLaws.{length-bits_of}
use Rattle.route_model.specs.Events.{Peer, IsPeer, Via, IsVia, Event, Down, IsEvent}
use Rattle.route_model.proofs.Elems.{all_more}
use Rattle.octet_fields.specs.Field.{◌>>=◌, refuse, octet_at, octets_at, number_at, all_read, one_more, times, steps, until_end}
use Rattle.wire_model.specs.declared.place.Place.{Place}
use Rattle.wire_model.specs.declared.place.Place.TheVariants.{Rib, Update}
use Rattle.wire_model.specs.declared.session.Session.{Session}
use Rattle.wire_model.specs.declared.session.Session.TheVariants.{StateChange, Message}
use Rattle.wire_model.specs.declared.rule.Rule.{Rule}
use Rattle.wire_model.specs.declared.rule.Rule.TheVariants.{PeerTableForm, PrefixLength, RibForm, AttributeCut, AttributeValue, SecondMp, SessionForm, MessageLength, UpdateLengths}
use Rattle.wire_model.specs.Wire.{octets_for, address_at, prefix_at, Nlri, id_size, nlri_at, nlris, family_of, family_at}
use Rattle.wire_model.specs.Path.{Path}
use Rattle.wire_model.specs.Attribute.{ReachAttr, Unreached, Found, nothing_found, hop_of, is_hop_length, next_hop_at, is_of, full_hop, rib_hop, reach_of_rib, reach_in, unreach_in, judged, keep_first, with_as_path, next_hop_in, with_next_hop, with_reach, with_unreach, with_value, is_second, attribute_at, Listed, is_bad, listed_from, attributes}
use Rattle.wire_model.specs.Rib.{peer_at, peer_table, entry_hop, event_of, indexed, rib_entry_at, rib}
use Rattle.wire_model.specs.Update.{Said, said, via_of, withdrawn, routes, unreach_events, reach_events, update, message, is_lost, state_change, session_of, session_says, session_behind, session_in, bgp4mp}
use Rattle.wire_model.specs.Record.{Record, record_at}
use Rattle.wire_model.specs.Input.{Progress, Stopped, start, rib_behind, is_dump, is_session, rib_of, said_behind, record_in, counted, or_stop, read_record, input}
use Rattle.wire_model.specs.Reading.{ReadsEvents}

-- ---- what a reader's value meets

pub then_any : {A B F : Type 0} (r : Result A F) (f : A → Result B F) (Q : B → Type 0) → ((x : A) → IfOk (f x) Q) → IfOk (r >>= f) Q
then_any (Ok x) f Q h = h x
then_any (Err e) f Q h = tt

pub then_meets : {A B F : Type 0} (r : Result A F) (f : A → Result B F) (P : A → Type 0) (Q : B → Type 0) → IfOk r P → ((x : A) → P x → IfOk (f x) Q) → IfOk (r >>= f) Q
then_meets (Ok x) f P Q p h = h x p
then_meets (Err e) f P Q p h = tt

refuse_meets : {F : Type 0} (fault : F) (b : Bool) → IfOk (refuse fault b) (λ x. b ≡ false)
refuse_meets fault true = tt
refuse_meets fault false = refl

octets_meet : {F : Type 0} (fault : F) (n : ℕ) (octets : List ℕ) → IfOk (octets_at fault n octets) (λ x. length x.0 ≡ n)
octets_meet {F = F} fault n octets = by_test (nat_lt (length octets) n) refl
  where
    by_test : (b : Bool) → nat_lt (length octets) n ≡ b → IfOk {T = List ℕ × List ℕ} {E = F} (if b then Err fault else Ok (take n octets, drop n octets)) (λ x. length x.0 ≡ n)
    by_test true t = tt
    by_test false t = length-take-le n octets (ltb-false (length octets) n t)

all_read_meets : {A F : Type 0} (fault : F) (P : A → Type 0) (x : A × List ℕ) → P x.0 → IfOk (all_read fault x) P
all_read_meets {F = F} fault P x p = by_test (length x.1 == 0)
  where
    by_test : (b : Bool) → IfOk {E = F} (if b then Ok x.0 else Err fault) P
    by_test true = p
    by_test false = tt

all_front : {X : Type 0} (P : X → Type 0) (xs ys : List X) → AllByRecursion P (xs ++ ys) → AllByRecursion P xs
all_front P [] ys a = tt
all_front P (x ∷ xs) ys a = (a.0, all_front P xs ys a.1)

one_more_meets : {A F : Type 0} (item : List ℕ → Result (A × List ℕ) F) (P : A → Type 0) → ((octets : List ℕ) → IfOk (item octets) (λ x. P x.0)) → (front : List A) (octets : List ℕ) → AllByRecursion P front → IfOk (one_more item front octets) (λ x. AllByRecursion P x.0)
one_more_meets item P h front octets a = then_meets (item octets) _ (λ x. P x.0) _ (h octets) (λ x p. all_more P front (x.0 ∷ []) a (p, tt))

-- what a step keeps, steps keep
steps_meet : {S F : Type 0} (step : S → List ℕ → Result (S × List ℕ) F) (P : S → Type 0) (Q : F → Type 0) → ((s : S) (octets : List ℕ) → P s → MatchResult (step s octets) (λ x. P x.0) Q) → (n : ℕ) (s : S) (octets : List ℕ) → P s → MatchResult (steps step n s octets) P Q
unfolding steps
steps_meet step P Q h n s [] p = p
steps_meet step P Q h zero s (b ∷ octets) p = p
steps_meet {S = S} {F = F} step P Q h (suc n) s (b ∷ octets) p = by_step (step s (b ∷ octets)) (h s (b ∷ octets) p) (steps_meet step P Q h n)
  where
    by_step : (r : Result (S × List ℕ) F) → MatchResult r (λ x. P x.0) Q → ((s : S) (octets : List ℕ) → P s → MatchResult (steps step n s octets) P Q) → MatchResult (r >>= λ x. steps step n x.0 x.1) P Q
    by_step (Ok x) p ih = ih x.0 x.1 p
    by_step (Err e) q ih = q

until_end_meets : {S F : Type 0} (step : S → List ℕ → Result (S × List ℕ) F) (P : S → Type 0) → ((s : S) (octets : List ℕ) → P s → IfOk (step s octets) (λ x. P x.0)) → (s : S) (octets : List ℕ) → P s → IfOk (until_end step s octets) P
until_end_meets step P h s octets p = steps_meet step P _ h (length octets) s octets p

times_meet : {S F : Type 0} (step : S → List ℕ → Result (S × List ℕ) F) (P : S → Type 0) → ((s : S) (octets : List ℕ) → P s → IfOk (step s octets) (λ x. P x.0)) → (n : ℕ) (s : S) (octets : List ℕ) → P s → IfOk (times step n s octets) (λ x. P x.0)
unfolding times
times_meet step P h zero s octets p = p
times_meet step P h (suc n) s octets p = then_meets (step s octets) (λ x. times step n x.0 x.1) (λ x. P x.0) _ (h s octets p) (λ x q. times_meet step P h n x.0 x.1 q)

-- ---- addresses and prefixes

length-octet_bits : (octets : List ℕ) → length (octet_bits octets) ≡ 8 * length octets
unfolding octet_bits
length-octet_bits [] = refl
length-octet_bits (b ∷ octets) = omega (arith, length-append (bits_of 8 b) (octet_bits octets), length-bits_of 8 b, length-octet_bits octets)

whole : (family : Family) → 8 * octets_for (width family) ≡ width family
whole V4 = refl
whole V6 = refl

address_meets : (cut : Rule) (family : Family) (octets : List ℕ) → IfOk (address_at cut family octets) (λ x. IsAddress x.0)
unfolding address_at
address_meets cut family octets =
    then_meets (octets_at cut (octets_for (width family)) octets) _ (λ x. length x.0 ≡ octets_for (width family)) _ (octets_meet cut (octets_for (width family)) octets)
    (λ front e. length-octet_bits front.0 ∙ (ap (λ n. 8 * n) e ∙ whole family))

length-take-at_most : {X : Type 0} (n : ℕ) (xs : List X) → length (take n xs) ≤ n
length-take-at_most zero xs = omega arith
length-take-at_most (suc n) [] = omega arith
length-take-at_most (suc n) (x ∷ xs) = omega (arith, length-take-at_most n xs)

prefix_meets : (cut : Rule) (family : Family) (octets : List ℕ) → IfOk (prefix_at cut family octets) (λ x. IsPrefix x.0)
unfolding prefix_at
prefix_meets cut family octets =
    then_any (octet_at cut octets) _ _ (λ len.
    then_meets (refuse PrefixLength (nat_lt (width family) len.0)) _ (λ x. nat_lt (width family) len.0 ≡ false) _ (refuse_meets PrefixLength (nat_lt (width family) len.0)) (λ short e.
    then_any (octets_at cut (octets_for len.0) len.1) _ _ (λ front.
    let le : len.0 ≤ width family = ltb-false (width family) len.0 e in
    omega (arith, le, length-take-at_most len.0 (octet_bits front.0)))))

abbrev IsNlri : Nlri → Type 0
IsNlri n = IsPrefix n.prefix

nlri_meets : (cut : Rule) (ids : Bool) (family : Family) (octets : List ℕ) → IfOk (nlri_at cut ids family octets) (λ x. IsNlri x.0)
unfolding nlri_at
nlri_meets cut ids family octets =
    then_any (number_at cut (id_size ids) octets) _ _ (λ id.
    then_meets (prefix_at cut family id.1) _ (λ x. IsPrefix x.0) _ (prefix_meets cut family id.1) (λ prefix p. p))

nlris_meet : (cut : Rule) (ids : Bool) (family : Family) (octets : List ℕ) → IfOk (nlris cut ids family octets) (AllByRecursion IsNlri)
unfolding nlris
nlris_meet cut ids family octets =
    until_end_meets (one_more (nlri_at cut ids family)) (AllByRecursion IsNlri) (one_more_meets (nlri_at cut ids family) IsNlri (nlri_meets cut ids family)) [] octets tt

-- ---- attributes

-- a length of 16 or 32, where it isn't 4
long_v4 : (n : ℕ) → is_hop_length V4 n ≡ true → (n == 4) ≡ false → 16 ≤ n
long_v4 n h e = grind arith

long_v6 : (n : ℕ) → is_hop_length V6 n ≡ true → 16 ≤ n
long_v6 n h = grind arith

long_hop : (family : Family) (n : ℕ) → is_hop_length family n ≡ true → (n == 4) ≡ false → 16 ≤ n
long_hop V4 n h e = long_v4 n h e
long_hop V6 n h e = long_v6 n h

hop_meets : (family : Family) (octets : List ℕ) → is_hop_length family (length octets) ≡ true → IsAddress (hop_of octets)
hop_meets family octets h = by_test (length octets == 4) refl
  where
    by_test : (b : Bool) → (length octets == 4) ≡ b → IsAddress (if b then record { family = V4; bits = octet_bits octets } else record { family = V6; bits = octet_bits (take 16 octets) })
    by_test true e = let four : length octets ≡ 4 = eqb-true (length octets) 4 e in omega (arith, four, length-octet_bits octets)
    by_test false e = omega (arith, length-octet_bits (take 16 octets), length-take-le 16 octets (long_hop family (length octets) h e))

unrefused : (b : Bool) → not b ≡ false → b ≡ true
unrefused true e = refl
unrefused false e = absurd cc

next_hop_meets : (family : Family) (octets : List ℕ) → IfOk (next_hop_at family octets) (λ x. IsAddress x.0)
unfolding next_hop_at
next_hop_meets family octets =
    then_any (octet_at AttributeValue octets) _ _ (λ len.
    then_meets (refuse AttributeValue (not (is_hop_length family len.0))) _ (λ x. not (is_hop_length family len.0) ≡ false) _ (refuse_meets AttributeValue (not (is_hop_length family len.0))) (λ known e.
    then_meets (octets_at AttributeValue len.0 len.1) _ (λ x. length x.0 ≡ len.0) _ (octets_meet AttributeValue len.0 len.1) (λ hop l.
    hop_meets family hop.0 (ap (is_hop_length family) l ∙ unrefused (is_hop_length family len.0) e))))

full_hop_meets : (family : Family) (value : List ℕ) → IfOk (full_hop family value) (λ x. IsAddress x.0)
unfolding full_hop
full_hop_meets family value = then_any (family_at value) _ _ (λ other. then_any (refuse {F = Rule} AttributeValue (not (is_of family other.0))) _ _ (λ known. next_hop_meets family other.1))

rib_hop_meets : (family : Family) (value : List ℕ) → IfOk (rib_hop family value) (λ x. IsAddress x.0)
unfolding rib_hop
rib_hop_meets family [] = tt
rib_hop_meets family (zero ∷ rest) = full_hop_meets family (0 ∷ rest)
rib_hop_meets family (suc n ∷ rest) = next_hop_meets family (suc n ∷ rest)

abbrev IsReached : ReachAttr → Type 0
IsReached reach = IsAddress reach.hop × AllByRecursion IsNlri reach.nlri

abbrev IsUnreached : Unreached → Type 0
IsUnreached unreach = AllByRecursion IsNlri unreach.nlri

reach_of_rib_meets : (family : Family) (hop : Result (Address × List ℕ) Rule) → IfOk hop (λ x. IsAddress x.0) → IfSome (reach_of_rib family hop) IsReached
reach_of_rib_meets family (Ok hop) h = (h, tt)
reach_of_rib_meets family (Err rule) h = tt

reach_in_meets : (ids : Bool) (family : Option Family) (octets : List ℕ) → IfOk (reach_in ids family octets) (λ x. IfSome x IsReached)
unfolding reach_in
reach_in_meets ids None octets = tt
reach_in_meets ids (Some family) octets =
    then_meets (next_hop_at family octets) _ (λ x. IsAddress x.0) _ (next_hop_meets family octets) (λ hop h.
    then_any (octet_at AttributeValue hop.1) _ _ (λ reserved.
    then_meets (nlris AttributeValue ids family reserved.1) _ (AllByRecursion IsNlri) _ (nlris_meet AttributeValue ids family reserved.1) (λ nlri n. (h, n))))

unreach_in_meets : (ids : Bool) (family : Option Family) (octets : List ℕ) → IfOk (unreach_in ids family octets) (λ x. IfSome x IsUnreached)
unfolding unreach_in
unreach_in_meets ids None octets = tt
unreach_in_meets ids (Some family) octets = then_meets (nlris AttributeValue ids family octets) _ (AllByRecursion IsNlri) _ (nlris_meet AttributeValue ids family octets) (λ nlri n. n)

-- what stood in a list so far has next hops that are addresses, and prefixes
abbrev IsFound : Found → Type 0
IsFound found = IfSome found.hop (λ hop. IfSome hop IsAddress) × IfSome found.reach IsReached × IfSome found.unreach IsUnreached

keep_first_meets : {A : Type 0} (P : A → Type 0) (old : Option A) (read : Result A Rule) → IfSome old P → IfOk read P → IfOk (keep_first old read) (λ x. IfSome x P)
keep_first_meets P (Some x) read p r = p
keep_first_meets P None read p r = then_meets read _ P _ r (λ x q. q)

ipv4_meets : (value : List ℕ) → IfOk (next_hop_in value) IsAddress
ipv4_meets value = by_test (length value == 4) refl
  where
    by_test : (b : Bool) → (length value == 4) ≡ b → IfOk {E = Rule} (if b then Ok (record { family = V4; bits = octet_bits value }) else Err AttributeValue) IsAddress
    by_test true e = let four : length value ≡ 4 = eqb-true (length value) 4 e in omega (arith, four, length-octet_bits value)
    by_test false e = tt

judged_meets : {A : Type 0} (P : A → Type 0) (place : Place) (read : Result A Rule) → IfOk read P → IfOk (judged place read) (λ x. IfSome x P)
judged_meets P place (Ok x) p = p
judged_meets P (Rib family) (Err rule) p = tt
judged_meets P (Update wide ids) (Err rule) p = tt

with_path_meets : (place : Place) (found : Found) (value : List ℕ) → IsFound found → IfOk (with_as_path place found value) IsFound
unfolding with_as_path
with_path_meets place found value h = then_any (keep_first found.path _) _ _ (λ path. h)

with_hop_meets : (place : Place) (found : Found) (value : List ℕ) → IsFound found → IfOk (with_next_hop place found value) IsFound
unfolding with_next_hop
with_hop_meets place found value h =
    then_meets (keep_first found.hop (judged place (next_hop_in value))) _ (λ x. IfSome x (λ hop. IfSome hop IsAddress)) _
    (keep_first_meets (λ hop. IfSome hop IsAddress) found.hop (judged place (next_hop_in value)) h.0 (judged_meets IsAddress place (next_hop_in value) (ipv4_meets value)))
    (λ hop p. (p, h.1, h.2))

with_reach_meets : (place : Place) (found : Found) (value : List ℕ) → IsFound found → IfOk (with_reach place found value) IsFound
unfolding with_reach
with_reach_meets (Rib family) found value h = (h.0, reach_of_rib_meets family (rib_hop family value) (rib_hop_meets family value), h.2)
with_reach_meets (Update wide ids) found value h =
    then_any (family_at value) _ _ (λ family.
    then_meets (reach_in ids family.0 family.1) _ (λ x. IfSome x IsReached) _ (reach_in_meets ids family.0 family.1) (λ reach p. (h.0, p, h.2)))

with_unreach_meets : (place : Place) (found : Found) (value : List ℕ) → IsFound found → IfOk (with_unreach place found value) IsFound
unfolding with_unreach
with_unreach_meets (Rib family) found value h = h
with_unreach_meets (Update wide ids) found value h =
    then_any (family_at value) _ _ (λ family.
    then_meets (unreach_in ids family.0 family.1) _ (λ x. IfSome x IsUnreached) _ (unreach_in_meets ids family.0 family.1) (λ unreach p. (h.0, h.1, p)))

either : {A F : Type 0} (b : Bool) (r s : Result A F) (P : A → Type 0) → IfOk r P → IfOk s P → IfOk (if b then r else s) P
either true r s P p q = p
either false r s P p q = q

with_value_meets : (place : Place) (found : Found) (kind : ℕ) (value : List ℕ) → IsFound found → IfOk (with_value place found kind value) IsFound
unfolding with_value
with_value_meets place found kind value h =
    either (kind == 2) _ _ _ (with_path_meets place found value h)
    (either (kind == 3) _ _ _ (with_hop_meets place found value h)
    (either (kind == 14) _ _ _ (with_reach_meets place found value h)
    (either (kind == 15) _ _ _ (with_unreach_meets place found value h) h)))

attribute_meets : (place : Place) (found : Found) (octets : List ℕ) → IsFound found → IfOk (attribute_at place found octets) (λ x. IsFound x.0)
unfolding attribute_at
attribute_meets place found octets h =
    then_any (octet_at AttributeCut octets) _ _ (λ flags.
    then_any (octet_at AttributeCut flags.1) _ _ (λ kind.
    then_any (refuse {F = Rule} SecondMp (is_second found kind.0)) _ _ (λ first.
    then_any (number_at AttributeCut _ kind.1) _ _ (λ len.
    then_any (octets_at AttributeCut len.0 len.1) _ _ (λ value.
    then_meets (with_value place found kind.0 value.0) _ IsFound _ (with_value_meets place found kind.0 value.0 h) (λ next p. p))))))

abbrev IsListed : Listed → Type 0
IsListed list = IfSome list.hop IsAddress × IfSome list.reach IsReached × IfSome list.unreach IsUnreached

hop_or_none : (found : Option (Option Address)) → IfSome found (λ hop. IfSome hop IsAddress) → (bad : Bool) → IfSome (if bad then None else unwrap_or found None) IsAddress
hop_or_none found h true = tt
hop_or_none (Some hop) h false = h
hop_or_none None h false = tt

listed_meets : (found : Found) → IsFound found → IsListed (listed_from found)
listed_meets found h = (hop_or_none found.hop h.0 (is_bad found.path || is_bad found.hop), h.1, h.2)

attributes_meet : (place : Place) (octets : List ℕ) → IfOk (attributes place octets) IsListed
unfolding attributes
attributes_meet place octets = then_meets (until_end (attribute_at place) nothing_found octets) _ IsFound _ (until_end_meets (attribute_at place) IsFound (attribute_meets place) nothing_found octets (tt, tt, tt)) listed_meets

-- ---- RIB records

peer_meets : (octets : List ℕ) → IfOk (peer_at octets) (λ x. IsPeer x.0)
unfolding peer_at
peer_meets octets =
    then_any (octet_at PeerTableForm octets) _ _ (λ kind.
    then_any (octets_at PeerTableForm 4 kind.1) _ _ (λ id.
    then_meets (address_at PeerTableForm _ id.1) _ (λ x. IsAddress x.0) _ (address_meets PeerTableForm _ id.1) (λ addr p.
    then_any (number_at PeerTableForm _ addr.1) _ _ (λ asn. p))))

peer_table_meets : (body : List ℕ) → IfOk (peer_table body) (AllByRecursion IsPeer)
unfolding peer_table
peer_table_meets body =
    then_any (octets_at PeerTableForm 4 body) _ _ (λ id.
    then_any (number_at PeerTableForm 2 id.1) _ _ (λ len.
    then_any (octets_at PeerTableForm len.0 len.1) _ _ (λ name.
    then_any (number_at PeerTableForm 2 name.1) _ _ (λ count.
    then_meets (times (one_more peer_at) count.0 [] count.1) _ (λ x. AllByRecursion IsPeer x.0) _ (times_meet (one_more peer_at) (AllByRecursion IsPeer) (one_more_meets peer_at IsPeer peer_meets) count.0 [] count.1 tt) (λ peers p.
    all_read_meets PeerTableForm (AllByRecursion IsPeer) peers p)))))

indexed_meets : (peers : List Peer) (i : ℕ) → AllByRecursion IsPeer peers → IfOk (indexed (slice_get peers i)) IsPeer
indexed_meets [] i a = tt
indexed_meets (peer ∷ peers) zero a = a.0
indexed_meets (peer ∷ peers) (suc i) a = indexed_meets peers i a.1

entry_hop_meets : (family : Family) (list : Listed) → IsListed list → IfSome (entry_hop family list) IsAddress
entry_hop_meets family list h = by_family family list.hop list.reach h.0 h.1
  where
    by_family : (family : Family) (hop : Option Address) (reach : Option ReachAttr) → IfSome hop IsAddress → IfSome reach IsReached → IfSome (entry_hop family (record { path = list.path; hop = hop; reach = reach; unreach = list.unreach; bad = list.bad })) IsAddress
    by_family V4 (Some hop) reach p q = p
    by_family V4 None (Some reach) p q = q.0
    by_family V4 None None p q = tt
    by_family V6 hop (Some reach) p q = q.0
    by_family V6 (Some hop) None p q = p
    by_family V6 None None p q = tt

event_meets : (path : Path) (hop : Option Address) (via : Via) (prefix : Prefix) → IsVia via → IfSome hop IsAddress → IsPrefix prefix → IsEvent (event_of path hop via prefix)
event_meets path (Some hop) via prefix p h x = (p, x, h)
event_meets path None via prefix p h x = (p, x)

entry_meets : (peers : List Peer) (ids : Bool) (family : Family) (prefix : Prefix) (octets : List ℕ) → AllByRecursion IsPeer peers → IsPrefix prefix → IfOk (rib_entry_at peers ids family prefix octets) (λ x. IsEvent x.0)
unfolding rib_entry_at
entry_meets peers ids family prefix octets a x =
    then_any (number_at RibForm 2 octets) _ _ (λ index.
    then_meets (indexed (slice_get peers index.0)) _ IsPeer _ (indexed_meets peers index.0 a) (λ peer p.
    then_any (octets_at RibForm 4 index.1) _ _ (λ time.
    then_any (number_at RibForm (id_size ids) time.1) _ _ (λ id.
    then_any (number_at RibForm 2 id.1) _ _ (λ len.
    then_any (octets_at RibForm len.0 len.1) _ _ (λ area.
    then_meets (attributes (Rib family) area.0) _ IsListed _ (attributes_meet (Rib family) area.0) (λ list h.
    event_meets list.path (entry_hop family list) (record { peer = peer; id = id.0 }) prefix p (entry_hop_meets family list h) x)))))))

rib_meets : (peers : List Peer) (ids : Bool) (family : Family) (body : List ℕ) → AllByRecursion IsPeer peers → IfOk (rib peers ids family body) (AllByRecursion IsEvent)
unfolding rib
rib_meets peers ids family body a =
    then_any (octets_at RibForm 4 body) _ _ (λ sequence.
    then_meets (prefix_at RibForm family sequence.1) _ (λ x. IsPrefix x.0) _ (prefix_meets RibForm family sequence.1) (λ prefix x.
    then_any (number_at RibForm 2 prefix.1) _ _ (λ count.
    then_meets (times (one_more (rib_entry_at peers ids family prefix.0)) count.0 [] count.1) _ (λ y. AllByRecursion IsEvent y.0) _
    (times_meet (one_more (rib_entry_at peers ids family prefix.0)) (AllByRecursion IsEvent) (one_more_meets (rib_entry_at peers ids family prefix.0) IsEvent (λ octets. entry_meets peers ids family prefix.0 octets a x)) count.0 [] count.1 tt) (λ events e.
    all_read_meets RibForm (AllByRecursion IsEvent) events e))))

-- ---- UPDATE

withdrawn_meet : (peer : Peer) (gone : List Nlri) → IsPeer peer → AllByRecursion IsNlri gone → AllByRecursion IsEvent (withdrawn peer gone)
withdrawn_meet peer [] p a = tt
withdrawn_meet peer (n ∷ gone) p a = ((p, a.0), withdrawn_meet peer gone p a.1)

routes_meet : (peer : Peer) (path : Path) (hop : Option Address) (nlri : List Nlri) → IsPeer peer → IfSome hop IsAddress → AllByRecursion IsNlri nlri → AllByRecursion IsEvent (routes peer path hop nlri)
routes_meet peer path hop [] p h a = tt
routes_meet peer path hop (n ∷ nlri) p h a = (event_meets path hop (via_of peer n) n.prefix p h a.0, routes_meet peer path hop nlri p h a.1)

unreach_meets : (peer : Peer) (unreach : Option Unreached) → IsPeer peer → IfSome unreach IsUnreached → AllByRecursion IsEvent (unreach_events peer unreach)
unreach_meets peer None p h = tt
unreach_meets peer (Some unreach) p h = withdrawn_meet peer unreach.nlri p h

unless_bad : (bad : Bool) (hop : Address) → IsAddress hop → IfSome (if bad then None else Some hop) IsAddress
unless_bad true hop h = tt
unless_bad false hop h = h

reach_meets : (peer : Peer) (list : Listed) (reach : Option ReachAttr) → IsPeer peer → IfSome reach IsReached → AllByRecursion IsEvent (reach_events peer list reach)
reach_meets peer list None p h = tt
reach_meets peer list (Some reach) p h = routes_meet peer list.path (if list.bad then None else Some reach.hop) reach.nlri p (unless_bad list.bad reach.hop h.0) h.1

abbrev IsSaid : Said → Type 0
IsSaid words = AllByRecursion IsEvent words.events

update_meets : (wide ids : Bool) (peer : Peer) (octets : List ℕ) → IsPeer peer → IfOk (update wide ids peer octets) IsSaid
unfolding update
update_meets wide ids peer octets p =
    then_any (number_at UpdateLengths 2 octets) _ _ (λ gone_len.
    then_any (octets_at UpdateLengths gone_len.0 gone_len.1) _ _ (λ gone_area.
    then_meets (nlris UpdateLengths ids V4 gone_area.0) _ (AllByRecursion IsNlri) _ (nlris_meet UpdateLengths ids V4 gone_area.0) (λ gone g.
    then_any (number_at UpdateLengths 2 gone_area.1) _ _ (λ list_len.
    then_any (octets_at UpdateLengths list_len.0 list_len.1) _ _ (λ area.
    then_meets (attributes (Update wide ids) area.0) _ IsListed _ (attributes_meet (Update wide ids) area.0) (λ list h.
    then_meets (nlris UpdateLengths ids V4 area.1) _ (AllByRecursion IsNlri) _ (nlris_meet UpdateLengths ids V4 area.1) (λ nlri n.
    let own : AllByRecursion IsEvent (routes peer list.path list.hop nlri) = routes_meet peer list.path list.hop nlri p h.0 n in
    let all_gone = all_more IsEvent (withdrawn peer gone) (unreach_events peer list.unreach) (withdrawn_meet peer gone p g) (unreach_meets peer list.unreach p h.2) in
    let before = all_more IsEvent (withdrawn peer gone ++ unreach_events peer list.unreach) (routes peer list.path list.hop nlri) all_gone own in
    all_more IsEvent (withdrawn peer gone ++ unreach_events peer list.unreach ++ routes peer list.path list.hop nlri) (reach_events peer list list.reach) before (reach_meets peer list list.reach p h.1))))))))

message_meets : (wide ids : Bool) (peer : Peer) (octets : List ℕ) → IsPeer peer → IfOk (message wide ids peer octets) IsSaid
unfolding message
message_meets wide ids peer octets p =
    then_any (refuse {F = Rule} MessageLength (nat_lt (length octets) 19)) _ _ (λ long.
    then_any (octets_at MessageLength 16 octets) _ _ (λ marker.
    then_any (number_at MessageLength 2 marker.1) _ _ (λ len.
    then_any (refuse {F = Rule} MessageLength (not (len.0 == length octets))) _ _ (λ all.
    then_any (octet_at MessageLength len.1) _ _ (λ kind.
    either (kind.0 == 2) _ _ _ (update_meets wide ids peer kind.1 p) tt)))))

-- ---- state changes and sessions

lost_meets : (peer : Peer) (b : Bool) → IsPeer peer → AllByRecursion IsEvent (if b then Down peer ∷ [] else [])
lost_meets peer true p = (p, tt)
lost_meets peer false p = tt

state_change_meets : (peer : Peer) (octets : List ℕ) → IsPeer peer → IfOk (state_change peer octets) IsSaid
unfolding state_change
state_change_meets peer octets p =
    then_any (number_at SessionForm 2 octets) _ _ (λ old.
    then_any (number_at SessionForm 2 old.1) _ _ (λ new.
    all_read_meets SessionForm IsSaid (said (if is_lost old.0 new.0 then Down peer ∷ [] else []), new.1) (lost_meets peer (is_lost old.0 new.0) p)))

session_says_meets : (session : Session) (peer : Peer) (octets : List ℕ) → IsPeer peer → IfOk (session_says session peer octets) IsSaid
session_says_meets (StateChange wide) peer octets p = state_change_meets peer octets p
session_says_meets (Message wide ids) peer octets p = message_meets wide ids peer octets p

session_behind_meets : (session : Session) (asn : ℕ) (family : Option Family) (octets : List ℕ) → IfOk (session_behind session asn family octets) (λ x. IfSome x IsSaid)
unfolding session_behind
session_behind_meets session asn None octets = tt
session_behind_meets session asn (Some family) octets =
    then_meets (address_at SessionForm family octets) _ (λ x. IsAddress x.0) _ (address_meets SessionForm family octets) (λ addr p.
    then_any (address_at SessionForm family addr.1) _ _ (λ local.
    then_meets (session_says session (record { addr = addr.0; asn = asn }) local.1) _ IsSaid _ (session_says_meets session (record { addr = addr.0; asn = asn }) local.1 p) (λ events e. e)))

session_in_meets : (session : Option Session) (micro : Bool) (body : List ℕ) → IfOk (session_in session micro body) (λ x. IfSome x IsSaid)
unfolding session_in
session_in_meets None micro body = tt
session_in_meets (Some session) micro body =
    then_any (octets_at SessionForm _ body) _ _ (λ time.
    then_any (number_at SessionForm _ time.1) _ _ (λ asn.
    then_any (octets_at SessionForm _ asn.1) _ _ (λ local.
    then_any (octets_at SessionForm 2 local.1) _ _ (λ interface.
    then_any (number_at SessionForm 2 interface.1) _ _ (λ afi.
    session_behind_meets session asn.0 (family_of afi.0) afi.1)))))

bgp4mp_meets : (sub : ℕ) (micro : Bool) (body : List ℕ) → IfOk (bgp4mp sub micro body) (λ x. IfSome x IsSaid)
unfolding bgp4mp
bgp4mp_meets sub micro body = session_in_meets (session_of sub) micro body

-- ---- the input

abbrev ArePeers : Option (List Peer) → Type 0
ArePeers peers = IfSome peers (AllByRecursion IsPeer)

abbrev IsTold : Option (List Peer) × Option Said → Type 0
IsTold told = ArePeers told.0 × IfSome told.1 IsSaid

rib_behind_meets : (peers : Option (List Peer)) (ids : Bool) (family : Family) (body : List ℕ) → ArePeers peers → IfOk (rib_behind peers ids family body) (AllByRecursion IsEvent)
rib_behind_meets (Some peers) ids family body a = rib_meets peers ids family body a
rib_behind_meets None ids family body a = tt

record_behind_meets : (peers : Option (List Peer)) (r : Record) (held : Option (Bool × Family)) → ArePeers peers → IfOk (said_behind peers r held) (λ x. IfSome x IsSaid)
record_behind_meets peers r (Some (ids, family)) a = then_meets (rib_behind peers ids family r.body) _ (AllByRecursion IsEvent) _ (rib_behind_meets peers ids family r.body a) (λ events e. e)
record_behind_meets peers r None a = either (is_session r) _ _ _ (bgp4mp_meets r.subtype (r.kind == 17) r.body) tt

record_meets : (peers : Option (List Peer)) (r : Record) → ArePeers peers → IfOk (record_in peers r) IsTold
unfolding record_in
record_meets peers r a =
    either (is_dump 1 r) _ _ _ (then_meets (peer_table r.body) _ (AllByRecursion IsPeer) _ (peer_table_meets r.body) (λ table p. (p, tt)))
    (then_meets (said_behind peers r (rib_of r)) _ (λ x. IfSome x IsSaid) _ (record_behind_meets peers r (rib_of r) a) (λ words e. (a, e)))

abbrev IsProgress : Progress → Type 0
IsProgress read = ArePeers read.peers × AllByRecursion IsEvent read.events

counted_meets : (read : Progress) (told : Option (List Peer) × Option Said) → IsProgress read → IsTold told → IsProgress (counted read told)
counted_meets read (peers, Some words) h t = (t.0, all_more IsEvent read.events words.events h.1 t.1)
counted_meets read (peers, None) h t = (t.0, h.1)

stop_meets : {A : Type 0} (P : A → Type 0) (Q : Progress → Type 0) (read : Progress) (r : Result A Rule) → Q read → IfOk r P → MatchResult (or_stop read r) P (λ s. Q s.read)
stop_meets P Q read (Ok x) q p = p
stop_meets P Q read (Err rule) q p = q

one_record_meets : (read : Progress) (octets : List ℕ) → IsProgress read → MatchResult (read_record read octets) (λ x. IsProgress x.0) (λ s. IsProgress s.read)
unfolding read_record
one_record_meets read octets h =
    stop_meets (λ x. IsProgress x.0) IsProgress read _ h
    (then_any (record_at octets) _ _ (λ r. then_meets (record_in read.peers r.0) _ IsTold _ (record_meets read.peers r.0 h.0) (λ told t. counted_meets read told h t)))

input_meets : (octets : List ℕ) → MatchResult (input octets) IsProgress (λ s. IsProgress s.read)
unfolding input
input_meets octets = steps_meet read_record IsProgress (λ s. IsProgress s.read) one_record_meets (length octets) start octets (tt, tt)

pub read_events : (octets : List ℕ) (read : Progress) → input octets ≡ Ok read → AllByRecursion IsEvent read.events
read_events octets read e =
    let P : Result Progress Stopped → Type 0 = λ r. MatchResult r IsProgress (λ s. IsProgress s.read) in
    let h : IsProgress read = subst P e (input_meets octets) in h.1

pub stopped_events : (octets : List ℕ) (stopped : Stopped) → input octets ≡ Err stopped → AllByRecursion IsEvent stopped.read.events
stopped_events octets stopped e =
    let P : Result Progress Stopped → Type 0 = λ r. MatchResult r IsProgress (λ s. IsProgress s.read) in
    let h : IsProgress stopped.read = subst P e (input_meets octets) in h.1

-- ---- the events so far stand in front of all others

abbrev Follows : List Event → Progress → Type 0
Follows front read = (others : List Event) × (read.events ≡ front ++ others)

counted_follows : (front : List Event) (read : Progress) (told : Option (List Peer) × Option Said) → Follows front read → Follows front (counted read told)
counted_follows front read (peers, Some words) f = (f.0 ++ words.events, ap (λ es. es ++ words.events) f.1 ∙ append_assoc front f.0 words.events)
counted_follows front read (peers, None) f = f

record_follows : (front : List Event) (read : Progress) (octets : List ℕ) → Follows front read → MatchResult (read_record read octets) (λ x. Follows front x.0) (λ s. Follows front s.read)
unfolding read_record
record_follows front read octets f =
    stop_meets (λ x. Follows front x.0) (Follows front) read _ f
    (then_any (record_at octets) _ _ (λ r. then_any (record_in read.peers r.0) _ _ (λ told. counted_follows front read told f)))

pub events_so_far : (fed left : List ℕ) (read : Progress) → ReadsEvents fed read left → AllByRecursion IsEvent read.events
events_so_far fed left read t = by_end (input (fed ++ [])) (input_meets (fed ++ [])) (subst P (sym (t.whatever [])) follows)
  where
    P : Result Progress Stopped → Type 0
    P r = MatchResult r (Follows read.events) (λ s. Follows read.events s.read)

    follows : P (until_end read_record read (left ++ []))
    follows = steps_meet read_record (Follows read.events) (λ s. Follows read.events s.read) (record_follows read.events) (length (left ++ [])) read (left ++ []) ([], sym (append-nil read.events))

    by_end : (r : Result Progress Stopped) → MatchResult r IsProgress (λ s. IsProgress s.read) → P r → AllByRecursion IsEvent read.events
    by_end (Ok all) h f = all_front IsEvent read.events f.0 (subst (AllByRecursion IsEvent) f.1 h.1)
    by_end (Err stopped) h f = all_front IsEvent read.events f.0 (subst (AllByRecursion IsEvent) f.1 h.1)
