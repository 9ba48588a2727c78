-- Events bring few elementary events: two for each event, and one for each candidate that was held before.
use Rattle.std.proofs.Common.{◌≡◌, ◌+◌, ◌*◌, ◌≤◌, List, [], ◌∷◌, ◌++◌, Bool, true, false, cond, length, map, refl, sym, ap, ◌∙◌, arith, length-append}
use Rattle.std.specs.Prelude.{◌&&◌, ◌==◌}
use Rattle.std.specs.List.{filter}
use Rattle.std.specs.Map.{remove_entry}
use Rattle.std.specs.BTreeMap.{insert_entry}
use Rattle.std.specs.Ordering.{match_ordering}
use Rattle.std.specs.declared.cmp.Ordering.{Ordering}
use Rattle.std.specs.declared.cmp.Ordering.TheVariants.{Less, Equal, Greater}
use Rattle.std.proofs.lemmas.List.Sums.{fold-append}
use Rattle.table_model.specs.Address.{same_prefix}
use Rattle.route_model.proofs.Places.{place_key, same_peer_is}
use Rattle.route_model.specs.Events.{Peer, Event, Announce, Withdraw, Down, Elem, same_peer}
use Rattle.route_model.specs.Choice.{Place, PathAttrs, Candidates, same_place, place_cmp, after_elem, after_elems, cut_of, elems_of, elems_after}

put_few : {K X : Type 0} (R : K → K → Ordering) (es : List (K × X)) (k : K) (v : X) → length (insert_entry R es k v) ≤ length es + 1
put_few R [] k v = omega arith
put_few {X = X} R (e ∷ es) k v = by_order (R k e.0) (put_few R es k v)
  where
    by_order : (o : Ordering) → length (insert_entry R es k v) ≤ length es + 1 → length (match_ordering o ((k, v) ∷ e ∷ es) ((e.0, v) ∷ es) (e ∷ insert_entry R es k v)) ≤ length (e ∷ es) + 1
    by_order Less few = omega arith
    by_order Equal few = omega arith
    by_order Greater few = omega (arith, few)

cut_few : {K X : Type 0} (test : K → Bool) (es : List (K × X)) → length (remove_entry test es) ≤ length es
cut_few test [] = omega arith
cut_few test (e ∷ es) = by_test (test e.0) (cut_few test es)
  where
    by_test : (b : Bool) → length (remove_entry test es) ≤ length es → length (cond b es (e ∷ remove_entry test es)) ≤ length (e ∷ es)
    by_test true few = omega arith
    by_test false few = omega (arith, few)

-- ---- a session that is lost

abbrev of_peer : Peer → Place × PathAttrs → Bool
of_peer peer c = same_peer peer c.0.via.peer

another_peer : (peer q r : Peer) → same_peer peer q ≡ true → same_peer peer r ≡ false → same_peer q r ≡ false
another_peer peer q r t f = ap (λ x. same_peer x r) (sym (same_peer_is peer q t)) ∙ f

first_false : (a b c : Bool) → b ≡ false → (a && (b && c)) ≡ false
first_false true b c e = ap (λ x. x && c) e
first_false false b c e = refl

-- a peer's cuts pass over another peer's candidate
cuts_pass : (peer : Peer) (c : Place × PathAttrs) (ds held : Candidates) → of_peer peer c ≡ false → after_elems (c ∷ held) (map cut_of (filter (of_peer peer) ds)) ≡ c ∷ after_elems held (map cut_of (filter (of_peer peer) ds))
cuts_pass peer c [] held e = refl
cuts_pass peer c (d ∷ ds) held e = by_test (of_peer peer d) refl (cuts_pass peer c ds)
  where
    own : Candidates
    own = filter (of_peer peer) ds

    test : Place → Bool
    test = same_place (record { prefix = d.0.prefix; via = d.0.via })

    by_test : (b : Bool) → of_peer peer d ≡ b → ((held : Candidates) → of_peer peer c ≡ false → after_elems (c ∷ held) (map cut_of own) ≡ c ∷ after_elems held (map cut_of own))
        → after_elems (c ∷ held) (map cut_of (cond b (d ∷ own) own)) ≡ c ∷ after_elems held (map cut_of (cond b (d ∷ own) own))
    by_test true t ih =
        let other = another_peer peer d.0.via.peer c.0.via.peer t e in
        let kept : remove_entry test (c ∷ held) ≡ c ∷ remove_entry test held = ap (λ b. cond b held (c ∷ remove_entry test held)) (first_false (same_prefix d.0.prefix c.0.prefix) (same_peer d.0.via.peer c.0.via.peer) (d.0.via.id == c.0.via.id) other) in
        ap (λ h. after_elems h (map cut_of own)) kept ∙ ih (remove_entry test held) e
    by_test false t ih = ih held e

-- a peer's cuts take away as many candidates as there are cuts
cuts_take : (peer : Peer) (held : Candidates) → length (elems_of held (Down peer)) + length (after_elems held (elems_of held (Down peer))) ≤ length held
cuts_take peer [] = omega arith
cuts_take peer (c ∷ held) = by_test (of_peer peer c) refl (cuts_take peer held)
  where
    own : Candidates
    own = filter (of_peer peer) held

    by_test : (b : Bool) → of_peer peer c ≡ b → length (map cut_of own) + length (after_elems held (map cut_of own)) ≤ length held
        → length (map cut_of (cond b (c ∷ own) own)) + length (after_elems (c ∷ held) (map cut_of (cond b (c ∷ own) own))) ≤ length (c ∷ held)
    by_test true e ih =
        let test : Place → Bool = same_place (record { prefix = c.0.prefix; via = c.0.via }) in
        let gone : remove_entry test (c ∷ held) ≡ held = ap (λ b. cond b held (c ∷ remove_entry test held)) (place_key.itself c.0) in
        let left : length (after_elems (remove_entry test (c ∷ held)) (map cut_of own)) ≡ length (after_elems held (map cut_of own)) = ap (λ h. length (after_elems h (map cut_of own))) gone in
        omega (arith, ih, left)
    by_test false e ih = omega (arith, ih, ap length (cuts_pass peer c held held e))

-- ---- events

one_event_few : (held : Candidates) (event : Event) → length (elems_of held event) + length (after_elems held (elems_of held event)) ≤ length held + 2
one_event_few held (Announce via prefix path hop origin) = omega (arith, put_few place_cmp held (record { prefix = prefix; via = via }) (record { path = path; hop = hop }))
one_event_few held (Withdraw via prefix) = omega (arith, cut_few (same_place (record { prefix = prefix; via = via })) held)
one_event_few held (Down peer) = omega (arith, cuts_take peer held)

-- the elementary events and the candidates after them are no more than the candidates before and two for each event
pub events_few : (held : Candidates) (events : List Event) → length (elems_after held events) + length (after_elems held (elems_after held events)) ≤ length held + 2 * length events
unfolding elems_after
events_few held [] = omega arith
events_few held (event ∷ events) =
    let here : List Elem = elems_of held event in
    let after : Candidates = after_elems held here in
    let later : List Elem = elems_after after events in
    let same : after_elems held (here ++ later) ≡ after_elems after later = fold-append after_elem held here later in
    omega (arith, one_event_few held event, events_few after events, length-append here later, ap length same)
