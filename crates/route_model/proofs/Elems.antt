-- Events as elementary events.
use Rattle.std.proofs.Common.{◌≡◌, List, [], ◌∷◌, ◌++◌, Bool, refl, sym, ap, ◌∙◌, append_assoc}
use Rattle.std.specs.Prelude.{map}
use Rattle.std.specs.List.{AllByRecursion, filter}
use Rattle.std.specs.Map.{keys_of}
use Rattle.std.proofs.lemmas.List.Sums.{fold-append}
use Rattle.route_model.specs.Events.{Event, Announce, Withdraw, Down, IsEvent, Elem, same_peer}
use Rattle.route_model.specs.Choice.{Place, PathAttrs, Candidates, AreCandidates, IsPlace, IsElem, after_elem, after_elems, cut_of, elems_of, elems_after}
use Rattle.route_model.proofs.Keyed.{all_filter}
use Rattle.route_model.proofs.Said.{candidates_after}

pub candidates_stay : (held : Candidates) (elems : List Elem) → AreCandidates held → AllByRecursion IsElem elems → AreCandidates (after_elems held elems)
candidates_stay held [] a h = a
candidates_stay held (e ∷ elems) a h = candidates_stay (after_elem held e) elems (candidates_after held e a h.0) h.1

pub all_more : {X : Type 0} (P : X → Type 0) (xs ys : List X) → AllByRecursion P xs → AllByRecursion P ys → AllByRecursion P (xs ++ ys)
all_more P [] ys a b = b
all_more P (x ∷ xs) ys a b = (a.0, all_more P xs ys a.1 b)

cuts : (cs : Candidates) → AllByRecursion IsPlace (keys_of cs) → AllByRecursion IsElem (map cut_of cs)
cuts [] a = tt
cuts (c ∷ cs) a = (a.0, cuts cs a.1)

pub elems_of_event : (held : Candidates) (event : Event) → AreCandidates held → IsEvent event → AllByRecursion IsElem (elems_of held event)
elems_of_event held (Announce via prefix path hop origin) a e = ((e.1, e.0), tt)
elems_of_event held (Withdraw via prefix) a e = ((e.1, e.0), tt)
elems_of_event held (Down peer) a e =
    let of_peer : Place × PathAttrs → Bool = λ c. same_peer peer c.0.via.peer in
    cuts (filter of_peer held) (all_filter of_peer IsPlace held a.0)

pub elems_of_events : (held : Candidates) (events : List Event) → AreCandidates held → AllByRecursion IsEvent events → AllByRecursion IsElem (elems_after held events)
unfolding elems_after
elems_of_events held [] a e = tt
elems_of_events held (event ∷ events) a e =
    let here = elems_of_event held event a e.0 in
    let after = after_elems held (elems_of held event) in
    all_more IsElem (elems_of held event) (elems_after after events) here (elems_of_events after events (candidates_stay held (elems_of held event) a here) e.1)

pub elems_more : (held : Candidates) (xs ys : List Event) → elems_after held (xs ++ ys) ≡ elems_after held xs ++ elems_after (after_elems held (elems_after held xs)) ys
unfolding elems_after
elems_more held [] ys = refl
elems_more held (x ∷ xs) ys =
    let here = elems_of held x in
    let after = after_elems held here in
    let same : after_elems after (elems_after after xs) ≡ after_elems held (here ++ elems_after after xs) = sym (fold-append after_elem held here (elems_after after xs)) in
    ap (λ es. here ++ es) (elems_more after xs ys)
    ∙ (sym (append_assoc here (elems_after after xs) (elems_after (after_elems after (elems_after after xs)) ys))
    ∙ ap (λ cs. (here ++ elems_after after xs) ++ elems_after cs ys) same)
