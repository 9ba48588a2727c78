-- Candidates that are announcement in their order are held so.
use Rattle.std.proofs.Common.{◌≡◌, List, [], ◌∷◌, ◌++◌, map, refl, sym, ap, ◌∙◌, subst, append_assoc, append-nil}
use Rattle.std.specs.List.{AllByRecursion}
use Rattle.std.specs.List.Sorted.{IsStrictlySortedBy}
use Rattle.std.specs.Map.{keys_of}
use Rattle.std.specs.BTreeMap.{insert_entry}
use Rattle.std.specs.Ordering.{match_ordering, ordering_reverse}
use Rattle.std.specs.declared.cmp.Ordering.TheVariants.{Less, Greater}
use Rattle.std.proofs.lemmas.List.Sums.{fold-append}
use Rattle.route_model.proofs.Elems.{elems_more}
use Rattle.route_model.proofs.Places.{place_key}
use Rattle.route_model.specs.Events.{Event, Elem, Put}
use Rattle.route_model.specs.Choice.{Place, PathAttrs, Candidates, AreCandidates, place_cmp, after_elem, after_elems, elems_after}
use Rattle.mrt_write.specs.Checkpoint.{announced}

abbrev put_of : Place × PathAttrs → Elem
put_of c = Put c.0.via c.0.prefix c.1.path c.1.hop

-- announcements are puts, whatever is held
puts_are : (held : Candidates) (cs : Candidates) → elems_after held (map announced cs) ≡ map put_of cs
unfolding elems_after
puts_are held [] = refl
puts_are held (c ∷ cs) = ap (λ elems. put_of c ∷ elems) (puts_are (after_elem held (put_of c)) cs)

last_in : (p : Place) (es : Candidates) (c : Place × PathAttrs) (rest : Candidates) → AllByRecursion (λ k. place_cmp p k ≡ Less) (keys_of (es ++ c ∷ rest)) → place_cmp p c.0 ≡ Less
last_in p [] c rest a = a.0
last_in p (e ∷ es) c rest a = last_in p es c rest a.1

all_before : (front : Candidates) (c : Place × PathAttrs) (rest : Candidates) → IsStrictlySortedBy place_cmp (keys_of (front ++ c ∷ rest)) → AllByRecursion (λ k. place_cmp k c.0 ≡ Less) (keys_of front)
unfolding IsStrictlySortedBy
all_before [] c rest s = tt
all_before (e ∷ es) c rest s = (last_in e.0 es c rest s.0, all_before es c rest s.1)

-- one behind all others is put at the end
at_end : (held : Candidates) (c : Place × PathAttrs) → AllByRecursion (λ k. place_cmp k c.0 ≡ Less) (keys_of held) → insert_entry place_cmp held c.0 c.1 ≡ held ++ c ∷ []
at_end [] c a = refl
at_end (e ∷ es) c a =
    let back : place_cmp c.0 e.0 ≡ Greater = place_key.total.antisymm c.0 e.0 ∙ ap ordering_reverse a.0 in
    ap (λ o. match_ordering o ((c.0, c.1) ∷ e ∷ es) ((e.0, c.1) ∷ es) (e ∷ insert_entry place_cmp es c.0 c.1)) back ∙ ap (λ rest. e ∷ rest) (at_end es c a.1)

held_on : (front cs : Candidates) → IsStrictlySortedBy place_cmp (keys_of (front ++ cs)) → after_elems front (map put_of cs) ≡ front ++ cs
held_on front [] s = sym (append-nil front)
held_on front (c ∷ cs) s =
    let put : after_elem front (put_of c) ≡ front ++ c ∷ [] = at_end front c (all_before front c cs s) in
    let more : (front ++ c ∷ []) ++ cs ≡ front ++ c ∷ cs = append_assoc front (c ∷ []) cs in
    ap (λ held. after_elems held (map put_of cs)) put ∙ (held_on (front ++ c ∷ []) cs (subst (λ xs. IsStrictlySortedBy place_cmp (keys_of xs)) (sym more) s) ∙ more)

pub held_again : (held : Candidates) → AreCandidates held → after_elems [] (elems_after [] (map announced held)) ≡ held
held_again held h = ap (after_elems []) (puts_are [] held) ∙ held_on [] held h.1

-- ---- what is said later

-- what is said first, and then what is said later
parted : (held : Candidates) (xs ys : List Event)
    → after_elems held (elems_after held (xs ++ ys)) ≡ after_elems (after_elems held (elems_after held xs)) (elems_after (after_elems held (elems_after held xs)) ys)
parted held xs ys =
    ap (after_elems held) (elems_more held xs ys) ∙ fold-append after_elem held (elems_after held xs) (elems_after (after_elems held (elems_after held xs)) ys)

pub said_again : (said later : List Event) → AreCandidates (after_elems [] (elems_after [] said))
    → after_elems [] (elems_after [] (map announced (after_elems [] (elems_after [] said)) ++ later)) ≡ after_elems [] (elems_after [] (said ++ later))
said_again said later h =
    parted [] (map announced (after_elems [] (elems_after [] said))) later
    ∙ (ap (λ (held : Candidates). after_elems held (elems_after held later)) (held_again (after_elems [] (elems_after [] said)) h) ∙ sym (parted [] said later))
