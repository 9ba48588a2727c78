-- The table of the routes after elementary events, by its changes.
use Rattle.std.proofs.Common.{◌≡◌, ℕ, ◌+◌, List, [], ◌∷◌, ◌++◌, Bool, true, false, cond, Option, Some, None, refl, sym, ap, subst, ◌∙◌}
use Rattle.std.specs.Prelude.{map, option_map, is_some, if◌then◌else◌}
use Rattle.std.proofs.lemmas.List.{map-append}
use Rattle.std.specs.Option.{option_and_then}
use Rattle.std.specs.List.{AllByRecursion}
use Rattle.std.specs.List.Sorted.{IsStrictlySortedBy}
use Rattle.std.specs.Map.{lookup, keys_of, remove_entry}
use Rattle.std.proofs.lemmas.Map.Made.{lookup-map_values}
use Rattle.table_model.specs.Address.{Address, Prefix, IsPrefix, same_address, same_prefix}
use Rattle.table_model.specs.Order.{prefix_cmp}
use Rattle.table_model.proofs.SamePrefix.{same_address_is, same_prefix_is, same_prefix_itself}
use Rattle.table_model.specs.Entries.{Entries, with_entry}
use Rattle.table_model.specs.Changes.{Change, Replace, additions, is_held, after_change, after_changes, sum_of}
use Rattle.table_model.proofs.Sums.{sum_of-additions}
use Rattle.route_model.specs.Events.{Elem, Put, Cut, elem_prefix}
use Rattle.route_model.specs.Choice.{Candidates, AreCandidates, IsElem, after_elem, after_elems, chosen_for, routes_of}
use Rattle.route_model.proofs.Keyed.{same_entries, all_put, sorted_put, lookup-put, all_cut, sorted_cut, lookup-cut}
use Rattle.route_model.proofs.Places.{prefix_key}
use Rattle.route_model.proofs.Choices.{routes_sorted}
use Rattle.route_model.proofs.Said.{candidates_after}
use Rattle.route_model.proofs.Elsewhere.{chosen_elsewhere, routes_at_prefixes}
use Rattle.kept_model.specs.Feed.{number_in, entries_of, change_of, change_by, at_event, changes_from, load_changes, changes_in}

-- ---- the entries of routes

abbrev pub numbered : List Address → List (Prefix × Address) → Entries
numbered hops routes = map (λ r. (r.0, number_in hops r.1)) routes

keys_numbered : (hops : List Address) (routes : List (Prefix × Address)) → keys_of (numbered hops routes) ≡ keys_of routes
keys_numbered hops [] = refl
keys_numbered hops (r ∷ routes) = ap (λ ps. r.0 ∷ ps) (keys_numbered hops routes)

pub entry_at : (hops : List Address) (held : Candidates) (p : Prefix) → lookup (same_prefix p) (entries_of hops held) ≡ option_map (number_in hops) (chosen_for held p)
entry_at hops held p = lookup-map_values (number_in hops) (same_prefix p) (routes_of held)

pub entries_sorted : (hops : List Address) (held : Candidates) → AreCandidates held → IsStrictlySortedBy prefix_cmp (keys_of (entries_of hops held))
entries_sorted hops held a = subst (IsStrictlySortedBy prefix_cmp) (sym (keys_numbered hops (routes_of held))) (routes_sorted held a)

pub entries_at_prefixes : (hops : List Address) (held : Candidates) → AreCandidates held → AllByRecursion IsPrefix (keys_of (entries_of hops held))
entries_at_prefixes hops held a = subst (AllByRecursion IsPrefix) (sym (keys_numbered hops (routes_of held))) (routes_at_prefixes held a)

-- ---- one elementary event

pub at_prefix : (elem : Elem) → IsElem elem → IsPrefix (elem_prefix elem)
at_prefix (Put via prefix path hop) e = e.0
at_prefix (Cut via prefix) e = e.0

abbrev pub new_entry : List Address → Candidates → Elem → Option ℕ
new_entry hops held elem = option_map (number_in hops) (chosen_for (after_elem held elem) (elem_prefix elem))

-- what a look-up finds after the event: at its prefix the new route, elsewhere the old one
pub entry_after : (hops : List Address) (held : Candidates) (elem : Elem) (q : Prefix) → AreCandidates held → IsElem elem
    → lookup (same_prefix q) (entries_of hops (after_elem held elem)) ≡ cond (same_prefix q (elem_prefix elem)) (new_entry hops held elem) (lookup (same_prefix q) (entries_of hops held))
entry_after hops held elem q a e = by_test (same_prefix q (elem_prefix elem)) refl
  where
    elsewhere : same_prefix q (elem_prefix elem) ≡ false → (b : Bool) → same_prefix (elem_prefix elem) q ≡ b → b ≡ false
    elsewhere n true t =
        let i : elem_prefix elem ≡ q = same_prefix_is (elem_prefix elem) q t in
        sym (same_prefix_itself (elem_prefix elem)) ∙ (ap (λ x. same_prefix x (elem_prefix elem)) i ∙ n)
    elsewhere n false t = refl

    by_test : (b : Bool) → same_prefix q (elem_prefix elem) ≡ b → lookup (same_prefix q) (entries_of hops (after_elem held elem)) ≡ cond b (new_entry hops held elem) (lookup (same_prefix q) (entries_of hops held))
    by_test true t =
        ap (λ x. lookup (same_prefix x) (entries_of hops (after_elem held elem))) (same_prefix_is q (elem_prefix elem) t)
        ∙ entry_at hops (after_elem held elem) (elem_prefix elem)
    by_test false t =
        entry_at hops (after_elem held elem) q
        ∙ (ap (option_map (number_in hops)) (chosen_elsewhere held elem q a e (elsewhere t (same_prefix (elem_prefix elem) q) refl)) ∙ sym (entry_at hops held q))

-- a table with these look-ups is the table after the event
is_after : (hops : List Address) (held : Candidates) (elem : Elem) (L : Entries) → AreCandidates held → IsElem elem → IsStrictlySortedBy prefix_cmp (keys_of L) → AllByRecursion IsPrefix (keys_of L)
    → ((q : Prefix) → lookup (same_prefix q) L ≡ cond (same_prefix q (elem_prefix elem)) (new_entry hops held elem) (lookup (same_prefix q) (entries_of hops held))) → L ≡ entries_of hops (after_elem held elem)
is_after hops held elem L a e s x h =
    let b = candidates_after held elem a e in
    same_entries prefix_key L (entries_of hops (after_elem held elem)) s (entries_sorted hops _ b) x (entries_at_prefixes hops _ b) (λ q. h q ∙ sym (entry_after hops held elem q a e))

step : (hops : List Address) (held : Candidates) (elem : Elem) → AreCandidates held → IsElem elem → after_changes (change_by hops held elem) (entries_of hops held) ≡ Some (entries_of hops (after_elem held elem))
step hops held elem a e = by_choice (chosen_for held p) refl (chosen_for after p) refl
  where
    p : Prefix
    p = elem_prefix elem

    after : Candidates
    after = after_elem held elem

    L : Entries
    L = entries_of hops held

    held_at : (old : Option Address) → chosen_for held p ≡ old → is_held p L ≡ is_some (option_map (number_in hops) old)
    held_at old o = ap is_some (entry_at hops held p ∙ ap (option_map (number_in hops)) o)

    -- where the prefix has the new entry already, nothing changes
    unchanged : chosen_for held p ≡ chosen_for after p → L ≡ entries_of hops after
    unchanged i = is_after hops held elem L a e (entries_sorted hops held a) (entries_at_prefixes hops held a) (λ q. by_test q (same_prefix q p) refl)
      where
        by_test : (q : Prefix) → (b : Bool) → same_prefix q p ≡ b → lookup (same_prefix q) L ≡ cond b (new_entry hops held elem) (lookup (same_prefix q) L)
        by_test q true t = ap (λ x. lookup (same_prefix x) L) (same_prefix_is q p t) ∙ (entry_at hops held p ∙ ap (option_map (number_in hops)) i)
        by_test q false t = refl

    put : (hop : Address) → chosen_for after p ≡ Some hop → with_entry L (p, number_in hops hop) ≡ entries_of hops after
    put hop n =
        let x = entries_at_prefixes hops held a in
        let y = at_prefix elem e in
        is_after hops held elem (with_entry L (p, number_in hops hop)) a e (sorted_put prefix_key L p (number_in hops hop) (entries_sorted hops held a)) (all_put prefix_cmp IsPrefix L p (number_in hops hop) x y)
        (λ q. lookup-put prefix_key q L p (number_in hops hop) x y ∙ ap (λ o. cond (same_prefix q p) o (lookup (same_prefix q) L)) (ap (option_map (number_in hops)) (sym n)))

    removed : chosen_for after p ≡ None → remove_entry (same_prefix p) L ≡ entries_of hops after
    removed n =
        is_after hops held elem (remove_entry (same_prefix p) L) a e (sorted_cut prefix_cmp (same_prefix p) L (entries_sorted hops held a)) (all_cut (same_prefix p) IsPrefix L (entries_at_prefixes hops held a))
        (λ q. lookup-cut prefix_key q p L (entries_sorted hops held a) ∙ ap (λ o. cond (same_prefix q p) o (lookup (same_prefix q) L)) (ap (option_map (number_in hops)) (sym n)))

    replaced : (was hop : Address) → chosen_for held p ≡ Some was → chosen_for after p ≡ Some hop → (b : Bool) → same_address was hop ≡ b
        → after_changes (if b then [] else Replace p (number_in hops hop) ∷ []) L ≡ Some (entries_of hops after)
    replaced was hop o n true t = ap Some (unchanged (o ∙ (ap Some (same_address_is was hop t) ∙ sym n)))
    replaced was hop o n false t =
        ap (λ b. option_and_then (λ x. Some x) (cond b (Some (with_entry L (p, number_in hops hop))) None)) (held_at (Some was) o) ∙ ap Some (put hop n)

    by_choice : (old : Option Address) → chosen_for held p ≡ old → (new : Option Address) → chosen_for after p ≡ new → after_changes (change_of hops p old new) L ≡ Some (entries_of hops after)
    by_choice None o None n = ap Some (unchanged (o ∙ sym n))
    by_choice None o (Some hop) n = ap (λ b. option_and_then (λ x. Some x) (cond b None (Some (with_entry L (p, number_in hops hop))))) (held_at None o) ∙ ap Some (put hop n)
    by_choice (Some was) o None n = ap (λ b. option_and_then (λ x. Some x) (cond b (Some (remove_entry (same_prefix p) L)) None)) (held_at (Some was) o) ∙ ap Some (removed n)
    by_choice (Some was) o (Some hop) n = replaced was hop o n (same_address was hop) refl

-- ---- elementary events one after another

in_at_event : (n : ℕ) (changes : List Change) → changes_in (at_event n changes) ≡ changes
in_at_event n [] = refl
in_at_event n (c ∷ changes) = ap (λ cs. c ∷ cs) (in_at_event n changes)

after_more : (cs ds : List Change) (L : Entries) → after_changes (cs ++ ds) L ≡ option_and_then (after_changes ds) (after_changes cs L)
after_more [] ds L = refl
after_more (c ∷ cs) ds L = by_first (after_change c L) (after_more cs ds)
  where
    by_first : (o : Option Entries) → ((M : Entries) → after_changes (cs ++ ds) M ≡ option_and_then (after_changes ds) (after_changes cs M)) → option_and_then (after_changes (cs ++ ds)) o ≡ option_and_then (after_changes ds) (option_and_then (after_changes cs) o)
    by_first None ih = refl
    by_first (Some M) ih = ih M

pub later : (hops : List Address) (n : ℕ) (held : Candidates) (elems : List Elem) → AreCandidates held → AllByRecursion IsElem elems → after_changes (changes_in (changes_from hops n held elems)) (entries_of hops held) ≡ Some (entries_of hops (after_elems held elems))
unfolding changes_from
later hops n held [] a h = refl
later hops n held (elem ∷ elems) a h =
    let rest = changes_from hops (n + 1) (after_elem held elem) elems in
    let split : changes_in (at_event n (change_by hops held elem) ++ rest) ≡ change_by hops held elem ++ changes_in rest = map-append _ (at_event n (change_by hops held elem)) rest ∙ ap (λ cs. cs ++ changes_in rest) (in_at_event n (change_by hops held elem)) in
    ap (λ cs. after_changes cs (entries_of hops held)) split
    ∙ (after_more (change_by hops held elem) (changes_in rest) (entries_of hops held)
    ∙ (ap (option_and_then (after_changes (changes_in rest))) (step hops held elem a h.0)
    ∙ later hops (n + 1) (after_elem held elem) elems (candidates_after held elem a h.0) h.1))

pub load : (hops : List Address) (held : Candidates) → AreCandidates held → sum_of (changes_in (load_changes hops held)) ≡ Some (entries_of hops held)
load hops held a = ap sum_of (in_at_event 0 (additions (entries_of hops held))) ∙ sum_of-additions (entries_of hops held) (entries_sorted hops held a)

pub all : (hops : List Address) (held : Candidates) (elems : List Elem) → AreCandidates held → AllByRecursion IsElem elems → sum_of (changes_in (load_changes hops held ++ changes_from hops 1 held elems)) ≡ Some (entries_of hops (after_elems held elems))
all hops held elems a h =
    let rest = changes_from hops 1 held elems in
    ap sum_of (map-append _ (load_changes hops held) rest)
    ∙ (after_more (changes_in (load_changes hops held)) (changes_in rest) []
    ∙ (ap (option_and_then (after_changes (changes_in rest))) (load hops held a) ∙ later hops 1 held elems a h))
