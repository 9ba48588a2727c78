-- What the elementary events of a world do, one after another.
use Rattle.std.proofs.Common.{◌≡◌, ℕ, zero, suc, ◌-◌, List, [], ◌∷◌, ◌++◌, Bool, true, false, cond, Option, Some, None, length, take, drop, refl, sym, ap, subst, ◌∙◌, append-nil}
use Rattle.std.specs.Prelude.{option_map, if◌then◌else◌}
use Rattle.std.specs.List.{AllByRecursion}
use Rattle.table_model.specs.Address.{Address, IsPrefix, Prefix, same_family}
use Rattle.table_model.specs.declared.family.Family.{Family}
use Rattle.table_model.specs.Entries.{Entries}
use Rattle.route_model.specs.Events.{Elem, elem_prefix}
use Rattle.route_model.specs.Choice.{Candidates, AreCandidates, IsElem, after_elem, after_elems, chosen_for}
use Rattle.route_model.proofs.Elems.{candidates_stay}
use Rattle.route_model.proofs.Said.{candidates_after, none_yet}
use Rattle.kept_model.specs.Feed.{AreNumbered, entries_of, full_at, hops_after, number_in}
use Rattle.kept_model.proofs.Numbers.{entries_stay, hops_more, routes_numbered}
use Rattle.kept_model.proofs.Tables.{at_prefix, entries_at_prefixes, entries_sorted, entry_after, entry_at, new_entry}
use Rattle.kept_model.specs.Kept.{AreNumberedAlong, changed_at, is_other}
use Rattle.kept_model.proofs.FeedSteps.{numbered_along}
use Rattle.kept_model.specs.Patched.{with_route}
use Rattle.orig_tree.specs.Views.{InPlace}
use Rattle.route_tries.specs.Sizes.{Sizes}
use Rattle.fib_engine.specs.Numbers.{number_or_none}
use Rattle.fib_engine.proofs.Holding.{stays_all, stays_out, turned as routed}
use Rattle.fib_engine.proofs.Taking.{not_other, some_new}
use Rattle.router_steps.proofs.Turns.{AreTurns, Turn, chosen_numbered_in, elem_turn, entries_in, turn_at, turned, turns_of}
use Rattle.router_steps.specs.World.{front_of, taken_of, changed_next, world_hops, steps_world}

-- ---- one elementary event

module _ (hops : List Address) (held : Candidates) (elem : Elem) (a : AreCandidates held) (x : IsElem elem) (has : AreNumbered hops (after_elem held elem)) where
  abbrev later : Candidates
  later = after_elem held elem

  abbrev p : Prefix
  p = elem_prefix elem

  abbrev E : Entries
  E = entries_of hops held

  abbrev E' : Entries
  E' = entries_of hops later

  abbrev route : Prefix → Prefix × ℕ
  route q = (q, number_or_none hops (chosen_for later q))

  placed : InPlace E
  placed = (entries_at_prefixes hops held a, entries_sorted hops held a)

  placed_later : InPlace E'
  placed_later = let b = candidates_after held elem a x in (entries_at_prefixes hops later b, entries_sorted hops later b)

  pub turn_changes : changed_at held elem ≡ option_map (λ t. t.0) (elem_turn hops held elem)
  turn_changes = by_test (is_other (chosen_for held p) (chosen_for later p))
    where
      by_test : (b : Bool) → (if b then Some p else None) ≡ option_map (λ t. t.0) (option_map route (if b then Some p else None))
      by_test true = refl
      by_test false = refl

  pub turn_routes : (f : Family) → entries_in f E' ≡ turned f (elem_turn hops held elem) (entries_in f E)
  turn_routes f = by_test (is_other (chosen_for held p) (chosen_for later p)) refl
    where
      in_family : (b : Bool) → same_family f p.family ≡ b → entries_in f E' ≡ cond b (with_route p (number_or_none hops (chosen_for later p)) (entries_in f E)) (entries_in f E)
      in_family true s = sym (routed p E E' (new_entry hops held elem) (at_prefix elem x) placed placed_later (λ q. entry_after hops held elem q a x) f (number_or_none hops (chosen_for later p)) s (some_new hops (chosen_for later p) (chosen_numbered_in hops later p has)))
      in_family false s = sym (stays_out p E E' (new_entry hops held elem) (at_prefix elem x) placed placed_later (λ q. entry_after hops held elem q a x) f s)

      by_test : (b : Bool) → is_other (chosen_for held p) (chosen_for later p) ≡ b → entries_in f E' ≡ turned f (option_map route (if b then Some p else None)) (entries_in f E)
      by_test true o = in_family (same_family f p.family) refl
      by_test false o =
          let same : chosen_for held p ≡ chosen_for later p = not_other (chosen_for held p) (chosen_for later p) o in
          sym (ap (entries_in f) (stays_all p E E' (new_entry hops held elem) (at_prefix elem x) placed placed_later (λ q. entry_after hops held elem q a x) (ap (option_map (number_in hops)) (sym same) ∙ sym (entry_at hops held p))))

-- ---- one after another

turn_count : (hops : List Address) (held : Candidates) (elems : List Elem) → length (turns_of hops held elems) ≡ length elems
unfolding turns_of
turn_count hops held [] = refl
turn_count hops held (elem ∷ elems) = ap suc (turn_count hops (after_elem held elem) elems)

turns_change : (hops : List Address) (held : Candidates) (elems : List Elem) → AreCandidates held → AllByRecursion IsElem elems → AreNumberedAlong hops held elems → (n : ℕ)
    → changed_next (after_elems held (take n elems)) (drop n elems) ≡ option_map (λ t. t.0) (turn_at n (turns_of hops held elems))
unfolding turns_of turn_at
turns_change hops held [] a x has zero = refl
turns_change hops held [] a x has (suc n) = refl
turns_change hops held (elem ∷ elems) a x has zero = turn_changes hops held elem a x.0 has.0
turns_change hops held (elem ∷ elems) a x has (suc n) = turns_change hops (after_elem held elem) elems (candidates_after held elem a x.0) x.1 has.1 n

turns_route : (hops : List Address) (held : Candidates) (elems : List Elem) → AreCandidates held → AllByRecursion IsElem elems → AreNumberedAlong hops held elems → (n : ℕ) (f : Family)
    → entries_in f (entries_of hops (after_elems held (take (suc n) elems))) ≡ turned f (turn_at n (turns_of hops held elems)) (entries_in f (entries_of hops (after_elems held (take n elems))))
unfolding turns_of turn_at
turns_route hops held [] a x has zero f = refl
turns_route hops held [] a x has (suc n) f = refl
turns_route hops held (elem ∷ elems) a x has zero f = turn_routes hops held elem a x.0 has.0 f
turns_route hops held (elem ∷ elems) a x has (suc n) f = turns_route hops (after_elem held elem) elems (candidates_after held elem a x.0) x.1 has.1 n f

-- ---- the world

all_take : (n : ℕ) (elems : List Elem) → AllByRecursion IsElem elems → AllByRecursion IsElem (take n elems)
all_take zero elems x = tt
all_take (suc n) [] x = tt
all_take (suc n) (elem ∷ elems) x = (x.0, all_take n elems x.1)

all_front : (o : Option ℕ) (elems : List Elem) → AllByRecursion IsElem elems → AllByRecursion IsElem (front_of o elems)
all_front None elems x = x
all_front (Some n) elems x = all_take (n - 1) elems x

abbrev pub turns_in : (load updates : List Elem) → List Turn
turns_in load updates = turns_of (world_hops load updates) (after_elems [] load) (taken_of load updates)

pub are_turns : (z : Sizes) (load updates : List Elem) → AllByRecursion IsElem load → AllByRecursion IsElem updates → AreTurns (steps_world z load updates) (turns_in load updates)
are_turns z load updates l u =
    let front = taken_of load updates in
    let held = after_elems [] load in
    let hops = world_hops load updates in
    let a : AreCandidates held = candidates_stay [] load none_yet l in
    let x : AllByRecursion IsElem front = all_front (full_at (hops_after [] load) updates) updates u in
    let has : AreNumberedAlong hops held front = subst (λ (es : List Elem). AreNumberedAlong (hops_after [] (load ++ es)) held front) (append-nil front) (numbered_along load front []) in
    record {
      many = turn_count hops held front;
      each = λ n. record { changed = turns_change hops held front a x has n; routes = turns_route hops held front a x has n };
    }

-- each is at a prefix
first_of : (x y : Prefix × ℕ) → Some x ≡ Some y → x.0 ≡ y.0
first_of x y e = cc

turn_proper : (hops : List Address) (held : Candidates) (elems : List Elem) → AllByRecursion IsElem elems → (n : ℕ) (p : Prefix) (h : ℕ) → turn_at n (turns_of hops held elems) ≡ Some (p, h) → IsPrefix p
unfolding turns_of turn_at
turn_proper hops held [] x n p h e = absurd cc
turn_proper hops held (elem ∷ elems) x zero q h e = by_test (is_other (chosen_for held (elem_prefix elem)) (chosen_for (after_elem held elem) (elem_prefix elem))) e
  where
    by_test : (b : Bool) → option_map {U = Prefix × ℕ} (λ r. (r, number_or_none hops (chosen_for (after_elem held elem) r))) (if b then Some (elem_prefix elem) else None) ≡ Some (q, h) → IsPrefix q
    by_test true i = subst IsPrefix (first_of _ _ i) (at_prefix elem x.0)
    by_test false i = absurd cc
turn_proper hops held (elem ∷ elems) x (suc n) p h e = turn_proper hops (after_elem held elem) elems x.1 n p h e

pub turns_proper : (load updates : List Elem) → AllByRecursion IsElem updates → (n : ℕ) (p : Prefix) (h : ℕ) → turn_at n (turns_in load updates) ≡ Some (p, h) → IsPrefix p
turns_proper load updates u = turn_proper (world_hops load updates) (after_elems [] load) (taken_of load updates) (all_front (full_at (hops_after [] load) updates) updates u)

pub starts : (load updates : List Elem) → entries_of (world_hops load updates) (after_elems [] load) ≡ entries_of (hops_after [] load) (after_elems [] load)
starts load updates =
    let front = taken_of load updates in
    let held = after_elems [] load in
    ap (λ hs. entries_of hs held) (hops_more [] load front) ∙ entries_stay (hops_after [] load) held front (routes_numbered load)

pub starts_placed : (hops : List Address) (load : List Elem) → AllByRecursion IsElem load → InPlace (entries_of hops (after_elems [] load))
starts_placed hops load x = let a = candidates_stay [] load none_yet x in (entries_at_prefixes hops (after_elems [] load) a, entries_sorted hops (after_elems [] load) a)
