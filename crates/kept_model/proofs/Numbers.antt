-- The numbers of next hops after elementary events.
use Rattle.std.proofs.Common.{◌≡◌, ℕ, suc, ◌+◌, ◌≤◌, List, [], ◌∷◌, ◌++◌, Bool, true, false, cond, Option, Some, None, length, refl, sym, ap, subst, ◌∙◌, arith, zero-add, length-append}
use Rattle.std.specs.Prelude.{nat_lt, option_map, unwrap_or, map, flat_map, fold, if◌then◌else◌}
use Rattle.std.specs.Option.{option_or}
use Rattle.std.specs.List.{AllByRecursion, IsDistinct, list_any, filter}
use Rattle.std.specs.Map.{lookup, remove_entry}
use Rattle.std.specs.BTreeMap.{insert_entry}
use Rattle.std.specs.Ordering.{match_ordering}
use Rattle.std.specs.declared.cmp.Ordering.{Ordering}
use Rattle.std.specs.declared.cmp.Ordering.TheVariants.{Less, Equal, Greater}
use Rattle.std.proofs.lemmas.Bool.{ltb-false}
use Rattle.std.proofs.lemmas.Grind.{flat_map-append}
use Rattle.std.proofs.lemmas.List.Sums.{fold-append}
use Rattle.table_model.specs.Address.{Address, Prefix, same_address, same_prefix}
use Rattle.table_model.specs.Changes.{Add, Replace}
use Rattle.route_model.specs.Events.{Elem, Put, Cut, elem_prefix}
use Rattle.route_model.specs.Choice.{Place, PathAttrs, Candidates, same_place, place_cmp, after_elem, after_elems, is_chosen, chosen_in, routes_of, chosen_for}
use Rattle.fib_addr.specs.Hops.{most_hops, number_of, hop_at, with_hop}
use Rattle.fib_addr.proofs.HopLists.{brought_number, folded_distinct, folded_stays, none_distinct, number_holds, number_range}
use Rattle.kept_model.specs.Feed.{brought, hops_after, full_at, number_in, entries_of, change_of, change_by, route_by, routes_in, IsNumbered, AreNumbered}
use Rattle.kept_model.proofs.Tables.{numbered}

-- ---- hops one after another

pub hops_more : (hops : List Address) (xs ys : List Elem) → hops_after hops (xs ++ ys) ≡ hops_after (hops_after hops xs) ys
hops_more hops xs ys = ap (fold with_hop hops) (flat_map-append brought xs ys) ∙ fold-append with_hop hops (flat_map brought xs) (flat_map brought ys)

hops_next : (hops : List Address) (elem : Elem) (elems : List Elem) → hops_after hops (elem ∷ elems) ≡ hops_after (hops_after hops (elem ∷ [])) elems
hops_next hops elem elems = hops_more hops (elem ∷ []) elems

pub one_more_at_most : (hops : List Address) (elem : Elem) → (length hops ≤ length (hops_after hops (elem ∷ []))) × (length (hops_after hops (elem ∷ [])) ≤ length hops + 1)
one_more_at_most hops (Cut via prefix) = (omega arith, omega arith)
one_more_at_most hops (Put via prefix path hop) = by_test (list_any (same_address hop) hops)
  where
    by_test : (b : Bool) → (length hops ≤ length (cond b hops (hops ++ hop ∷ []))) × (length (cond b hops (hops ++ hop ∷ [])) ≤ length hops + 1)
    by_test true = (omega arith, omega arith)
    by_test false = (omega (arith, length-append hops (hop ∷ [])), omega (arith, length-append hops (hop ∷ [])))

-- ---- numbers stay

pub stays : (hops : List Address) (elems : List Elem) (a : Address) (n : ℕ) → number_of hops a ≡ Some n → number_of (hops_after hops elems) a ≡ Some n
stays hops elems a n e = folded_stays hops (flat_map brought elems) a n e

-- ---- one hop too many

not_over : (n : ℕ) → nat_lt most_hops n ≡ false → n ≤ 65534
not_over n e = ltb-false most_hops n e

pub room : (hops : List Address) (elems : List Elem) → full_at hops elems ≡ None → length hops ≤ 65534 → length (hops_after hops elems) ≤ 65534
unfolding full_at
room hops [] f l = l
room hops (elem ∷ elems) f l = by_test (nat_lt most_hops (length next)) refl f (room next elems)
  where
    next : List Address
    next = hops_after hops (elem ∷ [])

    none : (o : Option ℕ) → option_map suc o ≡ None → o ≡ None
    none None e = refl
    none (Some n) e = absurd cc

    by_test : (b : Bool) → nat_lt most_hops (length next) ≡ b → (if b then Some 1 else option_map suc (full_at next elems)) ≡ None
        → (full_at next elems ≡ None → length next ≤ 65534 → length (hops_after next elems) ≤ 65534) → length (hops_after hops (elem ∷ elems)) ≤ 65534
    by_test true t g ih = absurd cc
    by_test false t g ih = subst (λ xs. length xs ≤ 65534) (sym (hops_next hops elem elems)) (ih (none (full_at next elems) g) (not_over (length next) t))

-- behind so many elementary events
abbrev behind : List Elem → Option ℕ → Option ℕ
behind xs o = option_map (λ n. length xs + n) o

full_more : (hops : List Address) (xs ys : List Elem) → full_at hops (xs ++ ys) ≡ option_or (full_at hops xs) (behind xs (full_at (hops_after hops xs) ys))
unfolding full_at
full_more hops [] ys = by_found (full_at hops ys)
  where
    by_found : (o : Option ℕ) → o ≡ option_map (λ n. 0 + n) o
    by_found None = refl
    by_found (Some n) = ap Some (sym (zero-add n))
full_more hops (x ∷ xs) ys = by_test (nat_lt most_hops (length next)) (full_more next xs ys)
  where
    next : List Address
    next = hops_after hops (x ∷ [])

    counted : (o p : Option ℕ) → option_map suc (option_or o (behind xs p)) ≡ option_or (option_map suc o) (behind (x ∷ xs) p)
    counted (Some n) p = refl
    counted None None = refl
    counted None (Some n) = ap Some (omega arith)

    by_test : (b : Bool) → full_at next (xs ++ ys) ≡ option_or (full_at next xs) (behind xs (full_at (hops_after next xs) ys))
        → (if b then Some 1 else option_map suc (full_at next (xs ++ ys))) ≡ option_or (if b then Some 1 else option_map suc (full_at next xs)) (behind (x ∷ xs) (full_at (hops_after hops (x ∷ xs)) ys))
    by_test true ih = refl
    by_test false ih =
        ap (option_map suc) ih ∙ (counted (full_at next xs) (full_at (hops_after next xs) ys)
        ∙ ap (λ hs. option_or (option_map suc (full_at next xs)) (behind (x ∷ xs) (full_at hs ys))) (sym (hops_next hops x xs)))

pub full_in_front : (hops : List Address) (xs ys : List Elem) (n : ℕ) → full_at hops xs ≡ Some n → full_at hops (xs ++ ys) ≡ Some n
full_in_front hops xs ys n e = full_more hops xs ys ∙ ap (λ o. option_or o (behind xs (full_at (hops_after hops xs) ys))) e

pub full_behind : (hops : List Address) (xs ys : List Elem) → full_at hops xs ≡ None → full_at hops (xs ++ ys) ≡ option_map (λ n. length xs + n) (full_at (hops_after hops xs) ys)
full_behind hops xs ys e = full_more hops xs ys ∙ ap (λ o. option_or o (behind xs (full_at (hops_after hops xs) ys))) e

-- ---- the hops of candidates have numbers

numbered_by : (hops : List Address) (a : Address) (n : ℕ) → number_of hops a ≡ Some n → IsNumbered hops a
numbered_by hops a n e = let r = number_range hops a n e in (n, e, r.0, r.1)

still_numbered : (hops : List Address) (elems : List Elem) (a : Address) → IsNumbered hops a → IsNumbered (hops_after hops elems) a
still_numbered hops elems a x = numbered_by (hops_after hops elems) a x.0 (stays hops elems a x.0 x.1)

brought_is : (hops : List Address) (a : Address) → IsNumbered (with_hop hops a) a
brought_is hops a = let x = brought_number hops a in numbered_by (with_hop hops a) a x.0 x.1

-- what all values of entries meet
abbrev AllValues : {K X : Type 0} → (X → Type 0) → List (K × X) → Type 0
AllValues P es = AllByRecursion (λ e. P e.1) es

values_put : {K X : Type 0} (R : K → K → Ordering) (P : X → Type 0) (es : List (K × X)) (k : K) (v : X) → AllValues P es → P v → AllValues P (insert_entry R es k v)
values_put R P [] k v a x = (x, tt)
values_put {K = K} {X = X} R P (e ∷ es) k v a x = by_order (R k e.0) (values_put R P es k v a.1 x)
  where
    by_order : (o : Ordering) → AllValues P (insert_entry R es k v) → AllValues {K = K} P (match_ordering o ((k, v) ∷ e ∷ es) ((e.0, v) ∷ es) (e ∷ insert_entry R es k v))
    by_order Less more = (x, a)
    by_order Equal more = (x, a.1)
    by_order Greater more = (a.0, more)

values_cut : {K X : Type 0} (test : K → Bool) (P : X → Type 0) (es : List (K × X)) → AllValues P es → AllValues P (remove_entry test es)
values_cut test P [] a = tt
values_cut {K = K} test P (e ∷ es) a = by_test (test e.0) (values_cut test P es a.1)
  where
    by_test : (b : Bool) → AllValues P (remove_entry test es) → AllValues {K = K} P (cond b es (e ∷ remove_entry test es))
    by_test true more = a.1
    by_test false more = (a.0, more)

values_filter : {K X : Type 0} (test : K × X → Bool) (P : X → Type 0) (es : List (K × X)) → AllValues P es → AllValues P (filter test es)
values_filter test P [] a = tt
values_filter {K = K} test P (e ∷ es) a = by_test (test e) (values_filter test P es a.1)
  where
    by_test : (b : Bool) → AllValues P (filter test es) → AllValues {K = K} P (cond b (e ∷ filter test es) (filter test es))
    by_test true more = (a.0, more)
    by_test false more = more

abbrev AllNumbered : List Address → Candidates → Type 0
AllNumbered hops held = AllValues (λ (attrs : PathAttrs). IsNumbered hops attrs.hop) held

more_numbered : (hops : List Address) (elems : List Elem) (held : Candidates) → AllNumbered hops held → AllNumbered (hops_after hops elems) held
more_numbered hops elems [] a = tt
more_numbered hops elems (c ∷ held) a = (still_numbered hops elems c.1.hop a.0, more_numbered hops elems held a.1)

numbered_after : (hops : List Address) (held : Candidates) (elems : List Elem) → AllNumbered hops held → AllNumbered (hops_after hops elems) (after_elems held elems)
numbered_after hops held [] a = a
numbered_after hops held (Put via prefix path hop ∷ elems) a =
    let at : Place = record { prefix = prefix; via = via } in
    let attrs : PathAttrs = record { path = path; hop = hop } in
    let elem = Put via prefix path hop in
    let old = more_numbered hops (elem ∷ []) held a in
    numbered_after (with_hop hops hop) (after_elem held elem) elems (values_put place_cmp (λ (x : PathAttrs). IsNumbered (with_hop hops hop) x.hop) held at attrs old (brought_is hops hop))
numbered_after hops held (Cut via prefix ∷ elems) a =
    let at : Place = record { prefix = prefix; via = via } in
    numbered_after hops (after_elem held (Cut via prefix)) elems (values_cut (same_place at) (λ (x : PathAttrs). IsNumbered hops x.hop) held a)

numbered_routes : (hops : List Address) (cs : Candidates) → AllNumbered hops cs → AllByRecursion (λ (r : Prefix × Address). IsNumbered hops r.1) (map (λ c. (c.0.prefix, c.1.hop)) cs)
numbered_routes hops [] a = tt
numbered_routes hops (c ∷ cs) a = (a.0, numbered_routes hops cs a.1)

pub routes_numbered : (elems : List Elem) → AreNumbered (hops_after [] elems) (after_elems [] elems)
routes_numbered elems =
    let held = after_elems [] elems in
    let hops = hops_after [] elems in
    numbered_routes hops (chosen_in held) (values_filter (is_chosen held) (λ (x : PathAttrs). IsNumbered hops x.hop) held (numbered_after [] [] elems tt))

found_value : (P : Address → Type 0) (p : Prefix) (routes : List (Prefix × Address)) (hop : Address) → AllByRecursion (λ (r : Prefix × Address). P r.1) routes → lookup (same_prefix p) routes ≡ Some hop → P hop
found_value P p [] hop a e = absurd cc
found_value P p (r ∷ routes) hop a e = by_test (same_prefix p r.0) e (found_value P p routes hop a.1)
  where
    by_test : (b : Bool) → cond b (Some r.1) (lookup (same_prefix p) routes) ≡ Some hop → (lookup (same_prefix p) routes ≡ Some hop → P hop) → P hop
    by_test true x ih = let same : r.1 ≡ hop = cc in subst P same a.0
    by_test false x ih = ih x

pub chosen_numbered : (elems : List Elem) (p : Prefix) (hop : Address) → chosen_for (after_elems [] elems) p ≡ Some hop → IsNumbered (hops_after [] elems) hop
chosen_numbered elems p hop e = found_value (IsNumbered (hops_after [] elems)) p (routes_of (after_elems [] elems)) hop (routes_numbered elems) e

-- ---- so entries and changes stay as more hops are numbered

number_in_stays : (hops : List Address) (elems : List Elem) (a : Address) → IsNumbered hops a → number_in (hops_after hops elems) a ≡ number_in hops a
number_in_stays hops elems a x = ap (λ o. unwrap_or o 0) (stays hops elems a x.0 x.1 ∙ sym x.1)

entries_same : (hops : List Address) (elems : List Elem) (routes : List (Prefix × Address)) → AllByRecursion (λ (r : Prefix × Address). IsNumbered hops r.1) routes → numbered (hops_after hops elems) routes ≡ numbered hops routes
entries_same hops elems [] a = refl
entries_same hops elems (r ∷ routes) a =
    ap (λ n. (r.0, n) ∷ numbered (hops_after hops elems) routes) (number_in_stays hops elems r.1 a.0) ∙ ap (λ es. (r.0, number_in hops r.1) ∷ es) (entries_same hops elems routes a.1)

pub entries_stay : (hops : List Address) (held : Candidates) (elems : List Elem) → AreNumbered hops held → entries_of (hops_after hops elems) held ≡ entries_of hops held
entries_stay hops held elems a = entries_same hops elems (routes_of held) a

pub change_stays : (hops : List Address) (held : Candidates) (elem : Elem) (elems : List Elem) → AreNumbered hops (after_elem held elem) → change_by (hops_after hops elems) held elem ≡ change_by hops held elem
change_stays hops held elem elems a = by_choice (chosen_for held p) (chosen_for (after_elem held elem) p) refl
  where
    p : Prefix
    p = elem_prefix elem

    same : (hop : Address) → chosen_for (after_elem held elem) p ≡ Some hop → number_in (hops_after hops elems) hop ≡ number_in hops hop
    same hop e = number_in_stays hops elems hop (found_value (IsNumbered hops) p (routes_of (after_elem held elem)) hop a e)

    by_choice : (old new : Option Address) → chosen_for (after_elem held elem) p ≡ new → change_of (hops_after hops elems) p old new ≡ change_of hops p old new
    by_choice None None e = refl
    by_choice None (Some hop) e = ap (λ n. Add p n ∷ []) (same hop e)
    by_choice (Some was) None e = refl
    by_choice (Some was) (Some hop) e = ap (λ n. if same_address was hop then [] else Replace p n ∷ []) (same hop e)

-- ---- the entries read back

pub hops_distinct : (elems : List Elem) → IsDistinct same_address (hops_after [] elems)
hops_distinct elems = folded_distinct [] (flat_map brought elems) none_distinct

each_has : (hops : List Address) (routes : List (Prefix × Address)) → AllByRecursion (λ (r : Prefix × Address). IsNumbered hops r.1) routes → AllByRecursion (λ (e : Prefix × ℕ). (1 ≤ e.1) × (e.1 ≤ length hops)) (numbered hops routes)
each_has hops [] a = tt
each_has hops (r ∷ routes) a = (by_number a.0, each_has hops routes a.1)
  where
    by_number : IsNumbered hops r.1 → (1 ≤ number_in hops r.1) × (number_in hops r.1 ≤ length hops)
    by_number (n, e, l, m) = rw (ap (λ (o : Option ℕ). unwrap_or o 0) e) (l, m)

pub entries_have : (elems : List Elem) → AllByRecursion (λ (e : Prefix × ℕ). (1 ≤ e.1) × (e.1 ≤ length (hops_after [] elems))) (entries_of (hops_after [] elems) (after_elems [] elems))
entries_have elems = each_has (hops_after [] elems) (routes_of (after_elems [] elems)) (routes_numbered elems)

each_back : (hops : List Address) (routes : List (Prefix × Address)) → AllByRecursion (λ (r : Prefix × Address). IsNumbered hops r.1) routes → routes_in hops (numbered hops routes) ≡ routes
each_back hops [] a = refl
each_back hops (r ∷ routes) a =
    let back : hop_at hops (number_in hops r.1) ≡ Some r.1 = ap (λ o. hop_at hops (unwrap_or o 0)) a.0.1 ∙ number_holds hops r.1 a.0.0 a.0.1 in
    ap (λ o. route_by r.0 o ++ routes_in hops (numbered hops routes)) back ∙ ap (λ rs. (r.0, r.1) ∷ rs) (each_back hops routes a.1)

pub entries_back : (elems : List Elem) → routes_in (hops_after [] elems) (entries_of (hops_after [] elems) (after_elems [] elems)) ≡ routes_of (after_elems [] elems)
entries_back elems = each_back (hops_after [] elems) (routes_of (after_elems [] elems)) (routes_numbered elems)
