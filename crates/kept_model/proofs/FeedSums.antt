-- The changes add up to the kept table.
use Rattle.std.proofs.Common.{◌≡◌, ℕ, ◌+◌, List, [], ◌∷◌, ◌++◌, Bool, true, false, Option, Some, None, refl, ap, subst, ◌∙◌, ◌≤◌, arith}
use Rattle.std.specs.Prelude.{if◌then◌else◌}
use Rattle.std.proofs.lemmas.List.{map-append}
use Rattle.std.specs.Option.{option_and_then}
use Rattle.std.specs.List.{AllByRecursion}
use Rattle.std.specs.List.Sorted.{IsStrictlySortedBy}
use Rattle.std.specs.Map.{keys_of}
use Rattle.table_model.specs.Width.{width}
use Rattle.table_model.specs.Address.{Address, Prefix, IsPrefix}
use Rattle.table_model.specs.declared.family.Family.{Family}
use Rattle.table_model.specs.declared.family.Family.TheVariants.{V4, V6}
use Rattle.table_model.specs.Entries.{Entries, of_family}
use Rattle.table_model.specs.Changes.{Change, after_change, after_changes, sum_of}
use Rattle.table_model.specs.Least.{aggregate}
use Rattle.table_model.specs.Both.{aggregate_in, aggregate_in_both}
use Rattle.table_model.proofs.Laws.{aggregate_table}
use Rattle.route_model.specs.Events.{Elem, elem_prefix}
use Rattle.route_model.specs.Choice.{Candidates, IsElem, after_elem, chosen_for}
use Rattle.kept_model.specs.Between.{between}
use Rattle.kept_model.proofs.Held.{Placed, in_order_placed, all_both}
use Rattle.kept_model.proofs.Alike.{made_placed}
use Rattle.kept_model.specs.Patched.{after_repair}
use Rattle.kept_model.proofs.Repairs.{table_entries}
use Rattle.kept_model.proofs.Patches.{placed_patched}
use Rattle.kept_model.specs.Feed.{entries_of, at_event, changes_in}
use Rattle.kept_model.proofs.Tables.{at_prefix}
use Rattle.kept_model.specs.Kept.{is_other, changed_at, is_due, snapshot_of, snapshot_if, kept_at_load, repaired_by, kept_by, changes_by, kept_from, kept_changes_from, kept_load_changes}

-- ---- every kept table is in order

none_short : (f : Family) → 0 ≤ width f
none_short f = omega arith

in_family : (f : Family) (R T : Entries) → AllByRecursion IsPrefix (keys_of (aggregate_in f R T))
in_family f R T = (table_entries f (aggregate (width f) (of_family f R) [] 0 (of_family f T)) (aggregate_table (width f) (of_family f R) [] 0 (of_family f T) (none_short f))).0

pub snapshot_placed : (R T : Entries) → Placed (snapshot_of R T)
snapshot_placed R T = in_order_placed (aggregate_in_both R T) (all_both IsPrefix (aggregate_in V4 R T) (aggregate_in V6 R T) (in_family V4 R T) (in_family V6 R T))

pub renewed_placed : (b : Bool) (R T : Entries) → Placed T → Placed (snapshot_if b R T)
renewed_placed false R T t = t
renewed_placed true R T t = snapshot_placed R T

repaired_placed : (R : Entries) (at : Option Prefix) (T : Entries) → ((p : Prefix) → at ≡ Some p → IsPrefix p) → Placed T → Placed (after_repair R at T)
repaired_placed R None T h t = t
repaired_placed R (Some p) T h t = placed_patched R T p (h p refl) t

changed_prefix : (b : Bool) (q p : Prefix) → IsPrefix q → (if b then Some q else None) ≡ Some p → IsPrefix p
changed_prefix true q p x e = let s : q ≡ p = cc in subst IsPrefix s x
changed_prefix false q p x e = absurd cc

pub by_placed : (hops : List Address) (held : Candidates) (T : Entries) (elem : Elem) → IsElem elem → Placed T → Placed (repaired_by hops held T elem)
by_placed hops held T elem e t =
    repaired_placed (entries_of hops (after_elem held elem)) (changed_at held elem) T (λ p s. changed_prefix (is_other (chosen_for held (elem_prefix elem)) (chosen_for (after_elem held elem) (elem_prefix elem))) (elem_prefix elem) p (at_prefix elem e) s) t

-- ---- changes one after another

after_more : (cs ds : List Change) (L : Entries) → after_changes (cs ++ ds) L ≡ option_and_then (after_changes ds) (after_changes cs L)
after_more [] ds L = refl
after_more (c ∷ cs) ds L = by_first (after_change c L) (after_more cs ds)
  where
    by_first : (o : Option Entries) → ((M : Entries) → after_changes (cs ++ ds) M ≡ option_and_then (after_changes ds) (after_changes cs M)) → option_and_then (after_changes (cs ++ ds)) o ≡ option_and_then (after_changes ds) (option_and_then (after_changes cs) o)
    by_first None ih = refl
    by_first (Some M) ih = ih M

in_at_event : (n : ℕ) (changes : List Change) → changes_in (at_event n changes) ≡ changes
in_at_event n [] = refl
in_at_event n (c ∷ changes) = ap (λ cs. c ∷ cs) (in_at_event n changes)

step : (every : ℕ) (hops : List Address) (n : ℕ) (held : Candidates) (T : Entries) (elem : Elem) → IsElem elem → Placed T → after_changes (changes_by every hops n held T elem) T ≡ Some (kept_by every hops n held T elem)
step every hops n held T elem e t =
    let N = repaired_by hops held T elem in
    let M = kept_by every hops n held T elem in
    let s = by_placed hops held T elem e t in
    after_more (between T N) (between N M) T
    ∙ (ap (option_and_then (after_changes (between N M))) (made_placed T N t s) ∙ made_placed N M s (renewed_placed (is_due every n) (entries_of hops (after_elem held elem)) N s))

pub later : (every : ℕ) (hops : List Address) (n : ℕ) (held : Candidates) (T : Entries) (elems : List Elem) → AllByRecursion IsElem elems → Placed T → after_changes (changes_in (kept_changes_from every hops n held T elems)) T ≡ Some (kept_from every hops n held T elems)
unfolding kept_from kept_changes_from
later every hops n held T [] h t = refl
later every hops n held T (elem ∷ elems) h t =
    let cs = changes_by every hops n held T elem in
    let M = kept_by every hops n held T elem in
    let rest = kept_changes_from every hops (n + 1) (after_elem held elem) M elems in
    let split : changes_in (at_event n cs ++ rest) ≡ cs ++ changes_in rest = map-append _ (at_event n cs) rest ∙ ap (λ ds. ds ++ changes_in rest) (in_at_event n cs) in
    let m = renewed_placed (is_due every n) (entries_of hops (after_elem held elem)) (repaired_by hops held T elem) (by_placed hops held T elem h.0 t) in
    ap (λ ds. after_changes ds T) split
    ∙ (after_more cs (changes_in rest) T ∙ (ap (option_and_then (after_changes (changes_in rest))) (step every hops n held T elem h.0 t) ∙ later every hops (n + 1) (after_elem held elem) M elems h.1 m))

none_placed : Placed []
unfolding IsStrictlySortedBy
none_placed = (tt, tt)

pub all : (every : ℕ) (hops : List Address) (held : Candidates) (elems : List Elem) → AllByRecursion IsElem elems
    → sum_of (changes_in (kept_load_changes hops held ++ kept_changes_from every hops 1 held (kept_at_load hops held) elems)) ≡ Some (kept_from every hops 1 held (kept_at_load hops held) elems)
all every hops held elems h =
    let T = kept_at_load hops held in
    let rest = kept_changes_from every hops 1 held T elems in
    let t = snapshot_placed (entries_of hops held) [] in
    ap sum_of (map-append _ (kept_load_changes hops held) rest)
    ∙ (after_more (changes_in (kept_load_changes hops held)) (changes_in rest) []
    ∙ (ap (option_and_then (after_changes (changes_in rest))) (ap (λ cs. after_changes cs []) (in_at_event 0 (between [] T)) ∙ made_placed [] T none_placed t) ∙ later every hops 1 held T elems h t))
