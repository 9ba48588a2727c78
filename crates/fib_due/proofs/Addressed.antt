-- Every number that is told is 0 or that of a hop.
use Rattle.std.proofs.Common.{◌≡◌, ℕ, zero, suc, ◌+◌, ◌-◌, ◌≤◌, List, [], ◌∷◌, ◌++◌, Bool, true, false, cond, Option, Some, None, length, map, nat_eq, refl, sym, subst, arith}
use Rattle.std.specs.Prelude.{fold, not, ◌||◌, IfSome, nat_lt, option_map, unwrap_or}
use Rattle.std.specs.List.{AllByRecursion, filter, position_or_len}
use Rattle.std.specs.Map.{keys_of}
use Rattle.std.specs.declared.cmp.Ordering.{Ordering}
use Rattle.std.specs.declared.cmp.Ordering.TheVariants.{Less, Equal, Greater}
use Rattle.std.proofs.lemmas.List.{map-append}
use Rattle.std.specs.Ordering.{match_ordering}
use Rattle.std.proofs.lemmas.Bool.{eqb-true, ltb-true}
use Rattle.table_model.specs.Width.{width}
use Rattle.table_model.specs.Address.{Address, Prefix, same_address, same_family}
use Rattle.table_model.specs.Halves.{half_at, is_within}
use Rattle.table_model.specs.declared.family.Family.{Family}
use Rattle.table_model.specs.declared.family.Family.TheVariants.{V4, V6}
use Rattle.table_model.specs.Table.{Table, lpm, cut, half, half_of, inherit, root, root_of, here}
use Rattle.table_model.specs.Address.{same_prefix}
use Rattle.table_model.specs.Order.{prefix_cmp}
use Rattle.table_model.specs.Entries.{Entries, in_order, of_family, of_table, with_entry}
use Rattle.table_model.specs.Changes.{Change, Replace}
use Rattle.table_model.specs.Least.{aggregate, candidates}
use Rattle.table_model.specs.Regions.{above, lift, join}
use Rattle.table_model.specs.Sets.{is_in, common, joint, or_else, side, set_of, smallest, pick, own, agg, answers}
use Rattle.table_model.specs.Both.{aggregate_in, aggregate_in_both}
use Rattle.table_model.proofs.Laws.{lpm_candidate}
use Rattle.fib_addr.specs.Answers.{same_hop, one_answer}
use Rattle.cert_model.specs.Rows.{CertRow, leaf_or, region_rows, family_rows, certificate_of}
use Rattle.route_model.specs.Events.{Elem}
use Rattle.route_model.specs.Choice.{Candidates, after_elem, after_elems, routes_of}
use Rattle.kept_model.specs.Between.{between, change_at, changes_at, entry_hop_at}
use Rattle.kept_model.specs.Patched.{after_repair, entries_outside, patch_of, region_aggregate}
use Rattle.kept_model.specs.Kept.{changed_at, is_due, kept_at_load, snapshot_if, snapshot_of}
use Rattle.kept_model.specs.Told.{load_told, steady_if}
use Rattle.moves_model.specs.Sets.{Allowed, any, these, allowed_by_both, inner_set, is_allowed, least_allowed, near_of, new_entry, set_over}
use Rattle.moves_model.specs.Rows.{near_in}
use Rattle.moves_model.specs.Moved.{after_move, entries_not_of, moved_by, table_by, table_from, with_nearest}
use Rattle.moves_model.specs.Reported.{told_from, told_of}
use Rattle.kept_model.proofs.Told.{all_told}
use Rattle.kept_model.specs.Feed.{at_event, entries_of, hops_after, number_in}
use Rattle.kept_model.proofs.Numbers.{hops_distinct, entries_have}
use Rattle.fib_report.specs.Views.{Answer}
use Rattle.fib_due.specs.Refusals.{Limits}
use Rattle.fib_due.specs.Due.{Feed, answers_to, kept_of, printed}
use Rattle.fib_due.specs.Runs.{ChangeHasHop, HasHops, RowHasHop}

-- ---- numbers up to n

abbrev AtMost : ℕ → List ℕ → Type 0
AtMost n hops = AllByRecursion (λ h. h ≤ n) hops

both : {A : Type 0} (P : A → Type 0) (xs ys : List A) → AllByRecursion P xs → AllByRecursion P ys → AllByRecursion P (xs ++ ys)
both P [] ys a b = b
both P (x ∷ xs) ys a b = (a.0, both P xs ys a.1 b)

one_of : (n : ℕ) (hops : List ℕ) (h : ℕ) → is_in h hops ≡ true → AtMost n hops → h ≤ n
one_of n [] h e a = absurd cc
one_of n (g ∷ hops) h e a = by_test (nat_eq g h) refl e (λ x. one_of n hops h x a.1)
  where
    by_test : (b : Bool) → nat_eq g h ≡ b → (b || is_in h hops) ≡ true → (is_in h hops ≡ true → h ≤ n) → h ≤ n
    by_test true t x later = subst (λ k. k ≤ n) (eqb-true g h t) a.0
    by_test false t x later = later x

-- ---- sets of regions

common_at_most : (n : ℕ) (S T : List ℕ) → AtMost n S → AtMost n (common S T)
common_at_most n [] T a = tt
common_at_most n (g ∷ S) T a = by_test (is_in g T) (common_at_most n S T a.1)
  where
    by_test : (t : Bool) → AtMost n (common S T) → AtMost n (cond t (g ∷ common S T) (common S T))
    by_test true more = (a.0, more)
    by_test false more = more

else_at_most : (n : ℕ) (S T : List ℕ) → AtMost n S → AtMost n T → AtMost n (or_else S T)
else_at_most n [] T a b = b
else_at_most n (g ∷ S) T a b = a

set_at_most : (n d : ℕ) (f : List Bool → ℕ) → ((a : List Bool) → f a ≤ n) → AtMost n (set_of d f)
unfolding set_of
set_at_most n zero f l = (l [], tt)
set_at_most n (suc d) f l =
    let low = set_at_most n d (side false f) (λ a. l (false ∷ a)) in
    let high = set_at_most n d (side true f) (λ a. l (true ∷ a)) in
    else_at_most n (common (set_of d (side false f)) (set_of d (side true f))) (set_of d (side false f) ++ set_of d (side true f))
    (common_at_most n (set_of d (side false f)) (set_of d (side true f)) low) (both (λ h. h ≤ n) (set_of d (side false f)) (set_of d (side true f)) low high)

smallest_at_most : (n : ℕ) (S : List ℕ) → AtMost n S → smallest S ≤ n
smallest_at_most n [] a = omega arith
smallest_at_most n (g ∷ []) a = a.0
smallest_at_most n (g ∷ k ∷ S) a = let l : g ≤ n = a.0 in omega (arith, l)

pick_at_most : (n : ℕ) (S : List ℕ) (o : Option ℕ) → AtMost n S → pick S o ≤ n
pick_at_most n S None a = smallest_at_most n S a
pick_at_most n S (Some g) a = by_test (is_in g S) refl
  where
    by_test : (t : Bool) → is_in g S ≡ t → cond t g (smallest S) ≤ n
    by_test true e = one_of n S g e a
    by_test false e = smallest_at_most n S a

-- ---- the aggregate

abbrev TableAtMost : ℕ → Table → Type 0
TableAtMost n L = AllByRecursion (λ e. e.hop ≤ n) L

lift_at_most : (n : ℕ) (p : List Bool) (L : Table) → TableAtMost n L → TableAtMost n (lift p L)
lift_at_most n p [] a = tt
lift_at_most n p (e ∷ L) a = (a.0, lift_at_most n p L a.1)

own_here : (n : ℕ) (S : List ℕ) (old : Option ℕ) (h : ℕ) → AtMost n S → TableAtMost n (here (own S old h))
own_here n S old h a = by_test (is_in h S)
  where
    by_test : (t : Bool) → TableAtMost n (here (cond t None (Some (pick S old))))
    by_test true = tt
    by_test false = (pick_at_most n S old a, tt)

join_at_most : (n : ℕ) (o : Option ℕ) (L M : Table) → TableAtMost n (here o) → TableAtMost n L → TableAtMost n M → TableAtMost n (join o L M)
join_at_most n o L M a b c =
    both (λ e. e.hop ≤ n) (here o) (lift (false ∷ []) L ++ lift (true ∷ []) M) a
    (both (λ e. e.hop ≤ n) (lift (false ∷ []) L) (lift (true ∷ []) M) (lift_at_most n (false ∷ []) L b) (lift_at_most n (true ∷ []) M c))

agg_at_most : (n d : ℕ) (f : List Bool → ℕ) (old : Table) (h : ℕ) → ((a : List Bool) → f a ≤ n) → TableAtMost n (agg d f old h)
unfolding agg
agg_at_most n zero f old h l = join_at_most n (own (set_of zero f) (root old) h) [] [] (own_here n (set_of zero f) (root old) h (set_at_most n zero f l)) tt tt
agg_at_most n (suc d) f old h l =
    let o : Option ℕ = own (set_of (suc d) f) (root old) h in
    join_at_most n o (agg d (side false f) (half false old) (inherit o h)) (agg d (side true f) (half true old) (inherit o h))
    (own_here n (set_of (suc d) f) (root old) h (set_at_most n (suc d) f l))
    (agg_at_most n d (side false f) (half false old) (inherit o h) (λ a. l (false ∷ a))) (agg_at_most n d (side true f) (half true old) (inherit o h) (λ a. l (true ∷ a)))

-- ---- entries

abbrev EntriesAtMost : ℕ → Entries → Type 0
EntriesAtMost n R = AllByRecursion (λ (e : Prefix × ℕ). e.1 ≤ n) R

of_table_at_most : (n : ℕ) (f : Family) (L : Table) → TableAtMost n L → EntriesAtMost n (of_table f L)
of_table_at_most n f [] a = tt
of_table_at_most n f (e ∷ L) a = (a.0, of_table_at_most n f L a.1)

of_family_at_most : (n : ℕ) (f : Family) (R : Entries) → EntriesAtMost n R → AtMost n (map (λ e. e.hop) (of_family f R))
of_family_at_most n f [] a = tt
of_family_at_most n f (e ∷ R) a = by_test (same_family f e.0.family) (of_family_at_most n f R a.1)
  where
    by_test : (t : Bool) → AtMost n (map (λ x. x.hop) (of_family f R)) → AtMost n (map (λ x. x.hop) (cond t (record { prefix = e.0.bits; hop = e.1 } ∷ of_family f R) (of_family f R)))
    by_test true more = (a.0, more)
    by_test false more = more

lpm_at_most : (n : ℕ) (f : Family) (R : Entries) (a : List Bool) → EntriesAtMost n R → lpm (of_family f R) a 0 ≤ n
lpm_at_most n f R a l = one_of n (candidates (of_family f R)) (lpm (of_family f R) a 0) (lpm_candidate (of_family f R) a) (omega arith, of_family_at_most n f R l)

aggregate_at_most : (n : ℕ) (f : Family) (R old : Entries) → EntriesAtMost n R → EntriesAtMost n (aggregate_in f R old)
aggregate_at_most n f R old l =
    of_table_at_most n f (aggregate (width f) (of_family f R) [] 0 (of_family f old))
    (lift_at_most n [] (agg (width f - 0) (answers (of_family f R) []) (cut [] (of_family f old)) 0) (agg_at_most n (width f - 0) (answers (of_family f R) []) (cut [] (of_family f old)) 0 (λ a. lpm_at_most n f R a l)))

least_at_most : (n : ℕ) (R old : Entries) → EntriesAtMost n R → EntriesAtMost n (aggregate_in_both R old)
least_at_most n R old l = both (λ (e : Prefix × ℕ). e.1 ≤ n) (aggregate_in V4 R old) (aggregate_in V6 R old) (aggregate_at_most n V4 R old l) (aggregate_at_most n V6 R old l)

answers_at_most : (n s : ℕ) (R : Entries) (asks : List Address) → EntriesAtMost n R → AllByRecursion (λ (a : Answer). a.hop ≤ n) (answers_to s R asks)
answers_at_most n s R [] l = tt
answers_at_most n s R (a ∷ asks) l = (lpm_at_most n a.family R a.bits l, answers_at_most n s R asks l)

-- ---- the certificate

one_at_most : (n d : ℕ) (f : List Bool → ℕ) → ((a : List Bool) → f a ≤ n) → IfSome (one_answer d f) (λ h. h ≤ n)
unfolding one_answer
one_at_most n zero f l = l []
one_at_most n (suc d) f l = of_both (one_answer d (side false f)) (one_answer d (side true f)) (one_at_most n d (side false f) (λ a. l (false ∷ a)))
  where
    of_both : (o p : Option ℕ) → IfSome o (λ h. h ≤ n) → IfSome (same_hop o p) (λ h. h ≤ n)
    of_both None p a = tt
    of_both (Some g) None a = tt
    of_both (Some g) (Some h) a = by_test (nat_eq g h)
      where
        by_test : (t : Bool) → IfSome (cond t (Some g) None) (λ h. h ≤ n)
        by_test true = a
        by_test false = tt

rows_have : (hops : List Address) (d : ℕ) (f : List Bool → ℕ) (p : Prefix) → ((a : List Bool) → f a ≤ length hops) → AllByRecursion (RowHasHop hops) (region_rows d f p)
unfolding region_rows
rows_have hops zero f p l = (l [], tt)
rows_have hops (suc d) f p l =
    or_leaf (one_answer (suc d) f) _ (one_at_most (length hops) (suc d) f l)
    (both (RowHasHop hops) (region_rows d (side false f) (half_at false p)) _ (rows_have hops d (side false f) (half_at false p) (λ a. l (false ∷ a)))
    (both (RowHasHop hops) (region_rows d (side true f) (half_at true p)) _ (rows_have hops d (side true f) (half_at true p) (λ a. l (true ∷ a))) (tt, tt)))
  where
    or_leaf : (o : Option ℕ) (rows : List CertRow) → IfSome o (λ h. h ≤ length hops) → AllByRecursion (RowHasHop hops) rows → AllByRecursion (RowHasHop hops) (leaf_or o p rows)
    or_leaf None rows a more = more
    or_leaf (Some h) rows a more = (a, tt)

family_have : (hops : List Address) (f : Family) (R : Entries) → EntriesAtMost (length hops) R → AllByRecursion (RowHasHop hops) (family_rows f R)
family_have hops f R l = both (RowHasHop hops) (region_rows (width f) (answers (of_family f R) []) _) _ (rows_have hops (width f) (answers (of_family f R) []) _ (λ a. lpm_at_most (length hops) f R a l)) (tt, tt)

cert_have : (hops : List Address) (R : Entries) → EntriesAtMost (length hops) R → AllByRecursion (RowHasHop hops) (certificate_of R)
cert_have hops R l = both (RowHasHop hops) (family_rows V4 R) (family_rows V6 R) (family_have hops V4 R l) (family_have hops V6 R l)

-- ---- the changes

number_at_most : (hops : List Address) (a : Address) → number_in hops a ≤ length hops
number_at_most hops a = by_test (nat_lt place (length hops)) refl
  where
    place : ℕ
    place = position_or_len (same_address a) hops

    by_test : (t : Bool) → nat_lt place (length hops) ≡ t → unwrap_or (option_map (λ n. n + 1) (cond t (Some place) None)) 0 ≤ length hops
    by_test true e = let l = ltb-true place (length hops) e in omega (arith, l)
    by_test false e = omega arith

numbered_at_most : (hops : List Address) (routes : List (Prefix × Address)) → EntriesAtMost (length hops) (map (λ (r : Prefix × Address). (r.0, number_in hops r.1)) routes)
numbered_at_most hops [] = tt
numbered_at_most hops (r ∷ routes) = (number_at_most hops r.1, numbered_at_most hops routes)

-- those of the routes
routes_at_most : (hops : List Address) (held : Candidates) → EntriesAtMost (length hops) (entries_of hops held)
routes_at_most hops held = numbered_at_most hops (routes_of held)

-- ---- kept tables

with_at_most : (n : ℕ) (L : Entries) (e : Prefix × ℕ) → EntriesAtMost n L → e.1 ≤ n → EntriesAtMost n (with_entry L e)
with_at_most n [] e a le = (le, tt)
with_at_most n (x ∷ L) e a le = by_order (prefix_cmp e.0 x.0) (with_at_most n L e a.1 le)
  where
    by_order : (o : Ordering) → EntriesAtMost n (with_entry L e) → EntriesAtMost n (match_ordering o ((e.0, e.1) ∷ x ∷ L) ((x.0, e.1) ∷ L) (x ∷ with_entry L e))
    by_order Less more = (le, a)
    by_order Equal more = (le, a.1)
    by_order Greater more = (a.0, more)

folded_at_most : (n : ℕ) (L M : Entries) → EntriesAtMost n L → EntriesAtMost n M → EntriesAtMost n (fold with_entry M L)
folded_at_most n [] M a b = b
folded_at_most n (e ∷ L) M a b = folded_at_most n L (with_entry M e) a.1 (with_at_most n M e b a.0)

kept_at_most : (n : ℕ) (t : Prefix × ℕ → Bool) (L : Entries) → EntriesAtMost n L → EntriesAtMost n (filter t L)
kept_at_most n t [] a = tt
kept_at_most n t (e ∷ L) a = by_test (t e) (kept_at_most n t L a.1)
  where
    by_test : (b : Bool) → EntriesAtMost n (filter t L) → EntriesAtMost n (cond b (e ∷ filter t L) (filter t L))
    by_test true more = (a.0, more)
    by_test false more = more

region_at_most : (n : ℕ) (R T : Entries) (p : Prefix) → EntriesAtMost n R → EntriesAtMost n (region_aggregate R p T)
region_at_most n R T p l =
    of_table_at_most n p.family (aggregate (width p.family) (of_family p.family R) p.bits (above p.bits (of_family p.family T) 0) (of_family p.family T))
    (lift_at_most n p.bits (agg (width p.family - length p.bits) (answers (of_family p.family R) p.bits) (cut p.bits (of_family p.family T)) (above p.bits (of_family p.family T) 0))
    (agg_at_most n (width p.family - length p.bits) (answers (of_family p.family R) p.bits) (cut p.bits (of_family p.family T)) (above p.bits (of_family p.family T) 0) (λ a. lpm_at_most n p.family R (p.bits ++ a) l)))

patch_at_most : (n : ℕ) (R T : Entries) (p : Prefix) → EntriesAtMost n R → EntriesAtMost n T → EntriesAtMost n (patch_of R p T)
unfolding patch_of
patch_at_most n R T p l t =
    let outside = entries_outside p T in
    folded_at_most n (outside ++ region_aggregate R p T) [] (both (λ (e : Prefix × ℕ). e.1 ≤ n) outside (region_aggregate R p T) (kept_at_most n (λ e. not (is_within e.0 p)) T t) (region_at_most n R T p l)) tt

repaired_at_most : (n : ℕ) (R T : Entries) (at : Option Prefix) → EntriesAtMost n R → EntriesAtMost n T → EntriesAtMost n (after_repair R at T)
repaired_at_most n R T None l t = t
repaired_at_most n R T (Some p) l t = patch_at_most n R T p l t

snapshot_at_most : (n : ℕ) (R T : Entries) → EntriesAtMost n R → EntriesAtMost n (snapshot_of R T)
snapshot_at_most n R T l = folded_at_most n (aggregate_in_both R T) [] (least_at_most n R T l) tt

renewed_at_most : (n : ℕ) (b : Bool) (R T : Entries) → EntriesAtMost n R → EntriesAtMost n T → EntriesAtMost n (snapshot_if b R T)
renewed_at_most n false R T l t = t
renewed_at_most n true R T l t = snapshot_at_most n R T l

-- ---- the nearest table

joint_at_most : (n : ℕ) (S T : List ℕ) → AtMost n S → AtMost n T → AtMost n (joint S T)
joint_at_most n S T a b = else_at_most n (common S T) (S ++ T) (common_at_most n S T a) (both (λ h. h ≤ n) S T a b)

abbrev AllowedAtMost : ℕ → Allowed → Type 0
AllowedAtMost n any = Unit {0}
AllowedAtMost n (these S) = AtMost n S

both_allowed : (n : ℕ) (S T : Allowed) → AllowedAtMost n S → AllowedAtMost n T → AllowedAtMost n (allowed_by_both S T)
both_allowed n any T a b = b
both_allowed n (these S) any a b = a
both_allowed n (these S) (these T) a b = joint_at_most n S T a b

over_allowed : (n : ℕ) (o : Option ℕ) (S : Allowed) → AllowedAtMost n S → AllowedAtMost n (set_over o S)
over_allowed n None S a = a
over_allowed n (Some t) S a = tt

inner_allowed : (n d : ℕ) (f : List Bool → ℕ) (T : Table) → ((a : List Bool) → f a ≤ n) → AllowedAtMost n (inner_set d f T)
unfolding inner_set
inner_allowed n zero f T l = (l [], tt)
inner_allowed n (suc d) f T l =
    let low = inner_allowed n d (side false f) (half false T) (λ a. l (false ∷ a)) in
    let high = inner_allowed n d (side true f) (half true T) (λ a. l (true ∷ a)) in
    both_allowed n (set_over (root (half false T)) (inner_set d (side false f) (half false T))) (set_over (root (half true T)) (inner_set d (side true f) (half true T))) (over_allowed n (root (half false T)) (inner_set d (side false f) (half false T)) low) (over_allowed n (root (half true T)) (inner_set d (side true f) (half true T)) high)

least_at_most_allowed : (n : ℕ) (S : Allowed) → AllowedAtMost n S → least_allowed S ≤ n
least_at_most_allowed n any a = omega arith
least_at_most_allowed n (these S) a = smallest_at_most n S a

new_at_most : (n : ℕ) (S : Allowed) (o : Option ℕ) (h : ℕ) → AllowedAtMost n S → TableAtMost n (here o) → TableAtMost n (here (new_entry S o h))
new_at_most n S None h a t = by_test (is_allowed h S)
  where
    by_test : (b : Bool) → TableAtMost n (here (cond b None (Some (least_allowed S))))
    by_test true = tt
    by_test false = (least_at_most_allowed n S a, tt)
new_at_most n S (Some g) h a t = by_tests (is_allowed g S) (is_allowed h S)
  where
    by_tests : (b c : Bool) → TableAtMost n (here (cond b (Some g) (cond c None (Some (least_allowed S)))))
    by_tests true c = t
    by_tests false true = tt
    by_tests false false = (least_at_most_allowed n S a, tt)

root_at_most : (n : ℕ) (T : Table) → TableAtMost n T → TableAtMost n (here (root T))
root_at_most n [] t = tt
root_at_most n (e ∷ T) t = by_prefix e.prefix (root_at_most n T t.1)
  where
    by_prefix : (p : List Bool) → TableAtMost n (here (root T)) → TableAtMost n (here (root_of p e.hop (root T)))
    by_prefix [] more = (t.0, tt)
    by_prefix (b ∷ p) more = more

half_at_most : (n : ℕ) (b : Bool) (T : Table) → TableAtMost n T → TableAtMost n (half b T)
half_at_most n b [] t = tt
half_at_most n b (e ∷ T) t = by_prefix b e.prefix (half_at_most n b T t.1)
  where
    by_prefix : (b : Bool) (p : List Bool) → TableAtMost n (half b T) → TableAtMost n (half_of b p e.hop (half b T))
    by_prefix true [] more = more
    by_prefix true (true ∷ p) more = (t.0, more)
    by_prefix true (false ∷ p) more = more
    by_prefix false [] more = more
    by_prefix false (true ∷ p) more = more
    by_prefix false (false ∷ p) more = (t.0, more)

near_at_most : (n d : ℕ) (f : List Bool → ℕ) (T : Table) (h : ℕ) → ((a : List Bool) → f a ≤ n) → TableAtMost n T → TableAtMost n (near_of d f T h)
unfolding near_of
near_at_most n zero f T h l t = join_at_most n (new_entry (inner_set zero f T) (root T) h) [] [] (new_at_most n (inner_set zero f T) (root T) h (inner_allowed n zero f T l) (root_at_most n T t)) tt tt
near_at_most n (suc d) f T h l t =
    let o : Option ℕ = new_entry (inner_set (suc d) f T) (root T) h in
    join_at_most n o (near_of d (side false f) (half false T) (inherit o h)) (near_of d (side true f) (half true T) (inherit o h)) (new_at_most n (inner_set (suc d) f T) (root T) h (inner_allowed n (suc d) f T l) (root_at_most n T t))
    (near_at_most n d (side false f) (half false T) (inherit o h) (λ a. l (false ∷ a)) (half_at_most n false T t)) (near_at_most n d (side true f) (half true T) (inherit o h) (λ a. l (true ∷ a)) (half_at_most n true T t))

family_at_most : (n : ℕ) (f : Family) (R : Entries) → EntriesAtMost n R → TableAtMost n (of_family f R)
family_at_most n f [] a = tt
family_at_most n f (e ∷ R) a = by_test (same_family f e.0.family) (family_at_most n f R a.1)
  where
    by_test : (t : Bool) → TableAtMost n (of_family f R) → TableAtMost n (cond t (record { prefix = e.0.bits; hop = e.1 } ∷ of_family f R) (of_family f R))
    by_test true more = (a.0, more)
    by_test false more = more

nearest_at_most : (n : ℕ) (f : Family) (R T : Entries) → EntriesAtMost n R → EntriesAtMost n T → EntriesAtMost n (with_nearest f R T)
unfolding with_nearest
nearest_at_most n f R T l t =
    let others = entries_not_of f T in
    folded_at_most n (others ++ near_in f R T) [] (both (λ (e : Prefix × ℕ). e.1 ≤ n) others (near_in f R T) (kept_at_most n (λ e. not (same_family f e.0.family)) T t) (of_table_at_most n f (near_of (width f) (answers (of_family f R) []) (of_family f T) 0)
    (near_at_most n (width f) (answers (of_family f R) []) (of_family f T) 0 (λ a. lpm_at_most n f R a l) (family_at_most n f T t)))) tt

move_at_most : (n : ℕ) (fewest : Bool) (R T : Entries) (at : Option Prefix) → EntriesAtMost n R → EntriesAtMost n T → EntriesAtMost n (after_move fewest R at T)
move_at_most n false R T at l t = repaired_at_most n R T at l t
move_at_most n true R T None l t = t
move_at_most n true R T (Some p) l t = nearest_at_most n p.family R T l t

-- ---- along the elementary events

module _ (fewest : Bool) (every : ℕ) (hops : List Address) where
  moved_has : (held : Candidates) (T : Entries) (elem : Elem) → EntriesAtMost (length hops) T → EntriesAtMost (length hops) (moved_by fewest hops held T elem)
  moved_has held T elem t = move_at_most (length hops) fewest (entries_of hops (after_elem held elem)) T (changed_at held elem) (routes_at_most hops (after_elem held elem)) t

  by_has : (n : ℕ) (held : Candidates) (T : Entries) (elem : Elem) → EntriesAtMost (length hops) T → EntriesAtMost (length hops) (table_by fewest every hops n held T elem)
  by_has n held T elem t = renewed_at_most (length hops) (is_due every n) (entries_of hops (after_elem held elem)) (moved_by fewest hops held T elem) (routes_at_most hops (after_elem held elem)) (moved_has held T elem t)

  table_has : (n : ℕ) (held : Candidates) (T : Entries) (elems : List Elem) → EntriesAtMost (length hops) T → EntriesAtMost (length hops) (table_from fewest every hops n held T elems)
  unfolding table_from
  table_has n held T [] t = t
  table_has n held T (elem ∷ elems) t = table_has (n + 1) (after_elem held elem) (table_by fewest every hops n held T elem) elems (by_has n held T elem t)

loaded_has : (hops : List Address) (held : Candidates) → EntriesAtMost (length hops) (kept_at_load hops held)
loaded_has hops held = snapshot_at_most (length hops) (entries_of hops held) [] (routes_at_most hops held)

-- ---- their changes

abbrev ChangesHave : List Address → List (ℕ × Change) → Type 0
ChangesHave hops cs = AllByRecursion (λ (c : ℕ × Change). ChangeHasHop hops c.1) cs

hop_at_most : (n : ℕ) (p : Prefix) (L : Entries) → EntriesAtMost n L → IfSome (entry_hop_at p L) (λ h. h ≤ n)
hop_at_most n p [] a = tt
hop_at_most n p (e ∷ L) a = by_test (same_prefix p e.0) (hop_at_most n p L a.1)
  where
    by_test : (b : Bool) → IfSome (entry_hop_at p L) (λ h. h ≤ n) → IfSome (cond b (Some e.1) (entry_hop_at p L)) (λ h. h ≤ n)
    by_test true more = a.0
    by_test false more = more

change_has : (hops : List Address) (n : ℕ) (p : Prefix) (old new : Option ℕ) → IfSome new (λ h. h ≤ length hops) → ChangesHave hops (at_event n (change_at p old new))
change_has hops n p None None a = tt
change_has hops n p None (Some h) a = (a, tt)
change_has hops n p (Some g) None a = (tt, tt)
change_has hops n p (Some g) (Some h) a = by_test (nat_eq g h)
  where
    by_test : (t : Bool) → ChangesHave hops (at_event n (cond t [] (Replace p h ∷ [])))
    by_test true = tt
    by_test false = (a, tt)

at_both : (n : ℕ) (cs ds : List Change) → at_event n (cs ++ ds) ≡ at_event n cs ++ at_event n ds
at_both n cs ds = map-append (λ c. (n, c)) cs ds

places_have : (hops : List Address) (n : ℕ) (ps : List Prefix) (old new : Entries) → EntriesAtMost (length hops) new → ChangesHave hops (at_event n (changes_at ps old new))
places_have hops n [] old new a = tt
places_have hops n (p ∷ ps) old new a =
    subst (ChangesHave hops) (sym (at_both n (change_at p (entry_hop_at p old) (entry_hop_at p new)) (changes_at ps old new)))
    (both (λ (c : ℕ × Change). ChangeHasHop hops c.1) (at_event n (change_at p (entry_hop_at p old) (entry_hop_at p new))) (at_event n (changes_at ps old new)) (change_has hops n p (entry_hop_at p old) (entry_hop_at p new) (hop_at_most (length hops) p new a)) (places_have hops n ps old new a))

between_have : (hops : List Address) (n : ℕ) (old new : Entries) → EntriesAtMost (length hops) new → ChangesHave hops (at_event n (between old new))
unfolding between
between_have hops n old new a = places_have hops n (keys_of (in_order (old ++ new))) old new a

of_event : (hops : List Address) (n : ℕ) (cs : List Change) → ChangesHave hops (at_event n cs) → AllByRecursion (ChangeHasHop hops) cs
of_event hops n [] a = tt
of_event hops n (c ∷ cs) a = (a.0, of_event hops n cs a.1)

to_event : (hops : List Address) (n : ℕ) (cs : List Change) → AllByRecursion (ChangeHasHop hops) cs → ChangesHave hops (at_event n cs)
to_event hops n [] a = tt
to_event hops n (c ∷ cs) a = (a.0, to_event hops n cs a.1)

-- in whatever order they are told
told_have : (hops : List Address) (n : ℕ) (steady : Bool) (cs : List Change) → ChangesHave hops (at_event n cs) → ChangesHave hops (at_event n (steady_if steady cs))
told_have hops n steady cs a = to_event hops n (steady_if steady cs) (all_told (ChangeHasHop hops) steady cs (of_event hops n cs a))

event_has : (fewest steady : Bool) (every : ℕ) (hops : List Address) (n : ℕ) (held : Candidates) (T : Entries) (elem : Elem) → EntriesAtMost (length hops) T → ChangesHave hops (at_event n (told_of fewest steady every hops n held T elem))
event_has fewest steady every hops n held T elem t =
    let N = moved_by fewest hops held T elem in
    let M = table_by fewest every hops n held T elem in
    subst (ChangesHave hops) (sym (at_both n (steady_if steady (between T N)) (steady_if steady (between N M))))
    (both (λ (c : ℕ × Change). ChangeHasHop hops c.1) (at_event n (steady_if steady (between T N))) (at_event n (steady_if steady (between N M))) (told_have hops n steady (between T N) (between_have hops n T N (moved_has fewest every hops held T elem t)))
    (told_have hops n steady (between N M) (between_have hops n N M (by_has fewest every hops n held T elem t))))

events_have : (fewest steady : Bool) (every : ℕ) (hops : List Address) (n : ℕ) (held : Candidates) (T : Entries) (elems : List Elem) → EntriesAtMost (length hops) T → ChangesHave hops (told_from fewest steady every hops n held T elems)
unfolding told_from
events_have fewest steady every hops n held T [] t = tt
events_have fewest steady every hops n held T (elem ∷ elems) t =
    let M = table_by fewest every hops n held T elem in
    both (λ (c : ℕ × Change). ChangeHasHop hops c.1) (at_event n (told_of fewest steady every hops n held T elem)) (told_from fewest steady every hops (n + 1) (after_elem held elem) M elems) (event_has fewest steady every hops n held T elem t)
    (events_have fewest steady every hops (n + 1) (after_elem held elem) M elems (by_has fewest every hops n held T elem t))

-- ---- all that is told

pub has_hops : (limits : Limits) (load updates : Feed) (asks : List Address) → HasHops (printed limits load updates asks)
has_hops limits load updates asks =
    let every : ℕ = limits.every in
    let fewest : Bool = limits.fewest in
    let steady : Bool = limits.steady in
    let elems : List Elem = load.elems ++ updates.elems in
    let hops : List Address = hops_after [] elems in
    let held : Candidates = after_elems [] load.elems in
    let R : Entries = entries_of hops (after_elems [] elems) in
    let T : Entries = kept_at_load hops held in
    let few : EntriesAtMost (length hops) R = routes_at_most hops (after_elems [] elems) in
    let first : EntriesAtMost (length hops) T = loaded_has hops held in
    record {
      distinct = hops_distinct elems;
      routes = entries_have elems;
      changes = both (λ (c : ℕ × Change). ChangeHasHop hops c.1) (load_told steady hops held) (told_from fewest steady every hops 1 held T updates.elems) (told_have hops 0 steady (between [] T) (between_have hops 0 [] T first)) (events_have fewest steady every hops 1 held T updates.elems first);
      answers = answers_at_most (length hops) limits.sizes.direct R asks few;
      table = table_has fewest every hops 1 held T updates.elems first;
      least = least_at_most (length hops) R (kept_of fewest every hops load.elems updates.elems) few;
      cert = cert_have hops R few;
    }
