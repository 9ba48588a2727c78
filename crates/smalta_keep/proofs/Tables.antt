-- The tables of repairs and snapshots.
use Rattle.std.proofs.Common.{◌≡◌, ℕ, ◌≤◌, List, [], ◌∷◌, Bool, true, false, cond, filter, map, refl, sym, ap, subst, ◌∙◌, arith}
use Rattle.std.specs.List.{AllByRecursion}
use Rattle.std.specs.Map.{keys_of}
use Rattle.std.proofs.lemmas.Bool.{and_parts}
use Rattle.table_model.specs.Width.{width}
use Rattle.table_model.specs.Bits.{begins}
use Rattle.table_model.specs.Address.{Prefix, IsPrefix, same_family}
use Rattle.table_model.specs.Order.{prefix_cmp}
use Rattle.table_model.specs.declared.family.Family.{Family}
use Rattle.table_model.proofs.SamePrefix.{same_family_is, same_family_itself}
use Rattle.table_model.specs.Table.{Table}
use Rattle.table_model.specs.Entries.{Entries, in_order, of_family, of_table}
use Rattle.table_model.proofs.Sums.{in_order_again}
use Rattle.table_model.specs.Changes.{Change, after_changes}
use Rattle.std.proofs.Common.{Some}
use Rattle.fib_delta.specs.declared.change.Change as code
use Rattle.fib_delta.specs.Views.{change_as}
use Rattle.table_model.specs.Regions.{above}
use Rattle.table_model.specs.Least.{aggregate}
use Rattle.table_model.specs.Both.{aggregate_in}
use Rattle.table_model.proofs.Both.{sorted_aggregate}
use Rattle.table_model.proofs.Laws.{aggregate_table}
use Rattle.route_model.proofs.Keyed.{all_filter, sorted_filter}
use Rattle.table_model.specs.Halves.{is_within}
use Rattle.kept_model.specs.Between.{place_of, between}
use Rattle.kept_model.proofs.Alike.{replaced_placed, all_between, made_placed}
use Rattle.kept_model.specs.Patched.{entries_within, region_aggregate, patch_of}
use Rattle.kept_model.proofs.Repairs.{mended_entries, table_entries}
use Rattle.orig_tree.specs.Views.{InPlace}
use Rattle.smalta_keep.specs.Rooms.{AreOf}

-- ---- tables in the order of prefixes

none_short : (f : Family) → 0 ≤ width f
none_short f = omega arith

pub renewed_placed : (f : Family) (R T : Entries) → InPlace (aggregate_in f R T)
renewed_placed f R T =
    let w = width f in
    ((table_entries f (aggregate w (of_family f R) [] 0 (of_family f T)) (aggregate_table w (of_family f R) [] 0 (of_family f T) (none_short f))).0, sorted_aggregate f (of_family f R) (of_family f T) [] 0 (none_short f))

pub patched_placed : (R T : Entries) (p : Prefix) → IsPrefix p → InPlace T → InPlace (patch_of R p T)
unfolding patch_of
patched_placed R T p x t = replaced_placed (λ q. is_within q p) T (region_aggregate R p T) t (mended_entries R T p x).0

pub within_placed : (p : Prefix) (T : Entries) → InPlace T → InPlace (entries_within p T)
within_placed p T t = (all_filter (λ e. is_within e.0 p) IsPrefix T t.0, sorted_filter prefix_cmp (λ e. is_within e.0 p) T t.1)

-- ---- what `within` gives is the aggregate of a repair

pub mended_is : (R T : Entries) (p : Prefix) (f : Family) (h : ℕ) → p.family ≡ f → h ≡ above p.bits (of_family f T) 0 → of_table f (aggregate (width f) (of_family f R) p.bits h (of_family f T)) ≡ region_aggregate R p T
mended_is R T p f h e a =
    ap (λ k. of_table f (aggregate (width f) (of_family f R) p.bits k (of_family f T))) a
    ∙ ap (λ (g : Family). of_table g (aggregate (width g) (of_family g R) p.bits (above p.bits (of_family g T) 0) (of_family g T))) (sym e)

-- ---- of one family

of_table_family : (f : Family) (L : Table) → AllByRecursion (λ (p : Prefix). p.family ≡ f) (keys_of (of_table f L))
of_table_family f [] = tt
of_table_family f (e ∷ L) = (refl, of_table_family f L)

pub renewed_family : (f : Family) (R T : Entries) → AllByRecursion (λ (p : Prefix). p.family ≡ f) (keys_of (aggregate_in f R T))
renewed_family f R T = of_table_family f (aggregate (width f) (of_family f R) [] 0 (of_family f T))

pub mended_family : (R T : Entries) (p : Prefix) (f : Family) → p.family ≡ f → AllByRecursion (λ (q : Prefix). q.family ≡ f) (keys_of (region_aggregate R p T))
mended_family R T p f e = subst (λ (g : Family). AllByRecursion (λ (q : Prefix). q.family ≡ g) (keys_of (region_aggregate R p T))) e (of_table_family p.family (aggregate (width p.family) (of_family p.family R) p.bits (above p.bits (of_family p.family T) 0) (of_family p.family T)))

pub within_family : (p : Prefix) (f : Family) (T : Entries) → p.family ≡ f → AllByRecursion (λ (q : Prefix). q.family ≡ f) (keys_of (entries_within p T))
within_family p f [] e = tt
within_family p f (d ∷ T) e = by_test (is_within d.0 p) refl (within_family p f T e)
  where
    by_test : (b : Bool) → is_within d.0 p ≡ b → AllByRecursion (λ (q : Prefix). q.family ≡ f) (keys_of (entries_within p T)) → AllByRecursion (λ (q : Prefix). q.family ≡ f) (keys_of (cond b (d ∷ entries_within p T) (entries_within p T)))
    by_test true t ih = (sym (same_family_is p.family d.0.family (and_parts (same_family p.family d.0.family) (begins p.bits d.0.bits) t).0) ∙ e, ih)
    by_test false t ih = ih

all_places : (f : Family) (cs : List Change) → AllByRecursion (λ (p : Prefix). p.family ≡ f) (map place_of cs) → AreOf f cs
all_places f [] a = tt
all_places f (c ∷ cs) a = (a.0, all_places f cs a.1)

pub between_of : (f : Family) (old new : Entries) → AllByRecursion (λ (p : Prefix). p.family ≡ f) (keys_of old) → AllByRecursion (λ (p : Prefix). p.family ≡ f) (keys_of new) → AreOf f (between old new)
between_of f old new a b = all_places f (between old new) (all_between (λ (p : Prefix). p.family ≡ f) old new a b)

pub if_of : (f : Family) (b : Bool) (cs : List Change) → AreOf f cs → AreOf f (cond b cs [])
if_of f true cs a = a
if_of f false cs a = tt

pub if_none : (b : Bool) (cs : List Change) → cs ≡ [] → [] ≡ cond b cs []
if_none true cs e = sym e
if_none false cs e = refl

-- ---- changes that lead from one table to another

pub led : (xs : List code.Change) (E T N : Entries) → map change_as xs ≡ between T N → E ≡ T → InPlace T → InPlace N → after_changes (map change_as xs) E ≡ Some N
led xs E T N s e t n = ap (λ cs. after_changes cs E) s ∙ (ap (after_changes (between T N)) e ∙ made_placed T N t n)

pub some_is : (a b : Entries) → Some a ≡ Some b → a ≡ b
some_is a b e = cc

pub came : (xs : List code.Change) (E T N U : Entries) → map change_as xs ≡ between T N → E ≡ T → InPlace T → InPlace N → after_changes (map change_as xs) E ≡ Some U → U ≡ N
came xs E T N U s e t n a = some_is U N (sym a ∙ led xs E T N s e t n)

-- ---- a table in place of an empty one

all_of : (f : Family) (L : Entries) → AllByRecursion (λ (p : Prefix). p.family ≡ f) (keys_of L) → filter (λ e. same_family f e.0.family) L ≡ L
all_of f [] a = refl
all_of f (e ∷ L) a = ap (λ b. cond b (e ∷ filter (λ d. same_family f d.0.family) L) (filter (λ d. same_family f d.0.family) L)) (ap (same_family f) a.0 ∙ same_family_itself f) ∙ ap (λ M. e ∷ M) (all_of f L a.1)

-- the least table's entries, put one by one, are the table
pub entered : (f : Family) (R T L : Entries) → L ≡ aggregate_in f R T → in_order (filter (λ e. same_family f e.0.family) L) ≡ L
entered f R T L e =
    let N = aggregate_in f R T in
    ap (λ (M : Entries). in_order (filter (λ d. same_family f d.0.family) M)) e ∙ (ap in_order (all_of f N (renewed_family f R T)) ∙ (in_order_again N (renewed_placed f R T).1 ∙ sym e))
