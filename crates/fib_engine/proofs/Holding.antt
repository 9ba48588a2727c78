-- The routes of one family, and the tables of both families as one.
use Rattle.std.proofs.Common.{◌≡◌, ℕ, zero, suc, ◌<◌, get_or, List, [], ◌∷◌, ◌++◌, Bool, true, false, cond, Option, Some, None, refl, sym, ap, subst, ◌∙◌, append-nil, map, arith, length}
use Rattle.std.specs.Option.{option_and_then}
use Rattle.std.specs.List.{AllByRecursion}
use Rattle.std.specs.Map.{keys_of}
use Rattle.table_model.specs.Width.{width}
use Rattle.table_model.specs.Address.{Prefix, IsPrefix, same_family, same_prefix}
use Rattle.table_model.specs.Order.{prefix_cmp}
use Rattle.table_model.specs.declared.family.Family.{Family}
use Rattle.table_model.specs.declared.family.Family.TheVariants.{V4, V6}
use Rattle.table_model.proofs.SamePrefix.{same_prefix_is}
use Rattle.table_model.specs.Table.{Table}
use Rattle.table_model.specs.Entries.{Entries, of_family, of_table}
use Rattle.table_model.proofs.Cut.{entry}
use Rattle.table_model.specs.Least.{aggregate}
use Rattle.table_model.specs.Both.{aggregate_in, aggregate_in_both}
use Rattle.route_model.proofs.Keyed.{same_entries, all_filter, sorted_filter, lookup-filter, lookup-put, lookup-cut, all_put, all_cut, sorted_put, sorted_cut}
use Rattle.route_model.proofs.Places.{prefix_key}
use Rattle.kept_model.specs.Between.{between, entry_hop_at}
use Rattle.kept_model.specs.Patched.{with_route, patch_of, after_snapshot}
use Rattle.kept_model.proofs.Families.{AllOf, between_both, hop_high, hop_low, placed_both, patched_low, patched_high, patched_of}
use Rattle.kept_model.specs.Kept.{snapshot_if}
use Rattle.kept_model.proofs.FeedSteps.{snapshot_is}
use Rattle.orig_tree.specs.Views.{InPlace}
use Rattle.smalta_keep.proofs.Tables.{renewed_placed, renewed_family, patched_placed}
use Rattle.fib_addr.specs.declared.entry.Entry as code
use Rattle.fib_addr.specs.Views.{entry_as}
use Rattle.fib_engine.specs.Tables.{only}

-- ---- entries of one family

pub only_placed : (f : Family) (E : Entries) → InPlace E → InPlace (only f E)
only_placed f E e = (all_filter (λ d. same_family f d.0.family) IsPrefix E e.0, sorted_filter prefix_cmp (λ d. same_family f d.0.family) E e.1)

pub only_again : (f : Family) (E : Entries) → only f (only f E) ≡ only f E
only_again f [] = refl
only_again f (e ∷ E) = by_test (same_family f e.0.family) refl (only_again f E)
  where
    by_test : (b : Bool) → same_family f e.0.family ≡ b → only f (only f E) ≡ only f E → only f (cond b (e ∷ only f E) (only f E)) ≡ cond b (e ∷ only f E) (only f E)
    by_test true t more = ap (λ b. cond b (e ∷ only f (only f E)) (only f (only f E))) t ∙ ap (λ (L : Entries). e ∷ L) more
    by_test false t more = more

pub all_only : (P : Prefix × ℕ → Type 0) (f : Family) (E : Entries) → AllByRecursion P E → AllByRecursion P (only f E)
all_only P f [] a = tt
all_only P f (e ∷ E) a = by_test (same_family f e.0.family) (all_only P f E a.1)
  where
    by_test : (b : Bool) → AllByRecursion P (only f E) → AllByRecursion P (cond b (e ∷ only f E) (only f E))
    by_test true more = (a.0, more)
    by_test false more = more

pub of_only : (f : Family) (E : Entries) → of_family f (only f E) ≡ of_family f E
of_only f [] = refl
of_only f (e ∷ E) = by_test (same_family f e.0.family) refl (of_only f E)
  where
    by_test : (b : Bool) → same_family f e.0.family ≡ b → of_family f (only f E) ≡ of_family f E → of_family f (cond b (e ∷ only f E) (only f E)) ≡ cond b (record { prefix = e.0.bits; hop = e.1 } ∷ of_family f E) (of_family f E)
    by_test true t more = ap (λ b. cond b (record { prefix = e.0.bits; hop = e.1 } ∷ of_family f (only f E)) (of_family f (only f E))) t ∙ ap (λ (T : Table). record { prefix = e.0.bits; hop = e.1 } ∷ T) more
    by_test false t more = more

kept_if : (b : Bool) (o : Option ℕ) → option_and_then (λ v. cond b (Some v) None) o ≡ cond b o None
kept_if true None = refl
kept_if true (Some h) = refl
kept_if false None = refl
kept_if false (Some h) = refl

hop_only : (f : Family) (q : Prefix) (E : Entries) → InPlace E → entry_hop_at q (only f E) ≡ cond (same_family f q.family) (entry_hop_at q E) None
hop_only f q E e = lookup-filter prefix_key (λ d. same_family f d.0.family) q E e.1 ∙ kept_if (same_family f q.family) (entry_hop_at q E)

-- all of them are of the family
only_of : (f : Family) (E : Entries) → AllOf f (keys_of (only f E))
only_of f [] = tt
only_of f (e ∷ E) = by f e.0.family refl (only_of f E)
  where
    by : (f g : Family) → e.0.family ≡ g → AllOf f (keys_of (only f E)) → AllOf f (keys_of (cond (same_family f g) (e ∷ only f E) (only f E)))
    by V4 V4 s a = (s, a)
    by V4 V6 s a = a
    by V6 V4 s a = a
    by V6 V6 s a = (s, a)

-- those of IPv4 and then those of IPv6 are all entries
pub both_again : (E : Entries) → InPlace E → only V4 E ++ only V6 E ≡ E
both_again E e = same_entries prefix_key (A ++ B) E all.1 e.1 all.0 e.0 (λ q. found q q.family refl)
  where
    A : Entries
    A = only V4 E

    B : Entries
    B = only V6 E

    all : InPlace (A ++ B)
    all = placed_both A B (only_placed V4 E e) (only_placed V6 E e) (only_of V4 E) (only_of V6 E)

    found : (q : Prefix) (g : Family) → q.family ≡ g → entry_hop_at q (A ++ B) ≡ entry_hop_at q E
    found q V4 s = hop_low q A B s (only_of V6 E) ∙ (hop_only V4 q E e ∙ ap (λ (g : Family). cond (same_family V4 g) (entry_hop_at q E) None) s)
    found q V6 s = hop_high q A B s (only_of V4 E) ∙ (hop_only V6 q E e ∙ ap (λ (g : Family). cond (same_family V6 g) (entry_hop_at q E) None) s)

-- ---- a route set in the routes of a family

-- what a route of this hop is found as
abbrev pub some_of : ℕ → Option ℕ
some_of zero = None
some_of (suc h) = Some (suc h)

routed_hop : (p q : Prefix) (h : ℕ) (R : Entries) → IsPrefix p → InPlace R → entry_hop_at q (with_route p h R) ≡ cond (same_prefix q p) (some_of h) (entry_hop_at q R)
routed_hop p q zero R x r = lookup-cut prefix_key q p R r.1
routed_hop p q (suc h) R x r = lookup-put prefix_key q R p (suc h) r.0 x

routed_placed : (p : Prefix) (h : ℕ) (R : Entries) → IsPrefix p → InPlace R → InPlace (with_route p h R)
routed_placed p zero R x r = (all_cut (same_prefix p) IsPrefix R r.0, sorted_cut prefix_cmp (same_prefix p) R r.1)
routed_placed p (suc h) R x r = (all_put prefix_cmp IsPrefix R p (suc h) r.0 x, sorted_put prefix_key R p (suc h) r.1)

-- E' is E with another entry, or none, at p
module _ (p : Prefix) (E E' : Entries) (new : Option ℕ) (x : IsPrefix p) (e : InPlace E) (e' : InPlace E') (after : (q : Prefix) → entry_hop_at q E' ≡ cond (same_prefix q p) new (entry_hop_at q E)) where
  pub turned : (f : Family) (n : ℕ) → same_family f p.family ≡ true → some_of n ≡ new → with_route p n (only f E) ≡ only f E'
  turned f n s w =
      let k = only_placed f E e in
      let l = only_placed f E' e' in
      let m = routed_placed p n (only f E) x k in
      same_entries prefix_key (with_route p n (only f E)) (only f E') m.1 l.1 m.0 l.0
      (λ q. routed_hop p q n (only f E) x k
      ∙ (ap (cond (same_prefix q p) (some_of n)) (hop_only f q E e) ∙ (pick q (same_prefix q p) refl ∙ sym (hop_only f q E' e' ∙ ap (λ o. cond (same_family f q.family) o None) (after q)))))
    where
      pick : (q : Prefix) (b : Bool) → same_prefix q p ≡ b → cond b (some_of n) (cond (same_family f q.family) (entry_hop_at q E) None) ≡ cond (same_family f q.family) (cond b new (entry_hop_at q E)) None
      pick q true t = w ∙ sym (ap (λ c. cond c new None) (ap (λ (r : Prefix). same_family f r.family) (same_prefix_is q p t) ∙ s))
      pick q false t = refl

  pub stays_out : (f : Family) → same_family f p.family ≡ false → only f E ≡ only f E'
  stays_out f s =
      let k = only_placed f E e in
      let l = only_placed f E' e' in
      same_entries prefix_key (only f E) (only f E') k.1 l.1 k.0 l.0
      (λ q. hop_only f q E e ∙ (pick q (same_prefix q p) refl ∙ sym (hop_only f q E' e' ∙ ap (λ o. cond (same_family f q.family) o None) (after q))))
    where
      pick : (q : Prefix) (b : Bool) → same_prefix q p ≡ b → cond (same_family f q.family) (entry_hop_at q E) None ≡ cond (same_family f q.family) (cond b new (entry_hop_at q E)) None
      pick q true t =
          let out = ap (λ (r : Prefix). same_family f r.family) (same_prefix_is q p t) ∙ s in
          ap (λ c. cond c (entry_hop_at q E) None) out ∙ sym (ap (λ c. cond c new None) out)
      pick q false t = refl

  pub stays_all : new ≡ entry_hop_at p E → E ≡ E'
  stays_all n = same_entries prefix_key E E' e.1 e'.1 e.0 e'.0 (λ q. pick q (same_prefix q p) refl ∙ sym (after q))
    where
      pick : (q : Prefix) (b : Bool) → same_prefix q p ≡ b → entry_hop_at q E ≡ cond b new (entry_hop_at q E)
      pick q true t = ap (λ r. entry_hop_at r E) (same_prefix_is q p t) ∙ sym n
      pick q false t = refl

-- ---- both families' tables as one

family_append : (f : Family) (A B : Entries) → of_family f (A ++ B) ≡ of_family f A ++ of_family f B
family_append f [] B = refl
family_append f (e ∷ A) B = by_test (same_family f e.0.family) (family_append f A B)
  where
    by_test : (b : Bool) → of_family f (A ++ B) ≡ of_family f A ++ of_family f B → cond b (entry e.0.bits e.1 ∷ of_family f (A ++ B)) (of_family f (A ++ B)) ≡ cond b (entry e.0.bits e.1 ∷ of_family f A) (of_family f A) ++ of_family f B
    by_test true ih = ap (λ (L : Table). entry e.0.bits e.1 ∷ L) ih
    by_test false ih = ih

family_none : (f g : Family) (L : Entries) → AllOf g (keys_of L) → same_family f g ≡ false → of_family f L ≡ []
family_none f g [] a n = refl
family_none f g (e ∷ L) a n = ap (λ b. cond b (entry e.0.bits e.1 ∷ of_family f L) (of_family f L)) (ap (same_family f) a.0 ∙ n) ∙ family_none f g L a.1 n

pub low_part : (A B : Entries) → AllOf V6 (keys_of B) → of_family V4 (A ++ B) ≡ of_family V4 A
low_part A B b = family_append V4 A B ∙ (ap (λ (L : Table). of_family V4 A ++ L) (family_none V4 V6 B b refl) ∙ append-nil (of_family V4 A))

pub high_part : (A B : Entries) → AllOf V4 (keys_of A) → of_family V6 (A ++ B) ≡ of_family V6 B
high_part A B a = family_append V6 A B ∙ ap (λ (L : Table). L ++ of_family V6 B) (family_none V6 V4 A a refl)

-- the aggregate of a family reads its own routes and entries alone
pub same_aggregate : (f : Family) (R S T U : Entries) → of_family f R ≡ of_family f S → of_family f T ≡ of_family f U → aggregate_in f R T ≡ aggregate_in f S U
same_aggregate f R S T U r t = ap (λ (L : Table). of_table f (aggregate (width f) L [] 0 (of_family f T))) r ∙ ap (λ (L : Table). of_table f (aggregate (width f) (of_family f S) [] 0 L)) t

pub both_aggregates : (E A B : Entries) → AllOf V4 (keys_of A) → AllOf V6 (keys_of B) → aggregate_in V4 (only V4 E) A ++ aggregate_in V6 (only V6 E) B ≡ aggregate_in_both E (A ++ B)
both_aggregates E A B a b =
    ap (λ (L : Entries). L ++ aggregate_in V6 (only V6 E) B) (same_aggregate V4 (only V4 E) E A (A ++ B) (of_only V4 E) (sym (low_part A B b)))
    ∙ ap (λ (L : Entries). aggregate_in V4 E (A ++ B) ++ L) (same_aggregate V6 (only V6 E) E B (A ++ B) (of_only V6 E) (sym (high_part A B a)))

pub both_snapshots : (due : Bool) (E A B : Entries) → AllOf V4 (keys_of A) → AllOf V6 (keys_of B) → after_snapshot V4 (only V4 E) due A ++ after_snapshot V6 (only V6 E) due B ≡ snapshot_if due E (A ++ B)
both_snapshots true E A B a b = both_aggregates E A B a b ∙ sym (snapshot_is E (A ++ B))
both_snapshots false E A B a b = refl

-- ---- what stays so of a family's table

-- in order, and of the family
pub record Fine (f : Family) (T : Entries) : Type 0 where
  pub order : InPlace T
  pub of : AllOf f (keys_of T)

pub fine_repaired : (f : Family) (R T : Entries) (p : Prefix) → IsPrefix p → p.family ≡ f → Fine f T → Fine f (patch_of R p T)
fine_repaired f R T p x s t = record { order = patched_placed R T p x t.order; of = patched_of R T p f s t.of }

pub fine_renewed : (f : Family) (due : Bool) (R T : Entries) → Fine f T → Fine f (after_snapshot f R due T)
fine_renewed f true R T t = record { order = renewed_placed f R T; of = renewed_family f R T }
fine_renewed f false R T t = t

-- ---- a repair in both

pub both_repaired : (E A B : Entries) (p : Prefix) → IsPrefix p → Fine V4 A → Fine V6 B → p.family ≡ V4 → patch_of (only V4 E) p A ++ B ≡ patch_of E p (A ++ B)
both_repaired E A B p x a b s =
    sym (patched_low E (only V4 E) A B p x a.order b.order a.of b.of (subst (λ (g : Family). of_family g E ≡ of_family g (only V4 E)) (sym s) (sym (of_only V4 E))) s)

pub both_repaired_high : (E A B : Entries) (p : Prefix) → IsPrefix p → Fine V4 A → Fine V6 B → p.family ≡ V6 → A ++ patch_of (only V6 E) p B ≡ patch_of E p (A ++ B)
both_repaired_high E A B p x a b s =
    sym (patched_high E (only V6 E) A B p x a.order b.order a.of b.of (subst (λ (g : Family). of_family g E ≡ of_family g (only V6 E)) (sym s) (sym (of_only V6 E))) s)

-- ---- the changes of both

pub both_changes : (A B C D : Entries) → Fine V4 A → Fine V6 B → Fine V4 C → Fine V6 D → between A C ++ between B D ≡ between (A ++ B) (C ++ D)
both_changes A B C D a b c d = sym (between_both A B C D a.order b.order c.order d.order a.of b.of c.of d.of)

-- ---- one of a list

pub at_entry : (P : Prefix × ℕ → Type 0) (xs : List code.Entry) (i : ℕ) (x : code.Entry) → i < length xs → x ≡ get_or xs i x → AllByRecursion P (map entry_as xs) → P (entry_as x)
at_entry P [] i x l e a = absurd (omega arith)
at_entry P (y ∷ xs) zero x l e a = subst (λ (z : code.Entry). P (entry_as z)) (sym e) a.0
at_entry P (y ∷ xs) (suc i) x l e a = at_entry P xs i x (omega arith) e a.1
