-- Tables of both families, taken apart.
use Rattle.std.proofs.Common.{◌≡◌, ℕ, List, [], ◌∷◌, ◌++◌, Bool, true, false, cond, Option, Some, None, length, refl, sym, ap, subst, ◌∙◌, append-nil}
use Rattle.std.specs.Prelude.{map, not, ◌&&◌}
use Rattle.std.specs.List.{AllByRecursion, IsDistinct}
use Rattle.std.specs.List.Sorted.{IsStrictlySortedBy}
use Rattle.std.specs.Map.{keys_of}
use Rattle.std.specs.Ordering.{nat_cmp, ordering_then}
use Rattle.std.specs.declared.cmp.Ordering.TheVariants.{Less}
use Rattle.std.proofs.lemmas.List.{map-append}
use Rattle.std.proofs.lemmas.List.Elements.{filter-append}
use Rattle.table_model.specs.Width.{width}
use Rattle.table_model.specs.Bits.{begins, same_bits}
use Rattle.table_model.specs.Address.{Prefix, IsPrefix, same_family, same_prefix}
use Rattle.table_model.specs.Order.{prefix_cmp, family_cmp, filled}
use Rattle.table_model.specs.declared.family.Family.{Family}
use Rattle.table_model.specs.declared.family.Family.TheVariants.{V4, V6}
use Rattle.table_model.specs.Table.{Table}
use Rattle.table_model.specs.Entries.{Entries, of_family, of_table}
use Rattle.table_model.specs.Regions.{above}
use Rattle.table_model.specs.Least.{aggregate}
use Rattle.table_model.proofs.Cut.{entry}
use Rattle.route_model.proofs.Keyed.{same_entries, all_filter}
use Rattle.route_model.proofs.Places.{prefix_key}
use Rattle.table_model.specs.Halves.{is_within}
use Rattle.kept_model.specs.Between.{AreEntries, place_of, entry_hop_at, change_at, between}
use Rattle.kept_model.proofs.Held.{Placed, first, all_both, all_folded}
use Rattle.kept_model.proofs.Alike.{same_changes, all_between, placed_are}
use Rattle.kept_model.proofs.Places.{at, in_places, each_at}
use Rattle.kept_model.specs.Patched.{entries_outside, region_aggregate, patch_of}
use Rattle.kept_model.proofs.Patches.{hop_patched, placed_patched}

-- all prefixes are of the family
abbrev pub AllOf : Family → List Prefix → Type 0
AllOf f ps = AllByRecursion (λ p. p.family ≡ f) ps

-- ---- IPv4 before IPv6

v4_first : (p q : Prefix) → p.family ≡ V4 → q.family ≡ V6 → prefix_cmp p q ≡ Less
v4_first p q e f =
    ap (λ o. ordering_then o (ordering_then (nat_cmp (filled p) (filled q)) (nat_cmp (length p.bits) (length q.bits)))) (ap (λ (g : Family). family_cmp g q.family) e ∙ ap (λ (g : Family). family_cmp V4 g) f)

all_before : (p : Prefix) (qs : List Prefix) → p.family ≡ V4 → AllOf V6 qs → AllByRecursion (λ q. prefix_cmp p q ≡ Less) qs
all_before p [] e a = tt
all_before p (q ∷ qs) e a = (v4_first p q e a.0, all_before p qs e a.1)

all_append : (P : Prefix → Type 0) (ps qs : List Prefix) → AllByRecursion P ps → AllByRecursion P qs → AllByRecursion P (ps ++ qs)
all_append P [] qs a b = b
all_append P (p ∷ ps) qs a b = (a.0, all_append P ps qs a.1 b)

sorted_both : (ps qs : List Prefix) → IsStrictlySortedBy prefix_cmp ps → IsStrictlySortedBy prefix_cmp qs → AllOf V4 ps → AllOf V6 qs → IsStrictlySortedBy prefix_cmp (ps ++ qs)
unfolding IsStrictlySortedBy
sorted_both [] qs s t a b = t
sorted_both (p ∷ ps) qs s t a b = (all_append (λ q. prefix_cmp p q ≡ Less) ps qs s.0 (all_before p qs a.0 b), sorted_both ps qs s.1 t a.1 b)

keys_both : (A B : Entries) → keys_of (A ++ B) ≡ keys_of A ++ keys_of B
keys_both [] B = refl
keys_both (e ∷ A) B = ap (λ ps. e.0 ∷ ps) (keys_both A B)

pub placed_both : (A B : Entries) → Placed A → Placed B → AllOf V4 (keys_of A) → AllOf V6 (keys_of B) → Placed (A ++ B)
placed_both A B a b x y = (all_both IsPrefix A B a.0 b.0, subst (λ (ps : List Prefix). IsStrictlySortedBy prefix_cmp ps) (sym (keys_both A B)) (sorted_both (keys_of A) (keys_of B) a.1 b.1 x y))

apart_families : (p q : Prefix) → p.family ≡ V4 → q.family ≡ V6 → same_prefix p q ≡ false
apart_families p q e f = ap (λ b. b && same_bits p.bits q.bits) (ap (λ (g : Family). same_family g q.family) e ∙ ap (same_family V4) f)

all_apart : (p : Prefix) (qs : List Prefix) → p.family ≡ V4 → AllOf V6 qs → AllByRecursion (λ q. same_prefix p q ≡ false) qs
all_apart p [] e a = tt
all_apart p (q ∷ qs) e a = (apart_families p q e a.0, all_apart p qs e a.1)

distinct_both : (ps qs : List Prefix) → IsDistinct same_prefix ps → IsDistinct same_prefix qs → AllOf V4 ps → AllOf V6 qs → IsDistinct same_prefix (ps ++ qs)
unfolding IsDistinct
distinct_both [] qs s t a b = t
distinct_both (p ∷ ps) qs s t a b = (all_append (λ q. same_prefix p q ≡ false) ps qs s.0 (all_apart p qs a.0 b), distinct_both ps qs s.1 t a.1 b)

pub are_both : (A B : Entries) → AreEntries A → AreEntries B → AllOf V4 (keys_of A) → AllOf V6 (keys_of B) → AreEntries (A ++ B)
are_both A B a b x y = (all_both IsPrefix A B a.0 b.0, subst (λ (ps : List Prefix). IsDistinct same_prefix ps) (sym (keys_both A B)) (distinct_both (keys_of A) (keys_of B) a.1 b.1 x y))

-- ---- what is found in tables of both families

pub hop_none : (f : Family) (p : Prefix) (L : Entries) → AllOf f (keys_of L) → same_family p.family f ≡ false → entry_hop_at p L ≡ None
hop_none f p [] a n = refl
hop_none f p (e ∷ L) a n =
    ap (λ b. cond (b && same_bits p.bits e.0.bits) (Some e.1) (entry_hop_at p L)) (ap (same_family p.family) a.0 ∙ n) ∙ hop_none f p L a.1 n

hop_append : (p : Prefix) (A B : Entries) → entry_hop_at p (A ++ B) ≡ first (entry_hop_at p A) (entry_hop_at p B)
hop_append p [] B = refl
hop_append p (e ∷ A) B = by_test (same_prefix p e.0) (hop_append p A B)
  where
    by_test : (b : Bool) → entry_hop_at p (A ++ B) ≡ first (entry_hop_at p A) (entry_hop_at p B) → cond b (Some e.1) (entry_hop_at p (A ++ B)) ≡ first (cond b (Some e.1) (entry_hop_at p A)) (entry_hop_at p B)
    by_test true ih = refl
    by_test false ih = ih

first_none : (o : Option ℕ) → first o None ≡ o
first_none None = refl
first_none (Some h) = refl

pub hop_low : (p : Prefix) (A B : Entries) → p.family ≡ V4 → AllOf V6 (keys_of B) → entry_hop_at p (A ++ B) ≡ entry_hop_at p A
hop_low p A B e b = hop_append p A B ∙ (ap (first (entry_hop_at p A)) (hop_none V6 p B b (ap (λ (g : Family). same_family g V6) e)) ∙ first_none (entry_hop_at p A))

pub hop_high : (p : Prefix) (A B : Entries) → p.family ≡ V6 → AllOf V4 (keys_of A) → entry_hop_at p (A ++ B) ≡ entry_hop_at p B
hop_high p A B e a = hop_append p A B ∙ ap (λ o. first o (entry_hop_at p B)) (hop_none V4 p A a (ap (λ (g : Family). same_family g V4) e))

-- ---- the changes between tables of both families are those of IPv4, then those of IPv6

pub between_both : (A B A' B' : Entries) → Placed A → Placed B → Placed A' → Placed B' → AllOf V4 (keys_of A) → AllOf V6 (keys_of B) → AllOf V4 (keys_of A') → AllOf V6 (keys_of B')
    → between (A ++ B) (A' ++ B') ≡ between A A' ++ between B B'
between_both A B A' B' a b a' b' x y x' y' =
    let xs = between A A' in
    let ys = between B B' in
    let whole = placed_both A B a b x y in
    let whole' = placed_both A' B' a' b' x' y' in
    let parts : map place_of (xs ++ ys) ≡ map place_of xs ++ map place_of ys = map-append place_of xs ys in
    same_changes (between (A ++ B) (A' ++ B')) (xs ++ ys) (in_places (A ++ B) (A' ++ B'))
    (subst (λ (ps : List Prefix). IsStrictlySortedBy prefix_cmp ps) (sym parts) (sorted_both (map place_of xs) (map place_of ys) (in_places A A') (in_places B B') (all_between (λ p. p.family ≡ V4) A A' x x') (all_between (λ p. p.family ≡ V6) B B' y y')))
    (all_between IsPrefix (A ++ B) (A' ++ B') whole.0 whole'.0)
    (subst (λ (ps : List Prefix). AllByRecursion IsPrefix ps) (sym parts) (all_append IsPrefix (map place_of xs) (map place_of ys) (all_between IsPrefix A A' a.0 a'.0) (all_between IsPrefix B B' b.0 b'.0)))
    (λ p. each_at (A ++ B) (A' ++ B') p (placed_are (A ++ B) whole) (placed_are (A' ++ B') whole') ∙ (by_family p p.family refl ∙ sym (filter-append (λ c. same_prefix p (place_of c)) xs ys)))
  where
    by_family : (p : Prefix) (g : Family) → p.family ≡ g → change_at p (entry_hop_at p (A ++ B)) (entry_hop_at p (A' ++ B')) ≡ at p (between A A') ++ at p (between B B')
    by_family p V4 e =
        let none : at p (between B B') ≡ [] =
        each_at B B' p (placed_are B b) (placed_are B' b')
        ∙ (ap (λ o. change_at p o (entry_hop_at p B')) (hop_none V6 p B y (ap (λ (g : Family). same_family g V6) e)) ∙ ap (change_at p None) (hop_none V6 p B' y' (ap (λ (g : Family). same_family g V6) e)))
        in
        ap (λ o. change_at p o (entry_hop_at p (A' ++ B'))) (hop_low p A B e y)
        ∙ (ap (change_at p (entry_hop_at p A)) (hop_low p A' B' e y')
        ∙ (sym (each_at A A' p (placed_are A a) (placed_are A' a')) ∙ (sym (append-nil (at p (between A A'))) ∙ ap (λ z. at p (between A A') ++ z) (sym none))))
    by_family p V6 e =
        let none : at p (between A A') ≡ [] =
        each_at A A' p (placed_are A a) (placed_are A' a')
        ∙ (ap (λ o. change_at p o (entry_hop_at p A')) (hop_none V4 p A x (ap (λ (g : Family). same_family g V4) e)) ∙ ap (change_at p None) (hop_none V4 p A' x' (ap (λ (g : Family). same_family g V4) e)))
        in
        ap (λ o. change_at p o (entry_hop_at p (A' ++ B'))) (hop_high p A B e x)
        ∙ (ap (change_at p (entry_hop_at p B)) (hop_high p A' B' e x') ∙ (sym (each_at B B' p (placed_are B b) (placed_are B' b')) ∙ ap (λ z. z ++ at p (between B B')) (sym none)))

-- ---- a repair is in the tables of one family alone

family_append : (f : Family) (A B : Entries) → of_family f (A ++ B) ≡ of_family f A ++ of_family f B
family_append f [] B = refl
family_append f (e ∷ A) B = by_test (same_family f e.0.family) (family_append f A B)
  where
    by_test : (b : Bool) → of_family f (A ++ B) ≡ of_family f A ++ of_family f B → cond b (entry e.0.bits e.1 ∷ of_family f (A ++ B)) (of_family f (A ++ B)) ≡ cond b (entry e.0.bits e.1 ∷ of_family f A) (of_family f A) ++ of_family f B
    by_test true ih = ap (λ (L : Table). entry e.0.bits e.1 ∷ L) ih
    by_test false ih = ih

family_none : (f g : Family) (L : Entries) → AllOf g (keys_of L) → same_family f g ≡ false → of_family f L ≡ []
family_none f g [] a n = refl
family_none f g (e ∷ L) a n = ap (λ b. cond b (entry e.0.bits e.1 ∷ of_family f L) (of_family f L)) (ap (same_family f) a.0 ∙ n) ∙ family_none f g L a.1 n

pub mended_same : (R R' T T' : Entries) (p : Prefix) → of_family p.family R ≡ of_family p.family R' → of_family p.family T ≡ of_family p.family T' → region_aggregate R p T ≡ region_aggregate R' p T'
mended_same R R' T T' p r t =
    ap (λ (L : Table). of_table p.family (aggregate (width p.family) L p.bits (above p.bits (of_family p.family T) 0) (of_family p.family T))) r
    ∙ ap (λ (L : Table). of_table p.family (aggregate (width p.family) (of_family p.family R') p.bits (above p.bits L 0) L)) t

pub table_of : (f : Family) (L : Table) → AllOf f (keys_of (of_table f L))
table_of f [] = tt
table_of f (e ∷ L) = (refl, table_of f L)

pub patched_of : (R T : Entries) (p : Prefix) (f : Family) → p.family ≡ f → AllOf f (keys_of T) → AllOf f (keys_of (patch_of R p T))
unfolding patch_of
patched_of R T p f e a =
    let m : AllOf f (keys_of (region_aggregate R p T)) = subst (λ (g : Family). AllOf g (keys_of (region_aggregate R p T))) e (table_of p.family (aggregate (width p.family) (of_family p.family R) p.bits (above p.bits (of_family p.family T) 0) (of_family p.family T))) in
    all_folded (λ q. q.family ≡ f) (entries_outside p T ++ region_aggregate R p T) [] (all_both (λ q. q.family ≡ f) (entries_outside p T) (region_aggregate R p T) (all_filter (λ d. not (is_within d.0 p)) (λ q. q.family ≡ f) T a) m) tt

module _ (R R' A B : Entries) (p : Prefix) (is : IsPrefix p) (a : Placed A) (b : Placed B) (x : AllOf V4 (keys_of A)) (y : AllOf V6 (keys_of B)) (r : of_family p.family R ≡ of_family p.family R') where
  pub patched_low : p.family ≡ V4 → patch_of R p (A ++ B) ≡ patch_of R' p A ++ B
  patched_low e =
      let whole = placed_both A B a b x y in
      let left = placed_patched R (A ++ B) p is whole in
      let right = placed_both (patch_of R' p A) B (placed_patched R' A p is a) b (patched_of R' A p V4 e x) y in
      same_entries prefix_key (patch_of R p (A ++ B)) (patch_of R' p A ++ B) left.1 right.1 left.0 right.0 (λ q. hop_patched R (A ++ B) p q is whole ∙ by_family q q.family refl)
    where
      same : of_family p.family (A ++ B) ≡ of_family p.family A
      same = family_append p.family A B ∙ (ap (λ (L : Table). of_family p.family A ++ L) (family_none p.family V6 B y (ap (λ (g : Family). same_family g V6) e)) ∙ append-nil (of_family p.family A))

      by_family : (q : Prefix) (g : Family) → q.family ≡ g → cond (is_within q p) (entry_hop_at q (region_aggregate R p (A ++ B))) (entry_hop_at q (A ++ B)) ≡ entry_hop_at q (patch_of R' p A ++ B)
      by_family q V4 f =
          ap (λ (M : Entries). cond (is_within q p) (entry_hop_at q M) (entry_hop_at q (A ++ B))) (mended_same R R' (A ++ B) A p r same)
          ∙ (ap (cond (is_within q p) (entry_hop_at q (region_aggregate R' p A))) (hop_low q A B f y) ∙ (sym (hop_patched R' A p q is a) ∙ sym (hop_low q (patch_of R' p A) B f y)))
      by_family q V6 f =
          ap (λ c. cond (c && begins p.bits q.bits) (entry_hop_at q (region_aggregate R p (A ++ B))) (entry_hop_at q (A ++ B))) (ap (λ (g : Family). same_family g q.family) e ∙ ap (same_family V4) f)
          ∙ (hop_high q A B f x ∙ sym (hop_high q (patch_of R' p A) B f (patched_of R' A p V4 e x)))

  pub patched_high : p.family ≡ V6 → patch_of R p (A ++ B) ≡ A ++ patch_of R' p B
  patched_high e =
      let whole = placed_both A B a b x y in
      let left = placed_patched R (A ++ B) p is whole in
      let right = placed_both A (patch_of R' p B) a (placed_patched R' B p is b) x (patched_of R' B p V6 e y) in
      same_entries prefix_key (patch_of R p (A ++ B)) (A ++ patch_of R' p B) left.1 right.1 left.0 right.0 (λ q. hop_patched R (A ++ B) p q is whole ∙ by_family q q.family refl)
    where
      same : of_family p.family (A ++ B) ≡ of_family p.family B
      same = family_append p.family A B ∙ ap (λ (L : Table). L ++ of_family p.family B) (family_none p.family V4 A x (ap (λ (g : Family). same_family g V4) e))

      by_family : (q : Prefix) (g : Family) → q.family ≡ g → cond (is_within q p) (entry_hop_at q (region_aggregate R p (A ++ B))) (entry_hop_at q (A ++ B)) ≡ entry_hop_at q (A ++ patch_of R' p B)
      by_family q V6 f =
          ap (λ (M : Entries). cond (is_within q p) (entry_hop_at q M) (entry_hop_at q (A ++ B))) (mended_same R R' (A ++ B) B p r same)
          ∙ (ap (cond (is_within q p) (entry_hop_at q (region_aggregate R' p B))) (hop_high q A B f x) ∙ (sym (hop_patched R' B p q is b) ∙ sym (hop_high q A (patch_of R' p B) f x)))
      by_family q V4 f =
          ap (λ c. cond (c && begins p.bits q.bits) (entry_hop_at q (region_aggregate R p (A ++ B))) (entry_hop_at q (A ++ B))) (ap (λ (g : Family). same_family g q.family) e ∙ ap (same_family V6) f)
          ∙ (hop_low q A B f y ∙ sym (hop_low q A (patch_of R' p B) f (patched_of R' B p V6 e y)))
