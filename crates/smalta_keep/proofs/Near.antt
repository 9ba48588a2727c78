-- The nearest table of a family: its order, its changes back, and how far these reach.
use Rattle.std.proofs.Common.{◌≡◌, ◌+◌, ◌<◌, ℕ, zero, suc, List, [], ◌∷◌, ◌++◌, length, get_or, take, Bool, true, false, cond, Option, Some, None, nat_eq, map, refl, sym, ap, subst, ◌∙◌}
use Rattle.std.specs.List.{AllByRecursion}
use Rattle.std.specs.List.Sorted.{IsStrictlySortedBy}
use Rattle.std.specs.Map.{keys_of}
use Rattle.std.proofs.lemmas.Bool.{and_parts, and_from, eqb-true, eq-eqb}
use Rattle.std.proofs.lemmas.List.{map-append, take_more}
use Rattle.table_model.specs.Bits.{begins}
use Rattle.table_model.proofs.SamePrefix.{same_family_is, same_family_itself}
use Rattle.table_model.specs.Address.{Prefix, IsPrefix, same_prefix, same_family}
use Rattle.table_model.specs.Order.{prefix_cmp}
use Rattle.table_model.specs.Halves.{is_within}
use Rattle.table_model.specs.Width.{width}
use Rattle.table_model.specs.declared.family.Family.{Family}
use Rattle.table_model.specs.Table.{Table, IsTable, root, half, inherit, cut}
use Rattle.table_model.specs.Entries.{Entries, of_family, of_table}
use Rattle.table_model.specs.Changes.{Change, Add, Replace, Remove}
use Rattle.table_model.specs.Regions.{InOrder}
use Rattle.table_model.specs.Sets.{side, answers}
use Rattle.table_model.proofs.Both.{sorted_table}
use Rattle.table_model.proofs.Order.{order_join}
use Rattle.table_model.proofs.Patch.{begins_trans}
use Rattle.route_model.proofs.Places.{prefix_key}
use Rattle.kept_model.specs.Between.{place_of, entry_hop_at, change_at, between}
use Rattle.kept_model.proofs.Alike.{placed_are, same_changes, all_between}
use Rattle.kept_model.proofs.Places.{at, each_at, in_places}
use Rattle.kept_model.proofs.Patches.{family_hop}
use Rattle.kept_model.proofs.Repairs.{table_entries}
use Rattle.kept_model.proofs.Families.{table_of}
use Rattle.moves_model.specs.Sets.{inner_set, new_entry, near_of}
use Rattle.moves_model.specs.Nearest.{nearest}
use Rattle.moves_model.proofs.Near.{near_table}
use Rattle.moves_model.specs.Rows.{near_in}
use Rattle.fib_delta.specs.declared.change.Change as code
use Rattle.fib_delta.specs.Views.{change_as}
use Rattle.orig_tree.specs.Views.{InPlace, Labels}
use Rattle.orig_tree.proofs.Arena.{begins_self}
use Rattle.smalta_keep.specs.Back.{replaced_again, added_again, taken_back}
use Rattle.smalta_keep.specs.Known.{SameBeside}
use Rattle.smalta_keep.specs.Reach.{AreWithin}
use Rattle.smalta_keep.specs.Rooms.{AreOf}
use Rattle.smalta_keep.proofs.Knowing.{not_within}
use Rattle.smalta_keep.proofs.Tables.{between_of}

-- ---- its order

near_order : (d : ℕ) (f : List Bool → ℕ) (T : Table) (h : ℕ) → InOrder (near_of d f T h)
unfolding near_of IsStrictlySortedBy
near_order zero f T h = order_join (new_entry (inner_set zero f T) (root T) h) [] [] tt tt
near_order (suc d) f T h =
    let o = new_entry (inner_set (suc d) f T) (root T) h in
    order_join o _ _ (near_order d (side false f) (half false T) (inherit o h)) (near_order d (side true f) (half true T) (inherit o h))

pub near_placed : (f : Family) (R T : Entries) → InPlace (near_in f R T)
near_placed f R T =
    let w = width f in
    let g = answers (of_family f R) [] in
    let t : IsTable w (nearest w (of_family f R) (of_family f T)) = near_table w g (of_family f T) 0 in
    ((table_entries f (nearest w (of_family f R) (of_family f T)) t).0, sorted_table f (nearest w (of_family f R) (of_family f T)) t.1 (near_order w g (of_family f T) 0))

pub near_family : (f : Family) (R T : Entries) → AllByRecursion (λ (p : Prefix). p.family ≡ f) (keys_of (near_in f R T))
near_family f R T = table_of f (nearest (width f) (of_family f R) (of_family f T))

-- ---- changes back

same_place : (T : Entries) (c : Change) → place_of (taken_back T c) ≡ place_of c
same_place T (Add p h) = refl
same_place T (Replace p h) = by_hop (entry_hop_at p T)
  where
    by_hop : (o : Option ℕ) → place_of (replaced_again p o) ≡ p
    by_hop None = refl
    by_hop (Some g) = refl
same_place T (Remove p) = by_hop (entry_hop_at p T)
  where
    by_hop : (o : Option ℕ) → place_of (added_again p o) ≡ p
    by_hop None = refl
    by_hop (Some g) = refl

same_places : (T : Entries) (cs : List Change) → map place_of (map (taken_back T) cs) ≡ map place_of cs
same_places T [] = refl
same_places T (c ∷ cs) = ap (λ p. p ∷ map place_of (map (taken_back T) cs)) (same_place T c) ∙ ap (λ ps. place_of c ∷ ps) (same_places T cs)

back_at : (T : Entries) (p : Prefix) (cs : List Change) → at p (map (taken_back T) cs) ≡ map (taken_back T) (at p cs)
back_at T p [] = refl
back_at T p (c ∷ cs) =
    ap (λ q. cond (same_prefix p q) (taken_back T c ∷ at p (map (taken_back T) cs)) (at p (map (taken_back T) cs))) (same_place T c)
    ∙ (ap (λ ds. cond (same_prefix p (place_of c)) (taken_back T c ∷ ds) ds) (back_at T p cs) ∙ by_test (same_prefix p (place_of c)))
  where
    by_test : (b : Bool) → cond b (taken_back T c ∷ map (taken_back T) (at p cs)) (map (taken_back T) (at p cs)) ≡ map (taken_back T) (cond b (c ∷ at p cs) (at p cs))
    by_test true = refl
    by_test false = refl

same_number : (g h : ℕ) → nat_eq g h ≡ nat_eq h g
same_number g h = by_tests (nat_eq g h) (nat_eq h g) refl refl
  where
    by_tests : (a b : Bool) → nat_eq g h ≡ a → nat_eq h g ≡ b → a ≡ b
    by_tests true true s t = refl
    by_tests false false s t = refl
    by_tests true false s t = sym (eq-eqb h g (sym (eqb-true g h s))) ∙ t
    by_tests false true s t = sym s ∙ eq-eqb g h (sym (eqb-true h g t))

one_back : (T : Entries) (p : Prefix) (a b : Option ℕ) → entry_hop_at p T ≡ a → map (taken_back T) (change_at p a b) ≡ change_at p b a
one_back T p None None e = refl
one_back T p None (Some h) e = refl
one_back T p (Some g) None e = ap (λ o. added_again p o ∷ []) e
one_back T p (Some g) (Some h) e = by_test (nat_eq g h) refl
  where
    by_test : (b : Bool) → nat_eq g h ≡ b → map (taken_back T) (cond b [] (Replace p h ∷ [])) ≡ cond (nat_eq h g) [] (Replace p g ∷ [])
    by_test true t = ap (λ b. cond b [] (Replace p g ∷ [])) (sym t ∙ same_number g h)
    by_test false t = ap (λ o. replaced_again p o ∷ []) e ∙ ap (λ b. cond b [] (Replace p g ∷ [])) (sym t ∙ same_number g h)

pub all_back : (T N : Entries) → InPlace T → InPlace N → map (taken_back T) (between T N) ≡ between N T
all_back T N t n =
    let cs = between T N in
    let a = placed_are T t in
    let b = placed_are N n in
    let s = same_places T cs in
    same_changes (map (taken_back T) cs) (between N T) (subst (λ (ps : List Prefix). IsStrictlySortedBy prefix_cmp ps) (sym s) (in_places T N)) (in_places N T)
    (subst (λ (ps : List Prefix). AllByRecursion IsPrefix ps) (sym s) (all_between IsPrefix T N t.0 n.0)) (all_between IsPrefix N T n.0 t.0)
    (λ p. back_at T p cs ∙ (ap (map (taken_back T)) (each_at T N p a b) ∙ (one_back T p (entry_hop_at p T) (entry_hop_at p N) refl ∙ sym (each_at N T p b a))))

-- ---- how far changes reach

missing : (p q : Prefix) (cs : List Change) → AreWithin p cs → is_within q p ≡ false → at q cs ≡ []
missing p q [] w n = refl
missing p q (c ∷ cs) w n = by_test (same_prefix q (place_of c)) refl (missing p q cs w.1 n)
  where
    by_test : (b : Bool) → same_prefix q (place_of c) ≡ b → at q cs ≡ [] → cond b (c ∷ at q cs) (at q cs) ≡ []
    by_test true t ih =
        let is : true ≡ false = sym w.0 ∙ (ap (λ (x : Prefix). is_within x p) (sym (prefix_key.same q (place_of c) t)) ∙ n) in absurd cc
    by_test false t ih = ih

nothing : (p : Prefix) (a b : Option ℕ) → change_at p a b ≡ [] → a ≡ b
nothing p None None e = refl
nothing p None (Some h) e = cc
nothing p (Some g) None e = cc
nothing p (Some g) (Some h) e = by_test (nat_eq g h) refl e
  where
    by_test : (t : Bool) → nat_eq g h ≡ t → cond t [] (Replace p h ∷ []) ≡ [] → Some g ≡ Some h
    by_test true t e = ap Some (eqb-true g h t)
    by_test false t e = cc

pub beside_changes : (p : Prefix) (f : Family) (T N : Entries) → InPlace T → InPlace N → AreWithin p (between T N) → SameBeside (Some p) f T N
beside_changes p f T N t n w q x =
    let a : Prefix = record { family = f; bits = q } in
    family_hop f q T ∙ (nothing a (entry_hop_at a T) (entry_hop_at a N) (sym (each_at T N a (placed_are T t) (placed_are N n)) ∙ missing p a (between T N) w (not_within p f q x)) ∙ sym (family_hop f q N))

within_through : (p q r : Prefix) → is_within p q ≡ true → is_within q r ≡ true → is_within p r ≡ true
within_through p q r a b =
    let v = and_parts (same_family q.family p.family) (begins q.bits p.bits) a in
    let w = and_parts (same_family r.family q.family) (begins r.bits q.bits) b in
    and_from (same_family r.family p.family) (begins r.bits p.bits) (ap (same_family r.family) (sym (same_family_is q.family p.family v.0)) ∙ w.0) (begins_trans r.bits q.bits p.bits w.1 v.1)

pub within_itself : (p : Prefix) → is_within p p ≡ true
within_itself p = and_from (same_family p.family p.family) (begins p.bits p.bits) (same_family_itself p.family) (begins_self p.bits)

all_within : (p q : Prefix) (cs : List Change) → is_within p q ≡ true → AreWithin p cs → AreWithin q cs
all_within p q [] w a = tt
all_within p q (c ∷ cs) w a = (within_through (place_of c) p q a.0 w, all_within p q cs w a.1)

one_more : (P : Change → Type 0) (cs : List Change) (c : Change) → AllByRecursion P cs → P c → AllByRecursion P (cs ++ c ∷ [])
one_more P [] c a x = (x, tt)
one_more P (d ∷ cs) c a x = (a.0, one_more P cs c a.1 x)

pub within_more : (p q : Prefix) (xs : List code.Change) (i : ℕ) (x : code.Change) → i < length xs → x ≡ get_or xs i x → is_within p q ≡ true → AreWithin p (map change_as (take i xs)) → is_within (place_of (change_as x)) q ≡ true
    → AreWithin q (map change_as (take (i + 1) xs))
within_more p q xs i x l e w a h =
    let step : map change_as (take (i + 1) xs) ≡ map change_as (take i xs) ++ (change_as x ∷ []) =
    ap (map change_as) (take_more xs i x l ∙ ap (λ z. take i xs ++ (z ∷ [])) (sym e)) ∙ map-append change_as (take i xs) (x ∷ [])
    in
    subst (λ (cs : List Change). AreWithin q cs) (sym step) (one_more (λ c. is_within (place_of c) q ≡ true) (map change_as (take i xs)) (change_as x) (all_within p q (map change_as (take i xs)) w a) h)

-- ---- one change back

pub back_more : (T : Entries) (ys xs : List code.Change) (i : ℕ) (x y : code.Change) → i < length xs → x ≡ get_or xs i x → map change_as ys ≡ map (taken_back T) (map change_as (take i xs)) → change_as y ≡ taken_back T (change_as x)
    → map change_as (ys ++ y ∷ []) ≡ map (taken_back T) (map change_as (take (i + 1) xs))
back_more T ys xs i x y l e a h =
    let step : map change_as (take (i + 1) xs) ≡ map change_as (take i xs) ++ (change_as x ∷ []) =
    ap (map change_as) (take_more xs i x l ∙ ap (λ z. take i xs ++ (z ∷ [])) (sym e)) ∙ map-append change_as (take i xs) (x ∷ [])
    in
    map-append change_as ys (y ∷ []) ∙ (ap (λ cs. cs ++ (change_as y ∷ [])) a
    ∙ (ap (λ z. map (taken_back T) (map change_as (take i xs)) ++ (z ∷ [])) h ∙ (sym (map-append (taken_back T) (map change_as (take i xs)) (change_as x ∷ [])) ∙ ap (map (taken_back T)) (sym step))))

pub entry_hop : (T : Entries) (p : Prefix) (f : Family) (L : Table) (o : Option ℕ) → p.family ≡ f → o ≡ root L → L ≡ cut p.bits (of_family f T) → o ≡ entry_hop_at p T
entry_hop T p f L o e r c = r ∙ (ap root c ∙ (family_hop f p.bits T ∙ ap (λ (g : Family). entry_hop_at (record { family = g; bits = p.bits }) T) (sym e)))

-- the changes there and back are of the tree's family
pub near_of_family : (k : Labels) (E : Table) → of_table k.family E ≡ k.entries → AreOf k.family (between k.entries (near_in k.family k.routes k.entries)) × AreOf k.family (between (near_in k.family k.routes k.entries) k.entries)
near_of_family k E e =
    let a = subst (λ (L : Entries). AllByRecursion (λ (q : Prefix). q.family ≡ k.family) (keys_of L)) e (table_of k.family E) in
    let N = near_in k.family k.routes k.entries in
    let b = near_family k.family k.routes k.entries in
    (between_of k.family k.entries N a b, between_of k.family N k.entries b a)
