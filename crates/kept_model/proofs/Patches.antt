-- The repaired table of a family is the patch: it answers as the routes, and none with the same entries outside has fewer.
use Rattle.std.proofs.Common.{◌≡◌, ◌≢◌, ℕ, ◌≤◌, List, [], ◌∷◌, ◌++◌, Bool, true, false, cond, Option, Some, length, refl, sym, ap, subst, ◌∙◌, arith}
use Rattle.std.specs.Prelude.{◌&&◌}
use Rattle.std.specs.List.{AllByRecursion, IsDistinct}
use Rattle.std.specs.Map.{keys_of}
use Rattle.table_model.specs.Bits.{begins, same_bits}
use Rattle.table_model.specs.Width.{width}
use Rattle.table_model.specs.Address.{Prefix, IsPrefix, same_family, same_prefix}
use Rattle.table_model.specs.declared.family.Family.{Family}
use Rattle.table_model.proofs.SamePrefix.{same_family_is, same_family_itself, same_bits_itself}
use Rattle.table_model.specs.Table.{Entry, Table, lpm, Distinct, IsTable, Alike, root, half}
use Rattle.table_model.specs.Entries.{Entries, of_family, of_table}
use Rattle.table_model.proofs.Cut.{entry}
use Rattle.table_model.specs.Regions.{entry_at, SameEntries, SameOutside, above}
use Rattle.table_model.specs.Least.{aggregate, patch}
use Rattle.table_model.proofs.Patch.{patch_table, patch_alike, patch_least, begins_rest, same_length}
use Rattle.table_model.proofs.Same.{cut_nil, same_answers, patch_keeps, patch_repairs}
use Rattle.table_model.specs.Halves.{is_within}
use Rattle.kept_model.specs.Between.{AreEntries, entry_hop_at}
use Rattle.kept_model.proofs.Held.{Placed}
use Rattle.kept_model.proofs.Alike.{hop_in_replaced, replaced_placed, placed_are}
use Rattle.kept_model.specs.Patched.{region_aggregate, patch_of}
use Rattle.kept_model.proofs.Repairs.{mended_entries, mended_within}

-- ---- a family's entry at a prefix

own_step : (p q : List Bool) (h : ℕ) (L : Table) → entry_at p (entry q h ∷ L) ≡ cond (same_bits p q) (Some h) (entry_at p L)
unfolding same_bits
own_step [] [] h L = refl
own_step [] (b ∷ q) h L = refl
own_step (true ∷ p) [] h L = refl
own_step (false ∷ p) [] h L = refl
own_step (true ∷ p) (true ∷ q) h L = own_step p q h (half true L)
own_step (false ∷ p) (false ∷ q) h L = own_step p q h (half false L)
own_step (true ∷ p) (false ∷ q) h L = refl
own_step (false ∷ p) (true ∷ q) h L = refl

pub table_hop : (f : Family) (q : List Bool) (L : Table) → entry_hop_at (record { family = f; bits = q }) (of_table f L) ≡ entry_at q L
table_hop f q [] = sym (ap root (cut_nil q))
table_hop f q (e ∷ L) =
    ap (λ b. cond (b && same_bits q e.prefix) (Some e.hop) (entry_hop_at (record { family = f; bits = q }) (of_table f L))) (same_family_itself f)
    ∙ (ap (cond (same_bits q e.prefix) (Some e.hop)) (table_hop f q L) ∙ sym (own_step q e.prefix e.hop L))

pub family_hop : (f : Family) (q : List Bool) (E : Entries) → entry_at q (of_family f E) ≡ entry_hop_at (record { family = f; bits = q }) E
family_hop f q [] = ap root (cut_nil q)
family_hop f q (e ∷ E) = by_family (same_family f e.0.family) (family_hop f q E)
  where
    rest : Option ℕ
    rest = entry_hop_at (record { family = f; bits = q }) E

    by_family : (b : Bool) → entry_at q (of_family f E) ≡ rest → entry_at q (cond b (entry e.0.bits e.1 ∷ of_family f E) (of_family f E)) ≡ cond (b && same_bits q e.0.bits) (Some e.1) rest
    by_family true ih = own_step q e.0.bits e.1 (of_family f E) ∙ ap (cond (same_bits q e.0.bits) (Some e.1)) ih
    by_family false ih = ih

-- ---- the table of a family

apart : (f : Family) (q : List Bool) (g : Family) (E : Entries) → same_family f g ≡ true → AllByRecursion (λ r. same_prefix (record { family = g; bits = q }) r ≡ false) (keys_of E) → AllByRecursion (λ (e : Entry). q ≢ e.prefix) (of_family f E)
apart f q g [] s a = tt
apart f q g (e ∷ E) s a = by_family (same_family f e.0.family) refl (apart f q g E s a.1)
  where
    differ : same_family f e.0.family ≡ true → q ≢ e.0.bits
    differ t n =
        let x : g ≡ e.0.family = sym (same_family_is f g s) ∙ same_family_is f e.0.family t in
        let y : same_prefix (record { family = g; bits = q }) e.0 ≡ true =
        ap (λ (h : Family). same_family g h && same_bits q e.0.bits) (sym x) ∙ (ap (λ b. b && same_bits q e.0.bits) (same_family_itself g) ∙ (ap (same_bits q) (sym n) ∙ same_bits_itself q))
        in
        let z : same_prefix (record { family = g; bits = q }) e.0 ≡ false = a.0 in cc

    by_family : (b : Bool) → same_family f e.0.family ≡ b → AllByRecursion (λ (d : Entry). q ≢ d.prefix) (of_family f E) → AllByRecursion (λ (d : Entry). q ≢ d.prefix) (cond b (entry e.0.bits e.1 ∷ of_family f E) (of_family f E))
    by_family true t ih = (differ t, ih)
    by_family false t ih = ih

distinct : (f : Family) (E : Entries) → IsDistinct same_prefix (keys_of E) → Distinct (of_family f E)
unfolding IsDistinct
distinct f [] d = tt
distinct f (e ∷ E) d = by_family (same_family f e.0.family) refl (distinct f E d.1)
  where
    by_family : (b : Bool) → same_family f e.0.family ≡ b → Distinct (of_family f E) → Distinct (cond b (entry e.0.bits e.1 ∷ of_family f E) (of_family f E))
    by_family true t ih = (apart f e.0.bits e.0.family E t d.0, ih)
    by_family false t ih = ih

short : (f : Family) (E : Entries) → AllByRecursion IsPrefix (keys_of E) → AllByRecursion (λ (e : Entry). length e.prefix ≤ width f) (of_family f E)
short f [] a = tt
short f (e ∷ E) a = by_family (same_family f e.0.family) refl (short f E a.1)
  where
    by_family : (b : Bool) → same_family f e.0.family ≡ b → AllByRecursion (λ (d : Entry). length d.prefix ≤ width f) (of_family f E) → AllByRecursion (λ (d : Entry). length d.prefix ≤ width f) (cond b (entry e.0.bits e.1 ∷ of_family f E) (of_family f E))
    by_family true t ih = (subst (λ (g : Family). length e.0.bits ≤ width g) (sym (same_family_is f e.0.family t)) a.0, ih)
    by_family false t ih = ih

pub family_table : (f : Family) (E : Entries) → AreEntries E → IsTable (width f) (of_family f E)
family_table f E a = (distinct f E a.1, short f E a.0)

-- ---- the repaired table's entries

pub hop_patched : (R T : Entries) (p q : Prefix) → IsPrefix p → Placed T → entry_hop_at q (patch_of R p T) ≡ cond (is_within q p) (entry_hop_at q (region_aggregate R p T)) (entry_hop_at q T)
unfolding patch_of
hop_patched R T p q x t = hop_in_replaced (λ r. is_within r p) q T (region_aggregate R p T) t (mended_entries R T p x) (mended_within R T p)

pub placed_patched : (R T : Entries) (p : Prefix) → IsPrefix p → Placed T → Placed (patch_of R p T)
unfolding patch_of
placed_patched R T p x t = replaced_placed (λ q. is_within q p) T (region_aggregate R p T) t (mended_entries R T p x).0

module _ (R T : Entries) (p : Prefix) (x : IsPrefix p) (t : Placed T) where
  of_patch : Table
  of_patch = patch (width p.family) (of_family p.family T) (of_family p.family R) p.bits

  same_patch : SameEntries (of_family p.family (patch_of R p T)) (patch (width p.family) (of_family p.family T) (of_family p.family R) p.bits)
  same_patch q =
      let f = p.family in
      family_hop f q (patch_of R p T) ∙ (hop_patched R T p (record { family = f; bits = q }) x t ∙ by_test (begins p.bits q) refl)
    where
      inside : (b : Bool) → begins p.bits q ≡ b → is_within (record { family = p.family; bits = q }) p ≡ b
      inside b e = ap (λ c. c && begins p.bits q) (same_family_itself p.family) ∙ e

      A : Table
      A = aggregate (width p.family) (of_family p.family R) p.bits (above p.bits (of_family p.family T) 0) (of_family p.family T)

      at_rest : (r : List Bool) → q ≡ p.bits ++ r → entry_at q A ≡ entry_at q (patch (width p.family) (of_family p.family T) (of_family p.family R) p.bits)
      at_rest r e =
          ap (λ z. entry_at z A) e ∙ (sym (patch_repairs (width p.family) (of_family p.family T) (of_family p.family R) p.bits r) ∙ ap (λ z. entry_at z (patch (width p.family) (of_family p.family T) (of_family p.family R) p.bits)) (sym e))

      by_test : (b : Bool) → begins p.bits q ≡ b
          → cond (is_within (record { family = p.family; bits = q }) p) (entry_hop_at (record { family = p.family; bits = q }) (region_aggregate R p T)) (entry_hop_at (record { family = p.family; bits = q }) T) ≡ entry_at q (patch (width p.family) (of_family p.family T) (of_family p.family R) p.bits)
      by_test true e =
          let r = begins_rest p.bits q e in
          ap (λ c. cond c (entry_hop_at (record { family = p.family; bits = q }) (region_aggregate R p T)) (entry_hop_at (record { family = p.family; bits = q }) T)) (inside true e) ∙ (table_hop p.family q A ∙ at_rest r.0 r.1)
      by_test false e =
          ap (λ c. cond c (entry_hop_at (record { family = p.family; bits = q }) (region_aggregate R p T)) (entry_hop_at (record { family = p.family; bits = q }) T)) (inside false e)
          ∙ (sym (family_hop p.family q T) ∙ sym (patch_keeps (width p.family) (of_family p.family T) (of_family p.family R) p.bits q e))

  pub patched_alike : ((a : List Bool) → length a ≡ width p.family → begins p.bits a ≡ false → lpm (of_family p.family T) a 0 ≡ lpm (of_family p.family R) a 0) → Alike (width p.family) (of_family p.family R) (of_family p.family (patch_of R p T))
  patched_alike h a l = patch_alike (width p.family) (of_family p.family T) (of_family p.family R) p.bits h a l ∙ sym (same_answers a (of_family p.family (patch_of R p T)) (patch (width p.family) (of_family p.family T) (of_family p.family R) p.bits) 0 same_patch)

  pub patched_least : (L : Entries) → AreEntries L → Alike (width p.family) (of_family p.family R) (of_family p.family L) → SameOutside p.bits (of_family p.family L) (of_family p.family T) → length (of_family p.family (patch_of R p T)) ≤ length (of_family p.family L)
  patched_least L a e o =
      let w = width p.family in
      let T' = of_family p.family T in
      let R' = of_family p.family R in
      let tt' = family_table p.family T (placed_are T t) in
      let n : length (of_family p.family (patch_of R p T)) ≡ length (patch w T' R' p.bits) = same_length w (of_family p.family (patch_of R p T)) (patch w T' R' p.bits) (family_table p.family (patch_of R p T) (placed_are (patch_of R p T) (placed_patched R T p x t))) (patch_table w T' R' p.bits x tt') same_patch in
      omega (arith, n, patch_least w T' R' (of_family p.family L) p.bits x tt' (family_table p.family L a) e o)

  -- the other family's entries stay
  pub patched_elsewhere : (g : Family) → same_family p.family g ≡ false → SameEntries (of_family g (patch_of R p T)) (of_family g T)
  patched_elsewhere g n q =
      family_hop g q (patch_of R p T)
      ∙ (hop_patched R T p (record { family = g; bits = q }) x t ∙ (ap (λ b. cond (b && begins p.bits q) (entry_hop_at (record { family = g; bits = q }) (region_aggregate R p T)) (entry_hop_at (record { family = g; bits = q }) T)) n ∙ sym (family_hop g q T)))
