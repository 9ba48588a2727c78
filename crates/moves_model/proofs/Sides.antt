-- Changes of one family, made in a table that has entries of the other beside it.
use Rattle.std.proofs.Common.{◌≡◌, ℕ, List, [], ◌∷◌, ◌++◌, Bool, true, false, not, cond, Option, Some, None, refl, sym, ap, subst, ◌∙◌}
use Rattle.std.specs.Prelude.{is_some, ◌&&◌}
use Rattle.std.specs.List.{AllByRecursion}
use Rattle.std.specs.Map.{keys_of, remove_entry}
use Rattle.std.specs.Option.{option_and_then}
use Rattle.table_model.specs.Bits.{same_bits}
use Rattle.table_model.specs.Address.{Prefix, IsPrefix, same_family, same_prefix}
use Rattle.table_model.specs.Order.{prefix_cmp}
use Rattle.table_model.specs.declared.family.Family.{Family}
use Rattle.table_model.specs.declared.family.Family.TheVariants.{V4, V6}
use Rattle.table_model.proofs.SamePrefix.{same_family_is}
use Rattle.table_model.specs.Entries.{Entries, with_entry}
use Rattle.table_model.specs.Changes.{Change, Add, Replace, Remove, after_change, after_changes}
use Rattle.table_model.proofs.Sums.{all_placed}
use Rattle.route_model.proofs.Keyed.{all_cut, lookup-cut, lookup-put, same_entries, sorted_cut, sorted_put}
use Rattle.route_model.proofs.Places.{prefix_key}
use Rattle.kept_model.specs.Between.{entry_hop_at, place_of}
use Rattle.kept_model.proofs.Held.{Placed}
use Rattle.kept_model.proofs.Families.{AllOf, hop_low, hop_high, placed_both}

-- ---- one change: whether it is possible, and what it makes

abbrev possible : Change → Option ℕ → Bool
possible (Add p h) o = not (is_some o)
possible (Replace p h) o = is_some o
possible (Remove p) o = is_some o

abbrev made : Change → Entries → Entries
made (Add p h) L = with_entry L (p, h)
made (Replace p h) L = with_entry L (p, h)
made (Remove p) L = remove_entry (same_prefix p) L

abbrev held_after : Change → Option ℕ
held_after (Add p h) = Some h
held_after (Replace p h) = Some h
held_after (Remove p) = None

change_is : (c : Change) (L : Entries) → after_change c L ≡ cond (possible c (entry_hop_at (place_of c) L)) (Some (made c L)) None
change_is (Add p h) L = by_test (is_some (entry_hop_at p L))
  where
    by_test : (b : Bool) → cond b None (Some (with_entry L (p, h))) ≡ cond (not b) (Some (with_entry L (p, h))) None
    by_test true = refl
    by_test false = refl
change_is (Replace p h) L = refl
change_is (Remove p) L = refl

made_hop : (c : Change) (q : Prefix) (L : Entries) → Placed L → IsPrefix (place_of c) → entry_hop_at q (made c L) ≡ cond (same_prefix q (place_of c)) (held_after c) (entry_hop_at q L)
made_hop (Add p h) q L l x = lookup-put prefix_key q L p h l.0 x
made_hop (Replace p h) q L l x = lookup-put prefix_key q L p h l.0 x
made_hop (Remove p) q L l x = lookup-cut prefix_key q p L l.1

made_placed : (c : Change) (L : Entries) → Placed L → IsPrefix (place_of c) → Placed (made c L)
made_placed (Add p h) L l x = (all_placed IsPrefix L p h l.0 x, sorted_put prefix_key L p h l.1)
made_placed (Replace p h) L l x = (all_placed IsPrefix L p h l.0 x, sorted_put prefix_key L p h l.1)
made_placed (Remove p) L l x = (all_cut (same_prefix p) IsPrefix L l.0, sorted_cut prefix_cmp (same_prefix p) L l.1)

made_all_of : (c : Change) (f : Family) (L : Entries) → AllOf f (keys_of L) → (place_of c).family ≡ f → AllOf f (keys_of (made c L))
made_all_of (Add p h) f L a e = all_placed (λ q. q.family ≡ f) L p h a e
made_all_of (Replace p h) f L a e = all_placed (λ q. q.family ≡ f) L p h a e
made_all_of (Remove p) f L a e = all_cut (same_prefix p) (λ q. q.family ≡ f) L a

-- ---- entries beside those of the family

-- What a table of the family is with the other's entries beside it.
pub record Beside (f : Family) (side : Entries → Entries) : Type 0 where
  pub placed : (L : Entries) → Placed L → AllOf f (keys_of L) → Placed (side L)
  pub own : (q : Prefix) (L : Entries) → AllOf f (keys_of L) → q.family ≡ f → entry_hop_at q (side L) ≡ entry_hop_at q L
  pub other : (q : Prefix) (L M : Entries) → AllOf f (keys_of L) → AllOf f (keys_of M) → same_family q.family f ≡ false → entry_hop_at q (side L) ≡ entry_hop_at q (side M)

apart : (q p : Prefix) (f : Family) → p.family ≡ f → same_family q.family f ≡ false → same_prefix q p ≡ false
apart q p f e n = ap (λ b. b && same_bits q.bits p.bits) (ap (same_family q.family) e ∙ n)

pub below : (B : Entries) → Placed B → AllOf V6 (keys_of B) → Beside V4 (λ A. A ++ B)
below B b y = record {
  placed = λ A a x. placed_both A B a b x y;
  own = λ q A x e. hop_low q A B e y;
  other = λ q A M x z n. other q A M x z n q.family refl;
}
  where
    other : (q : Prefix) (A M : Entries) → AllOf V4 (keys_of A) → AllOf V4 (keys_of M) → same_family q.family V4 ≡ false → (g : Family) → q.family ≡ g → entry_hop_at q (A ++ B) ≡ entry_hop_at q (M ++ B)
    other q A M x z n V4 e = let t : same_family V4 V4 ≡ false = ap (λ (g : Family). same_family g V4) (sym e) ∙ n in absurd cc
    other q A M x z n V6 e = hop_high q A B e x ∙ sym (hop_high q M B e z)

pub above : (A : Entries) → Placed A → AllOf V4 (keys_of A) → Beside V6 (λ B. A ++ B)
above A a x = record {
  placed = λ B b y. placed_both A B a b x y;
  own = λ q B y e. hop_high q A B e x;
  other = λ q B M y z n. other q B M y z n q.family refl;
}
  where
    other : (q : Prefix) (B M : Entries) → AllOf V6 (keys_of B) → AllOf V6 (keys_of M) → same_family q.family V6 ≡ false → (g : Family) → q.family ≡ g → entry_hop_at q (A ++ B) ≡ entry_hop_at q (A ++ M)
    other q B M y z n V6 e = let t : same_family V6 V6 ≡ false = ap (λ (g : Family). same_family g V6) (sym e) ∙ n in absurd cc
    other q B M y z n V4 e = hop_low q A B e y ∙ sym (hop_low q A M e z)

-- ---- changes of the family

-- the changes are at prefixes of the family
abbrev pub AreAt : Family → List Change → Type 0
AreAt f cs = AllByRecursion (λ c. IsPrefix (place_of c) × ((place_of c).family ≡ f)) cs

-- the same changes make the same of the family's table, whatever is beside it
pub record MakesBeside (f : Family) (side : Entries → Entries) (cs : List Change) (L M : Entries) : Type 0 where
  pub makes : (more : List Change) → after_changes (cs ++ more) (side L) ≡ after_changes more (side M)
  pub placed : Placed M
  pub all_of : AllOf f (keys_of M)

module _ (f : Family) (side : Entries → Entries) (beside : Beside f side) where
  made_beside : (c : Change) (L : Entries) → IsPrefix (place_of c) → (place_of c).family ≡ f → Placed L → AllOf f (keys_of L) → made c (side L) ≡ side (made c L)
  made_beside c L x e l a =
      let p = place_of c in
      let M = made c L in
      let m = made_placed c L l x in
      let b = made_all_of c f L a e in
      let whole = beside.placed L l a in
      let left = made_placed c (side L) whole x in
      let right = beside.placed M m b in
      same_entries prefix_key (made c (side L)) (side M) left.1 right.1 left.0 right.0 (λ q. made_hop c q (side L) whole x ∙ by_family q (same_family q.family f) refl)
    where
      by_family : (q : Prefix) (t : Bool) → same_family q.family f ≡ t → cond (same_prefix q (place_of c)) (held_after c) (entry_hop_at q (side L)) ≡ entry_hop_at q (side (made c L))
      by_family q true t =
          let g : q.family ≡ f = same_family_is q.family f t in
          ap (cond (same_prefix q (place_of c)) (held_after c)) (beside.own q L a g) ∙ (sym (made_hop c q L l x) ∙ sym (beside.own q (made c L) (made_all_of c f L a e) g))
      by_family q false t = ap (λ b. cond b (held_after c) (entry_hop_at q (side L))) (apart q (place_of c) f e t) ∙ beside.other q L (made c L) a (made_all_of c f L a e) t

  pub changes_beside : (cs : List Change) (L M : Entries) → AreAt f cs → Placed L → AllOf f (keys_of L) → after_changes cs L ≡ Some M → MakesBeside f side cs L M
  changes_beside [] L M at l a s =
      let i : L ≡ M = cc in
      record { makes = λ more. ap (λ (N : Entries). after_changes more (side N)) i; placed = subst Placed i l; all_of = subst (λ (N : Entries). AllOf f (keys_of N)) i a }
  changes_beside (c ∷ cs) L M at l a s =
      let x = at.0.0 in
      let e = at.0.1 in
      by_test (possible c (entry_hop_at (place_of c) L)) (sym (ap (option_and_then (after_changes cs)) (change_is c L)) ∙ s)
      (change_is c (side L) ∙ (ap (λ o. cond (possible c o) (Some (made c (side L))) None) (beside.own (place_of c) L a e) ∙ ap (λ (N : Entries). cond (possible c (entry_hop_at (place_of c) L)) (Some N) None) (made_beside c L x e l a)))
      (changes_beside cs (made c L) M at.1 (made_placed c L l x) (made_all_of c f L a e))
    where
      by_test : (b : Bool) → option_and_then (after_changes cs) (cond b (Some (made c L)) None) ≡ Some M → after_change c (side L) ≡ cond b (Some (side (made c L))) None
          → (after_changes cs (made c L) ≡ Some M → MakesBeside f side cs (made c L) M) → MakesBeside f side (c ∷ cs) L M
      by_test true t u rest =
          let m = rest t in
          record { makes = λ more. ap (option_and_then (after_changes (cs ++ more))) u ∙ m.makes more; placed = m.placed; all_of = m.all_of }
      by_test false t u rest = absurd cc
