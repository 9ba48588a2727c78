-- Nodes of a path.
use Rattle.std.proofs.Common.{◌≡◌, ◌≢◌, ◌-◌, ℕ, List, [], ◌∷◌, ◌||◌, Bool, true, false, nat_eq, Option, Some, None, refl, sym, ap, subst, ◌∙◌}
use Rattle.std.specs.Prelude.{is_some}
use Rattle.std.specs.Int.{bit_at}
use Rattle.table_model.specs.Bits.{bits_of}
use Rattle.table_model.specs.Table.{Table, root, half, cut, inherit}
use Rattle.table_model.specs.Regions.{above}
use Rattle.table_model.proofs.Above.{above_cut}
use Rattle.orig_tree.proofs.Above.{above_here}
use Rattle.table_model.specs.declared.family.Family.{Family}
use Rattle.table_model.specs.Entries.{Entries, of_family, of_table}
use Rattle.table_model.proofs.Both.{family_is}
use Rattle.table_model.proofs.Same.{cut_nil}
use Rattle.kept_model.specs.Stays.{is_wide_mark, NoneAround}
use Rattle.orig_tree.specs.Walk.{Walks, behind}
use Rattle.orig_tree.proofs.Paths.{no_bits, first_bit}

-- nothing is below the root
pub bare : (M : Table) → half false M ≡ [] → half true M ≡ [] → (b : Bool) → half b M ≡ []
bare M low high false = low
bare M low high true = high

pub sought_end : (left q : ℕ) (T : Table) → left ≡ 0 → T ≡ cut (bits_of left q) T
sought_end left q T z = ap (λ p. cut p T) (sym (no_bits left q z))

pub sought_step : (left q : ℕ) (b : Bool) (T U : Table) → left ≢ 0 → b ≡ nat_eq (bit_at q (left - 1)) 1 → U ≡ half b T → cut (bits_of (left - 1) q) U ≡ cut (bits_of left q) T
sought_step left q b T U n e u = ap (cut (bits_of (left - 1) q)) u ∙ ap (λ p. cut p T) (sym (first_bit left q b n e))

pub around_end : (left q : ℕ) (M : Table) (m : Bool) → left ≡ 0 → m ≡ false → (m ≡ false) × NoneAround (bits_of left q) M
around_end left q M m z e = (e, subst (λ (p : List Bool). NoneAround p M) (sym (no_bits left q z)) tt)

neither : (a b : Bool) → (a || b) ≡ false → (a ≡ false) × (b ≡ false)
neither true b e = let z : true ≡ false = e in absurd cc
neither false b e = (refl, e)

pub around_step : (left q : ℕ) (b : Bool) (M N : Table) (m w : Bool) → left ≢ 0 → b ≡ nat_eq (bit_at q (left - 1)) 1 → N ≡ half b M → w ≡ (m || is_wide_mark (root M)) → (w ≡ false) × NoneAround (bits_of (left - 1) q) N → (m ≡ false) × NoneAround (bits_of left q) M
around_step left q b M N m w n e u v x =
    let y = neither m (is_wide_mark (root M)) (sym v ∙ x.0) in
    (y.0, subst (λ (p : List Bool). NoneAround p M) (sym (first_bit left q b n e)) (y.1, subst (λ (T : Table). NoneAround (bits_of (left - 1) q) T) u x.1))

-- without a node there is nothing on the rest of the way
none_around : (p : List Bool) → NoneAround p []
none_around [] = tt
none_around (b ∷ p) = (refl, none_around p)

pub sought_none : (n : Option Walks) (p : List Bool) → is_some n ≡ false → ((behind n).routes ≡ cut p (behind n).routes) × ((behind n).entries ≡ cut p (behind n).entries) × NoneAround p (behind n).entries
sought_none None p e = (sym (cut_nil p), sym (cut_nil p), none_around p)
sought_none (Some w) p e = let z : true ≡ false = e in absurd cc

-- what is inherited at the end of a way
pub above_end : (left q : ℕ) (T : Table) (h : ℕ) → left ≡ 0 → h ≡ above (bits_of left q) T h
above_end left q T h z = above_here T left q h z

pub above_step : (left q : ℕ) (b : Bool) (T U : Table) (h i : ℕ) → left ≢ 0 → b ≡ nat_eq (bit_at q (left - 1)) 1 → U ≡ half b T → i ≡ inherit (root T) h → above (bits_of (left - 1) q) U i ≡ above (bits_of left q) T h
above_step left q b T U h i n e u v = ap (λ x. above (bits_of (left - 1) q) x i) u ∙ (ap (above (bits_of (left - 1) q) (half b T)) v ∙ (sym (above_cut b (bits_of (left - 1) q) T h) ∙ ap (λ p. above p T h) (sym (first_bit left q b n e))))

-- beyond the last node nothing is
pub above_none : (p : List Bool) (h : ℕ) → h ≡ above p [] h
above_none p h = refl

pub found_at : (f : Family) (B P : List Bool) (T M : Table) (E : Entries) → of_table f T ≡ E → B ≡ P → M ≡ cut B T → M ≡ cut P (of_family f E)
found_at f B P T M E e y m = m ∙ (ap (λ p. cut p T) y ∙ ap (cut P) (sym (family_is f T) ∙ ap (of_family f) e))
