-- Tables within a region, and below it.
use Rattle.std.proofs.Common.{◌≡◌, ℕ, ◌≤◌, List, [], ◌∷◌, ◌++◌, Bool, true, false, None, length, refl, sym, ap, ◌∙◌, arith}
use Rattle.table_model.specs.Table.{Table, longest, hop_or, lpm, root, inherit, half, cut}
use Rattle.table_model.specs.Bits.{begins}
use Rattle.table_model.specs.Regions.{IsWithin, lift, above}
use Rattle.table_model.proofs.Cut.{entry, lpm_cut, length_parts}
use Rattle.table_model.proofs.Above.{above_cut, none_above}
use Rattle.table_model.proofs.Join.{half_append}

-- what is within the region
within_step : (b : Bool) (p q : List Bool) (g : ℕ) (L : Table) → begins (b ∷ p) q ≡ true → IsWithin p (half b L) → IsWithin p (half b (entry q g ∷ L))
within_step true p [] g L e ih = ih
within_step false p [] g L e ih = ih
within_step true p (true ∷ q) g L e ih = (e, ih)
within_step true p (false ∷ q) g L e ih = ih
within_step false p (true ∷ q) g L e ih = ih
within_step false p (false ∷ q) g L e ih = (e, ih)

pub within_half : (b : Bool) (p : List Bool) (L : Table) → IsWithin (b ∷ p) L → IsWithin p (half b L)
within_half b p [] h = tt
within_half b p (e ∷ L) h = within_step b p e.prefix e.hop (half_id L) h.0 (within_half b p L h.1)
  where
    half_id : Table → Table
    half_id L = L

rootless_step : (b : Bool) (p q : List Bool) (g : ℕ) (L : Table) → begins (b ∷ p) q ≡ true → root L ≡ None → root (entry q g ∷ L) ≡ None
rootless_step true p [] g L e ih = cc
rootless_step false p [] g L e ih = cc
rootless_step b p (c ∷ q) g L e ih = ih

pub within_rootless : (b : Bool) (p : List Bool) (L : Table) → IsWithin (b ∷ p) L → root L ≡ None
within_rootless b p [] h = refl
within_rootless b p (e ∷ L) h = rootless_step b p e.prefix e.hop L h.0 (within_rootless b p L h.1)

-- longest match below p, in a table within p
pub lpm_within : (p : List Bool) (L : Table) (a : List Bool) (h : ℕ) → IsWithin p L → lpm L (p ++ a) h ≡ lpm (cut p L) a h
lpm_within [] L a h i = refl
lpm_within (b ∷ p) L a h i =
    lpm_cut L b (p ++ a) h ∙ (ap (λ o. lpm (half b L) (p ++ a) (inherit o h)) (within_rootless b p L i) ∙ lpm_within p (half b L) a h (within_half b p L i))

-- and in any table
pub lpm_region : (p : List Bool) (L : Table) (a : List Bool) (h : ℕ) → lpm L (p ++ a) h ≡ lpm (cut p L) a (above p L h)
lpm_region [] L a h = ap (λ x. lpm L a (hop_or h (longest x))) (sym (none_above L))
lpm_region (b ∷ p) L a h = lpm_cut L b (p ++ a) h ∙ (lpm_region p (half b L) a (inherit (root L) h) ∙ ap (lpm (cut p (half b L)) a) (sym (above_cut b p L h)))

pub length_half : (b : Bool) (L : Table) → length (half b L) ≤ length L
length_half true L = omega (arith, length_parts L)
length_half false L = omega (arith, length_parts L)

pub length_cut_most : (p : List Bool) (L : Table) → length (cut p L) ≤ length L
length_cut_most [] L = omega arith
length_cut_most (b ∷ p) L = omega (arith, length_cut_most p (half b L), length_half b L)

-- lifted tables
half_lift : (b : Bool) (p : List Bool) (L : Table) → half b (lift (b ∷ p) L) ≡ lift p L
half_lift b p [] = refl
half_lift true p (e ∷ L) = ap (λ M. entry (p ++ e.prefix) e.hop ∷ M) (half_lift true p L)
half_lift false p (e ∷ L) = ap (λ M. entry (p ++ e.prefix) e.hop ∷ M) (half_lift false p L)

lift_nil : (L : Table) → lift [] L ≡ L
lift_nil [] = refl
lift_nil (e ∷ L) = ap (λ M. e ∷ M) (lift_nil L)

pub cut_lift : (p : List Bool) (L : Table) → cut p (lift p L) ≡ L
cut_lift [] L = lift_nil L
cut_lift (b ∷ p) L = ap (cut p) (half_lift b p L) ∙ cut_lift p L

pub begins_append : (p q : List Bool) → begins p (p ++ q) ≡ true
begins_append [] q = refl
begins_append (true ∷ p) q = begins_append p q
begins_append (false ∷ p) q = begins_append p q

pub within_lift : (p : List Bool) (L : Table) → IsWithin p (lift p L)
within_lift p [] = tt
within_lift p (e ∷ L) = (begins_append p e.prefix, within_lift p L)

pub lpm_lift : (p : List Bool) (L : Table) (a : List Bool) (h : ℕ) → lpm (lift p L) (p ++ a) h ≡ lpm L a h
lpm_lift p L a h = lpm_within p (lift p L) a h (within_lift p L) ∙ ap (λ x. lpm x a h) (cut_lift p L)

pub cut_append : (p : List Bool) (L M : Table) → cut p (L ++ M) ≡ cut p L ++ cut p M
cut_append [] L M = refl
cut_append (b ∷ p) L M = ap (cut p) (half_append b L M) ∙ cut_append p (half b L) (half b M)
