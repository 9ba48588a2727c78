-- Tables with the same entries, whatever their order, and the entries of a patch.
use Rattle.std.proofs.Common.{◌<◌, zero, suc, arith, ◌≡◌, ℕ, ◌-◌, List, [], ◌∷◌, ◌++◌, Bool, true, false, not, Option, None, length, refl, sym, ap, ◌∙◌, arith}
use Rattle.table_model.specs.Table.{Table, lpm, IsTable, root, root_of, inherit, half, cut}
use Rattle.table_model.specs.Bits.{begins}
use Rattle.table_model.specs.Regions.{IsWithin, outside, above}
use Rattle.table_model.specs.Least.{Least}
use Rattle.table_model.specs.Sets.{agg, answers}
use Rattle.table_model.specs.Regions.{entry_at, SameEntries}
use Rattle.table_model.specs.Least.{aggregate, patch}
use Rattle.table_model.proofs.Cut.{entry, lpm_cut, lpm_nil}
use Rattle.table_model.proofs.Region.{cut_append, within_lift, within_half, within_rootless}
use Rattle.table_model.proofs.Patch.{same_length, table_half, no_half, root_outside, half_outside_same, half_outside_other, cut_outside, cut_cut}

-- the entries determine the answers
pub same_answers : (a : List Bool) (L M : Table) (h : ℕ) → SameEntries L M → lpm L a h ≡ lpm M a h
same_answers [] L M h s = lpm_nil L h ∙ (ap (λ o. inherit o h) (s []) ∙ sym (lpm_nil M h))
same_answers (b ∷ a) L M h s =
    lpm_cut L b a h ∙ (ap (λ o. lpm (half b L) a (inherit o h)) (s []) ∙ (same_answers a (half b L) (half b M) (inherit (root M) h) (λ q. s (b ∷ q)) ∙ sym (lpm_cut M b a h)))

-- a least table in another order is least
pub same_least : (w : ℕ) (R L M : Table) → IsTable w L → IsTable w M → SameEntries L M → Least w R L → Least w R M
same_least w R L M h k s l = (λ a n. l.0 a n ∙ same_answers a L M 0 s, λ N t e. omega (arith, same_length w L M h k s, l.1 N t e))

root_append_step : (p : List Bool) (g : ℕ) (o : Option ℕ) → root_of p g o ≡ None → o ≡ None
root_append_step [] g o e = cc
root_append_step (b ∷ p) g o e = e

root_append : (L M : Table) → root L ≡ None → root (L ++ M) ≡ root M
root_append [] M e = refl
root_append (e ∷ L) M n = rootless e.prefix e.hop n (root_append L M (root_append_step e.prefix e.hop (root L) n))
  where
    rootless : (p : List Bool) (g : ℕ) → root_of p g (root L) ≡ None → root (L ++ M) ≡ root M → root_of p g (root (L ++ M)) ≡ root M
    rootless [] g z ih = cc
    rootless (b ∷ p) g z ih = ih

root_before : (L M : Table) → root M ≡ None → root (L ++ M) ≡ root L
root_before [] M e = e
root_before (e ∷ L) M n = ap (root_of e.prefix e.hop) (root_before L M n)

pub cut_nil : (q : List Bool) → cut q [] ≡ []
cut_nil [] = refl
cut_nil (b ∷ q) = cut_nil q

no_entry_other : (b : Bool) (p q : List Bool) (L : Table) → IsWithin (b ∷ p) L → half (not b) L ≡ []
no_entry_other b p q [] i = refl
no_entry_other b p q (e ∷ L) i = other b e.prefix e.hop i.0 (no_entry_other b p q L i.1)
  where
    other : (b : Bool) (r : List Bool) (g : ℕ) → begins (b ∷ p) r ≡ true → half (not b) L ≡ [] → half (not b) (entry r g ∷ L) ≡ []
    other true [] g k ih = cc
    other false [] g k ih = cc
    other true (true ∷ r) g k ih = ih
    other false (false ∷ r) g k ih = ih
    other true (false ∷ r) g k ih = cc
    other false (true ∷ r) g k ih = cc

-- a table within p has no entry elsewhere
no_entry : (p q : List Bool) (M : Table) → IsWithin p M → begins p q ≡ false → entry_at q M ≡ None
no_entry [] q M i n = cc
no_entry (b ∷ p) [] M i n = within_rootless b p M i
no_entry (true ∷ p) (true ∷ q) M i n = no_entry p q (half true M) (within_half true p M i) n
no_entry (false ∷ p) (false ∷ q) M i n = no_entry p q (half false M) (within_half false p M i) n
no_entry (true ∷ p) (false ∷ q) M i n = ap (λ x. root (cut q x)) (no_entry_other true p q M i) ∙ ap root (cut_nil q)
no_entry (false ∷ p) (true ∷ q) M i n = ap (λ x. root (cut q x)) (no_entry_other false p q M i) ∙ ap root (cut_nil q)

entry_outside : (p q : List Bool) (L : Table) → begins p q ≡ false → entry_at q (outside p L) ≡ entry_at q L
entry_outside [] q L n = cc
entry_outside (b ∷ p) [] L n = root_outside b p L
entry_outside (true ∷ p) (true ∷ q) L n = ap (λ x. root (cut q x)) (half_outside_same true p L) ∙ entry_outside p q (half true L) n
entry_outside (false ∷ p) (false ∷ q) L n = ap (λ x. root (cut q x)) (half_outside_same false p L) ∙ entry_outside p q (half false L) n
entry_outside (true ∷ p) (false ∷ q) L n = ap (λ x. root (cut q x)) (half_outside_other true p L)
entry_outside (false ∷ p) (true ∷ q) L n = ap (λ x. root (cut q x)) (half_outside_other false p L)

-- the entries of a patch: those of T outside p
pub patch_keeps : (w : ℕ) (T R : Table) (p q : List Bool) → begins p q ≡ false → entry_at q (patch w T R p) ≡ entry_at q T
patch_keeps w T R p q n =
    let M : Table = aggregate w R p (above p T 0) T in
    ap root (cut_append q (outside p T) M) ∙ (root_before (cut q (outside p T)) (cut q M) (no_entry p q M (within_lift p (agg (w - length p) (answers R p) (cut p T) (above p T 0))) n) ∙ entry_outside p q T n)

-- and those of the aggregate within
pub patch_repairs : (w : ℕ) (T R : Table) (p q : List Bool) → entry_at (p ++ q) (patch w T R p) ≡ entry_at (p ++ q) (aggregate w R p (above p T 0) T)
patch_repairs w T R p q =
    let M : Table = aggregate w R p (above p T 0) T in
    let e : cut (p ++ q) (outside p T) ≡ [] = cut_cut p q (outside p T) ∙ (ap (cut q) (cut_outside p T) ∙ cut_nil q) in
    ap root (cut_append (p ++ q) (outside p T) M ∙ ap (λ x. x ++ cut (p ++ q) M) e)

-- a table has no entry past its width
pub entry_beyond : (w : ℕ) (q : List Bool) (L : Table) → IsTable w L → w < length q → entry_at q L ≡ None
entry_beyond w [] L h l = absurd (omega arith)
entry_beyond zero (b ∷ q) L h l = ap (λ x. root (cut q x)) (no_half b L h.1) ∙ ap root (cut_nil q)
entry_beyond (suc w) (b ∷ q) L h l = entry_beyond w q (half b L) (table_half b w L h) (omega arith)
