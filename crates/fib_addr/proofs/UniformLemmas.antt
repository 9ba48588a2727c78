-- What is uniform on a prefix, and on its halves.
use Rattle.std.proofs.Common.{◌≡◌, ℕ, ◌-◌, ◌<◌, List, [], ◌∷◌, ◌++◌, Bool, true, false, length, length-append, replicate, refl, sym, ap, ◌∙◌, arith}
use Rattle.std.specs.Prelude.{◌&&◌}
use Rattle.std.proofs.Math.ListN.{length-replicate}
use Rattle.table_model.specs.Bits.{begins}
use Rattle.table_model.specs.Width.{width}
use Rattle.table_model.specs.Address.{Address, Prefix, IsPrefix, contains, same_family}
use Rattle.table_model.specs.Halves.{half_at}
use Rattle.table_model.specs.declared.family.Family.{Family}
use Rattle.table_model.specs.declared.family.Family.TheVariants.{V4, V6}
use Rattle.table_model.specs.Entries.{Entries, match_in}
use Rattle.table_model.specs.Uniform.{AllGet, TwoDiffer}

-- what begins with more begins with less
begins_front : (p q a : List Bool) → begins (p ++ q) a ≡ true → begins p a ≡ true
begins_front [] q a e = refl
begins_front (true ∷ p) q (true ∷ a) e = begins_front p q a e
begins_front (false ∷ p) q (false ∷ a) e = begins_front p q a e
begins_front (true ∷ p) q (false ∷ a) e = cc
begins_front (false ∷ p) q (true ∷ a) e = cc
begins_front (true ∷ p) q [] e = cc
begins_front (false ∷ p) q [] e = cc

within_half : (b : Bool) (p : Prefix) (a : Address) → contains (half_at b p) a ≡ true → contains p a ≡ true
within_half b p a e = by_family (same_family p.family a.family) e
  where
    by_family : (t : Bool) → (t && begins (p.bits ++ b ∷ []) a.bits) ≡ true → (t && begins p.bits a.bits) ≡ true
    by_family true e = begins_front p.bits (b ∷ []) a.bits e
    by_family false e = cc

pub halves : (L : Entries) (p : Prefix) (h : ℕ) → AllGet L p h → AllGet L (half_at false p) h × AllGet L (half_at true p) h
halves L p h all = ((λ a i w. all a i (within_half false p a w)), (λ a i w. all a i (within_half true p a w)))

-- the next bit of a longer list
next_bit : (p a : List Bool) → length p < length a → begins p a ≡ true → (b : Bool) × (begins (p ++ b ∷ []) a ≡ true)
next_bit [] [] l e = absurd (omega arith)
next_bit [] (true ∷ a) l e = (true, refl)
next_bit [] (false ∷ a) l e = (false, refl)
next_bit (true ∷ p) (true ∷ a) l e = next_bit p a (omega arith) e
next_bit (false ∷ p) (false ∷ a) l e = next_bit p a (omega arith) e
next_bit (true ∷ p) (false ∷ a) l e = cc
next_bit (false ∷ p) (true ∷ a) l e = cc
next_bit (true ∷ p) [] l e = cc
next_bit (false ∷ p) [] l e = cc

family_is : (f g : Family) → same_family f g ≡ true → f ≡ g
family_is V4 V4 e = refl
family_is V6 V6 e = refl
family_is V4 V6 e = cc
family_is V6 V4 e = cc

both_hold : (s t : Bool) → (s && t) ≡ true → (s ≡ true) × (t ≡ true)
both_hold true true e = (refl, refl)
both_hold true false e = cc
both_hold false t e = cc

pub joined : (L : Entries) (p : Prefix) (h : ℕ) → length p.bits < width p.family → AllGet L (half_at false p) h → AllGet L (half_at true p) h → AllGet L p h
joined L p h l low high a i w =
    let s = both_hold (same_family p.family a.family) (begins p.bits a.bits) w in
    let n = next_bit p.bits a.bits (omega (arith, i, l, ap width (family_is p.family a.family s.0))) s.1 in
    by_bit n.0 (ap (λ t. t && begins (p.bits ++ n.0 ∷ []) a.bits) s.0 ∙ n.1)
  where
    by_bit : (b : Bool) → contains (half_at b p) a ≡ true → match_in L a ≡ h
    by_bit true e = high a i e
    by_bit false e = low a i e

-- the first address of a prefix is within it

begins_itself : (p q : List Bool) → begins p (p ++ q) ≡ true
begins_itself [] q = refl
begins_itself (true ∷ p) q = begins_itself p q
begins_itself (false ∷ p) q = begins_itself p q

same_itself : (f : Family) → same_family f f ≡ true
same_itself V4 = refl
same_itself V6 = refl

pub once : (L : Entries) (p : Prefix) (h k : ℕ) → IsPrefix p → AllGet L p h → AllGet L p k → h ≡ k
once L p h k i x y =
    let z = replicate (width p.family - length p.bits) false in
    let a : Address = record { family = p.family; bits = p.bits ++ z } in
    let l : length a.bits ≡ width p.family = omega (arith, i, length-append p.bits z, length-replicate (width p.family - length p.bits) false) in
    let w : contains p a ≡ true = ap (λ t. t && begins p.bits a.bits) (same_itself p.family) ∙ begins_itself p.bits z in
    sym (x a l w) ∙ y a l w

pub apart : (L : Entries) (p : Prefix) (h : ℕ) → AllGet L p h → TwoDiffer L p → ⊥
apart L p h all d = d.differ (all d.one d.is_one d.one_within ∙ sym (all d.other d.is_other d.other_within))
