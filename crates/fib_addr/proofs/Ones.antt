-- Sets of one hop each.
use Rattle.std.proofs.Common.{◌≡◌, ◌≢◌, ℕ, List, [], ◌∷◌, ◌||◌, Bool, true, false, cond, nat_eq, refl, sym, ap}
use Rattle.std.proofs.lemmas.Bool.{eqb-false, ne_eqb}
use Rattle.table_model.specs.Sets.{common, joint, or_else}

same_is : (a b : ℕ) → a ≡ b → nat_eq b a ≡ true
same_is a b e = (elim (nat_eq b a) as (λ t. nat_eq b a ≡ t → t ≡ true) [ true ↦ λ h. refl | false ↦ λ h. absurd (eqb-false b a h (sym e)) ]) refl

pub ones_meet : (a b : ℕ) → a ≡ b → common (a ∷ []) (b ∷ []) ≡ a ∷ []
ones_meet a b e = ap (λ (t : Bool). cond (t || false) (a ∷ []) []) (same_is a b e)

pub ones_joint : (a b : ℕ) → a ≡ b → joint (a ∷ []) (b ∷ []) ≡ a ∷ []
ones_joint a b e = ap (λ (C : List ℕ). or_else C (a ∷ b ∷ [])) (ones_meet a b e)

pub ones_apart : (a b : ℕ) → a ≢ b → common (a ∷ []) (b ∷ []) ≡ []
ones_apart a b e = ap (λ (t : Bool). cond (t || false) (a ∷ []) []) (ne_eqb b a (λ s. e (sym s)))

pub ones_all : (a b : ℕ) → a ≢ b → joint (a ∷ []) (b ∷ []) ≡ a ∷ b ∷ []
ones_all a b e = ap (λ (C : List ℕ). or_else C (a ∷ b ∷ [])) (ones_apart a b e)
