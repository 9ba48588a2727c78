-- Regions with two answers.
use Rattle.std.proofs.Common.{◌≡◌, ◌≢◌, ℕ, zero, suc, ◌⊎◌, List, [], ◌∷◌, Bool, true, false, cond, Option, Some, None, length, nat_eq, refl, sym, ap, ◌∙◌, inl, inr}
use Rattle.std.proofs.lemmas.Bool.{eq-eqb}
use Rattle.fib_addr.specs.Answers.{same_hop, one_answer, Differ}
use Rattle.fib_addr.proofs.OneAnswer.{one_answer_is}
use Rattle.table_model.specs.Sets.{side}

zeros : (d : ℕ) → (a : List Bool) × (length a ≡ d)
zeros zero = ([], refl)
zeros (suc d) = let z = zeros d in (false ∷ z.0, ap suc z.1)

-- what makes two halves differ
split : (x y : Option ℕ) → same_hop x y ≡ None → (x ≡ None) ⊎ ((y ≡ None) ⊎ ((g : ℕ) × (h : ℕ) × (x ≡ Some g) × (y ≡ Some h) × (g ≢ h)))
split None y e = inl refl
split (Some g) None e = inr (inl refl)
split (Some g) (Some h) e = inr (inr (g, h, refl, refl, λ s. some_not (cond (nat_eq g h) (Some g) None) g (ap (λ (b : Bool). cond b (Some g) None) (eq-eqb g h s)) e))
  where
    some_not : (o : Option ℕ) (k : ℕ) → o ≡ Some k → o ≡ None → ⊥
    some_not o k p q = cc

pub differ_from : (d : ℕ) (f : List Bool → ℕ) → one_answer d f ≡ None → Differ d f
unfolding one_answer
differ_from zero f e = cc
differ_from (suc d) f e = by (differ_from d (side false f)) (differ_from d (side true f)) (split (one_answer d (side false f)) (one_answer d (side true f)) e)
  where
    by : (one_answer d (side false f) ≡ None → Differ d (side false f)) → (one_answer d (side true f) ≡ None → Differ d (side true f)) → (one_answer d (side false f) ≡ None) ⊎ ((one_answer d (side true f) ≡ None) ⊎ ((g : ℕ) × (h : ℕ) × (one_answer d (side false f) ≡ Some g) × (one_answer d (side true f) ≡ Some h) × (g ≢ h))) → Differ (suc d) f
    by low high (inl p) = let r = low p in (false ∷ r.0, false ∷ r.1, ap suc r.2, ap suc r.3, r.4)
    by low high (inr (inl p)) = let r = high p in (true ∷ r.0, true ∷ r.1, ap suc r.2, ap suc r.3, r.4)
    by low high (inr (inr (g, h, p, q, n))) =
        let z = zeros d in
        (false ∷ z.0, true ∷ z.0, ap suc z.1, ap suc z.1, λ s. n (sym (one_answer_is d (side false f) g p z.0 z.1) ∙ (s ∙ one_answer_is d (side true f) h q z.0 z.1)))

pub differ_none : (d : ℕ) (f : List Bool → ℕ) → Differ d f → one_answer d f ≡ None
differ_none d f (a, b, p, q, n) = by (one_answer d f) refl
  where
    by : (x : Option ℕ) → one_answer d f ≡ x → x ≡ None
    by None e = refl
    by (Some h) e = absurd (n (one_answer_is d f h e a p ∙ sym (one_answer_is d f h e b q)))
