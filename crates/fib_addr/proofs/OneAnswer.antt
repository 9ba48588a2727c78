-- The one answer of a region.
use Rattle.std.proofs.Common.{◌≡◌, ℕ, zero, suc, ◌+◌, ◌<◌, List, [], ◌∷◌, ◌++◌, Bool, true, false, cond, Option, Some, None, length, nat_eq, refl, sym, ap, ◌∙◌, arith, length-append}
use Rattle.std.proofs.lemmas.Bool.{eqb-true, eq-eqb}
use Rattle.fib_addr.specs.Answers.{part, same_hop, one_answer}
use Rattle.table_model.specs.Sets.{side}

same_some : (x y : Option ℕ) (h : ℕ) → same_hop x y ≡ Some h → (x ≡ Some h) × (y ≡ Some h)
same_some None y h e = cc
same_some (Some g) None h e = cc
same_some (Some g) (Some k) h e = by_test (nat_eq g k) refl e
  where
    by_test : (b : Bool) → nat_eq g k ≡ b → cond b (Some g) None ≡ Some h → (Some g ≡ Some h) × (Some k ≡ Some h)
    by_test true t f = (f, ap Some (sym (eqb-true g k t)) ∙ f)
    by_test false t f = cc

pub one_answer_is : (d : ℕ) (f : List Bool → ℕ) (h : ℕ) → one_answer d f ≡ Some h → (a : List Bool) → length a ≡ d → f a ≡ h
unfolding one_answer
one_answer_is zero f h e [] n = let r : f [] ≡ h = cc in r
one_answer_is zero f h e (b ∷ a) n = absurd (omega arith)
one_answer_is (suc d) f h e [] n = absurd (omega arith)
one_answer_is (suc d) f h e (false ∷ a) n = one_answer_is d (side false f) h (same_some (one_answer d (side false f)) (one_answer d (side true f)) h e).0 a (omega arith)
one_answer_is (suc d) f h e (true ∷ a) n = one_answer_is d (side true f) h (same_some (one_answer d (side false f)) (one_answer d (side true f)) h e).1 a (omega arith)

pub one_answer_from : (d : ℕ) (f : List Bool → ℕ) (h : ℕ) → ((a : List Bool) → length a ≡ d → f a ≡ h) → one_answer d f ≡ Some h
unfolding one_answer
one_answer_from zero f h e = ap Some (e [] refl)
one_answer_from (suc d) f h e =
    ap (λ x. same_hop x (one_answer d (side true f))) (one_answer_from d (side false f) h (λ a l. e (false ∷ a) (ap suc l)))
    ∙ (ap (λ x. same_hop (Some h) x) (one_answer_from d (side true f) h (λ a l. e (true ∷ a) (ap suc l))) ∙ ap (λ (b : Bool). cond b (Some h) None) (eq-eqb h h refl))

-- a region with two answers has bits left
pub mixed_bits : (d : ℕ) (f : List Bool → ℕ) → one_answer d f ≡ None → 0 < d
unfolding one_answer
mixed_bits zero f e = cc
mixed_bits (suc d) f e = omega arith

-- a part of a uniform region is uniform
pub one_answer_part : (d n : ℕ) (f : List Bool → ℕ) (h : ℕ) (p : List Bool) → length p + n ≡ d → one_answer d f ≡ Some h → one_answer n (part p f) ≡ Some h
one_answer_part d n f h p l e = one_answer_from n (part p f) h (λ a m. one_answer_is d f h e (p ++ a) (omega (arith, length-append p a)))
