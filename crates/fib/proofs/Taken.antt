-- One word after another.
use Rattle.std.proofs.Common.{◌≡◌, ℕ, zero, suc, ◌+◌, List, [], ◌∷◌, ◌++◌, take, sym, ap, ◌∙◌, append_assoc, append-nil, arith}

-- one of those that are left was taken
pub taken_more : {X : Type 0} (all s t : List X) (x : X) (m n : ℕ) → s ≡ x ∷ t → n + 1 ≡ m → (all ++ x ∷ []) ++ take n t ≡ all ++ take m s
taken_more all s t x zero n e f = absurd (omega (arith, f))
taken_more all s t x (suc k) n e f = let same : k ≡ n = omega (arith, f) in rw (e, same) (append_assoc all (x ∷ []) (take n t))

-- none is left
pub taken_all : {X : Type 0} (all s given : List X) (m : ℕ) → m ≡ 0 → all ++ take m s ≡ given → all ≡ given
taken_all all s given m e f = sym (append-nil all) ∙ (ap (λ k. all ++ take k s) (sym e) ∙ f)
