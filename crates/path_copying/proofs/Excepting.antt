-- The lists of 64 slots with one of them apart.
use Rattle.std.proofs.Common.{◌≡◌, ◌≢◌, ℕ, zero, suc, ◌+◌, ◌<◌, List, [], ◌++◌, cond, nat_eq, refl, sym, ap, ◌∙◌, arith, inl, inr}
use Rattle.std.proofs.lemmas.List.{append-nil, append_assoc}
use Rattle.std.proofs.lemmas.Bool.{cases_eq, eq-eqb, ne_eqb}
use Rattle.buddy_arena.specs.Arrays.{Array}
use Rattle.poptrie_build.specs.Arrays.{gather}
use Rattle.poptrie_build.specs.Strides.{total}
use Rattle.poptrie_build.proofs.Parting.{gather_same}
use Rattle.path_copying.proofs.Like.{Like, like_is, like_then, like_behind, like_swap}

-- the lists of all but slot v
abbrev pub except : (ℕ → List Array) → ℕ → ℕ → List Array
except g v u = cond (nat_eq u v) [] (g u)

abbrev pub except_of : (ℕ → ℕ) → ℕ → ℕ → ℕ
except_of g v u = cond (nat_eq u v) 0 (g u)

pub other_is : (g : ℕ → List Array) (v u : ℕ) → u ≢ v → except g v u ≡ g u
other_is g v u n = ap (λ b. cond b [] (g u)) (ne_eqb u v n)

same_is : (g : ℕ → List Array) (v u : ℕ) → u ≡ v → except g v u ≡ []
same_is g v u e = ap (λ b. cond b [] (g u)) (eq-eqb u v e)

pub other_of : (g : ℕ → ℕ) (v u : ℕ) → u ≢ v → except_of g v u ≡ g u
other_of g v u n = ap (λ b. cond b 0 (g u)) (ne_eqb u v n)

same_of : (g : ℕ → ℕ) (v u : ℕ) → u ≡ v → except_of g v u ≡ 0
same_of g v u e = ap (λ b. cond b 0 (g u)) (eq-eqb u v e)

pub taken_out : (g : ℕ → List Array) (v n : ℕ) → v < n → Like (gather g n) (g v ++ gather (except g v) n) × Like (g v ++ gather (except g v) n) (gather g n)
unfolding gather
taken_out g v zero l = absurd (omega arith)
taken_out g v (suc n) l =
    elim (cases_eq v n) [
      | inl e ↦
          let others : gather (except g v) n ≡ gather g n = gather_same (except g v) g n (λ u m. other_is g v u (omega (arith, m, e))) in
          let rest : gather (except g v) n ++ except g v n ≡ gather g n = ap (λ (x : List Array). gather (except g v) n ++ x) (same_is g v n (sym e)) ∙ (append-nil (gather (except g v) n) ∙ others) in
          let whole : gather g n ++ g n ≡ gather g n ++ g v = ap (λ i. gather g n ++ g i) (sym e) in (
            like_then _ _ _ (like_is _ _ whole) (like_then _ _ _ (like_swap (gather g n) (g v)) (like_is _ _ (ap (λ (x : List Array). g v ++ x) (sym rest)))),
            like_then _ _ _ (like_is _ _ (ap (λ (x : List Array). g v ++ x) rest)) (like_then _ _ _ (like_swap (g v) (gather g n)) (like_is _ _ (sym whole))),
          )
      | inr ne ↦
          let before = taken_out g v n (omega arith) in
          let last : except g v n ≡ g n = other_is g v n (λ e. ne (sym e)) in
          let rest : (g v ++ gather (except g v) n) ++ g n ≡ g v ++ (gather (except g v) n ++ except g v n) = append_assoc (g v) (gather (except g v) n) (g n) ∙ ap (λ (x : List Array). g v ++ (gather (except g v) n ++ x)) (sym last) in (
            like_then _ _ _ (like_behind (g n) _ _ before.0) (like_is _ _ rest),
            like_then _ _ _ (like_is _ _ (sym rest)) (like_behind (g n) _ _ before.1),
          )
    ]

pub total_same : (g h : ℕ → ℕ) (n : ℕ) → ((u : ℕ) → u < n → g u ≡ h u) → total g n ≡ total h n
unfolding total
total_same g h zero e = refl
total_same g h (suc n) e = let t = total_same g h n (λ u l. e u (omega arith)) in let s = e n (omega arith) in omega arith

pub total_out : (g : ℕ → ℕ) (v n : ℕ) → v < n → total g n ≡ g v + total (except_of g v) n
unfolding total
total_out g v zero l = absurd (omega arith)
total_out g v (suc n) l =
    elim (cases_eq v n) [
      | inl e ↦
          let others = total_same (except_of g v) g n (λ u m. other_of g v u (omega (arith, m, e))) in
          let none = same_of g v n (sym e) in
          let is : g n ≡ g v = ap g (sym e) in
          omega (arith, others, none, is)
      | inr ne ↦
          let before = total_out g v n (omega arith) in
          let last = other_of g v n (λ e. ne (sym e)) in
          omega (arith, before, last)
    ]
