-- The turn found on the way down.
use Rattle.std.proofs.Common.{◌≡◌, ℕ, zero, suc, List, [], ◌∷◌, ◌++◌, Bool, true, false, not, ◌&&◌, ◌||◌, cond, Option, Some, None, is_some, is_none, refl, sym, ap, append_assoc}
use Rattle.table_model.specs.Table.{Table, root, half}
use Rattle.moves_model.specs.Way.{fills, is_clear, turn, is_blocked, turn_by}

clear_turn : (p : List Bool) (d : ℕ) (T : Table) → is_clear p d T ≡ true → turn p d T ≡ []
unfolding turn is_clear
clear_turn [] d T c = refl
clear_turn (b ∷ p) zero T c = refl
clear_turn (b ∷ p) (suc d) T c = ap (λ (x : Bool). cond x [] (b ∷ turn p d (half b T))) c

one_start : (c : Bool) (t : List Bool) → (c ≡ true → t ≡ []) → t ≡ cond c [] t
one_start true t e = e refl
one_start false t e = refl

pub turn_start : (p : List Bool) (d : ℕ) (T : Table) → turn p d T ≡ turn_by [] [] p d T
turn_start p d T = one_start (is_clear p d T) (turn p d T) (clear_turn p d T)

-- tests as values: o the half's entry, v whether the other is filled, c whether the rest is clear, t the turn behind
one_step : (o : Option ℕ) (v c : Bool) (q r t : List Bool) (b : Bool) → (c ≡ true → t ≡ [])
    → cond (is_none o && (v && c)) r (q ++ cond (is_none o && (v && c)) [] (b ∷ t)) ≡ cond c (cond (is_some o || not v) (q ++ (b ∷ [])) r) ((q ++ (b ∷ [])) ++ t)
one_step None true true q r t b e = refl
one_step None true false q r t b e = sym (append_assoc q (b ∷ []) t)
one_step None false true q r t b e = ap (λ x. q ++ (b ∷ x)) (e refl)
one_step None false false q r t b e = sym (append_assoc q (b ∷ []) t)
one_step (Some g) v true q r t b e = ap (λ x. q ++ (b ∷ x)) (e refl)
one_step (Some g) v false q r t b e = sym (append_assoc q (b ∷ []) t)

pub turn_step : (q r : List Bool) (b : Bool) (s : List Bool) (d : ℕ) (T : Table) → turn_by q r (b ∷ s) (suc d) T ≡ turn_by (q ++ (b ∷ [])) (cond (is_blocked b d T) (q ++ (b ∷ [])) r) s d (half b T)
unfolding turn is_clear
turn_step q r b s d T = one_step (root (half b T)) (fills d (half (not b) T)) (is_clear s d (half b T)) q r (turn s d (half b T)) b (clear_turn s d (half b T))

pub turn_end : (q r : List Bool) (d : ℕ) (T : Table) → turn_by q r [] d T ≡ r
unfolding is_clear
turn_end q r d T = refl
