-- Where no free block is as large as a power of two, each range of so many places has one that is out.
use Rattle.std.proofs.Common.{◌≡◌, ℕ, zero, suc, ◌+◌, ◌*◌, ◌^◌, ◌≤◌, List, [], ◌∷◌, ◌++◌, Bool, true, false, cond, length, take, drop, map, refl, sym, ap, ◌∙◌, arith, inl, inr}
use Rattle.std.specs.Prelude.{◌||◌, ◌⊎◌}
use Rattle.std.proofs.lemmas.Bool.{cases_eq, eq-eqb}
use Rattle.std.proofs.lemmas.List.{length-take, length-drop, take-append-drop}
use Rattle.std.proofs.Math.Nat.{mul-le-mul_left, mul-add}
use Rattle.buddy_arena.proofs.Bits.{double}
use Rattle.buddy_arena.specs.Space.{blocks, all_true, has_order, NoneFrom, free_count, shift}
use Rattle.buddy_arena.proofs.Spans.{has_append, has_shift}
use Rattle.buddy_arena.proofs.Totals.{total_append, total_le}

whole_has : (j : ℕ) (f : List Bool) → all_true f ≡ true → has_order j (blocks j f) ≡ true
unfolding blocks
whole_has zero f e = ap (λ t. has_order 0 (cond t ((0, 0) ∷ []) [])) e
whole_has (suc j) f e = ap (λ t. has_order (suc j) (cond t ((suc j, 0) ∷ []) (blocks j (take (2 ^ j) f) ++ map (shift (2 ^ j)) (blocks j (drop (2 ^ j) f))))) e ∙ ap (λ t. t || false) (eq-eqb (suc j) (suc j) refl)

some_out : (f : List Bool) → all_true f ≡ false → free_count f + 1 ≤ length f
some_out [] e = cc
some_out (true ∷ f) e = omega (arith, some_out f e)
some_out (false ∷ f) e = omega (arith, total_le f)

not_whole : (j : ℕ) (f : List Bool) → has_order j (blocks j f) ≡ false → all_true f ≡ false
not_whole j f h = by (all_true f) refl
  where
    by : (t : Bool) → all_true f ≡ t → all_true f ≡ false
    by false e = e
    by true e = absurd (let c : true ≡ false = sym (whole_has j f e) ∙ h in cc)

or_both : (a b : Bool) → (a || b) ≡ false → (a ≡ false) × (b ≡ false)
or_both true b e = cc
or_both false b e = (refl, e)

parts_none : (j k : ℕ) (f : List Bool) → all_true f ≡ false → NoneFrom k (blocks (suc j) f) → NoneFrom k (blocks j (take (2 ^ j) f)) × NoneFrom k (blocks j (drop (2 ^ j) f))
unfolding blocks
parts_none j k f e h =
    let both : (i : ℕ) → k ≤ i → (has_order i (blocks j (take (2 ^ j) f)) ≡ false) × (has_order i (map (shift (2 ^ j)) (blocks j (drop (2 ^ j) f))) ≡ false) = λ i l.
    or_both _ _ (sym (has_append i (blocks j (take (2 ^ j) f)) (map (shift (2 ^ j)) (blocks j (drop (2 ^ j) f)))) ∙ (sym (ap (λ t. has_order i (cond t ((suc j, 0) ∷ []) (blocks j (take (2 ^ j) f) ++ map (shift (2 ^ j)) (blocks j (drop (2 ^ j) f))))) e) ∙ h i l)) in
    (λ i l. (both i l).0, λ i l. sym (has_shift i (2 ^ j) (blocks j (drop (2 ^ j) f))) ∙ (both i l).1)

pub spread : (r x y : ℕ) → r * (x + y) ≡ r * x + r * y
spread r x y = mul-add r x y

doubled : (r a b t u v : ℕ) → b ≡ a + a → t ≡ u + v → a + r * u ≤ r * a → a + r * v ≤ r * a → b + r * t ≤ r * b
doubled r a b t u v eb et l h =
    let s = spread r u v in
    let d = spread r a a in
    let x : r * t ≡ r * (u + v) = ap (λ n. r * n) et in
    let y : r * b ≡ r * (a + a) = ap (λ n. r * n) eb in
    omega (arith, l, h, s, d, x, y, eb)

pub each_range : (j k : ℕ) (f : List Bool) → length f ≡ 2 ^ j → k ≤ j → NoneFrom k (blocks j f) → 2 ^ j + 2 ^ k * free_count f ≤ 2 ^ k * 2 ^ j
each_range j k f len le none = by j f len le none (cases_eq k j)
  where
    top : (j : ℕ) (f : List Bool) → length f ≡ 2 ^ j → k ≡ j → NoneFrom k (blocks j f) → 2 ^ j + 2 ^ k * free_count f ≤ 2 ^ k * 2 ^ j
    top j f len e none =
        let out = some_out f (not_whole j f (none j (omega (arith, e)))) in
        let same : 2 ^ k ≡ 2 ^ j = ap (λ i. 2 ^ i) e in
        let m : 2 ^ k * (free_count f + 1) ≤ 2 ^ k * 2 ^ j = mul-le-mul_left (2 ^ k) (omega (arith, out, len)) in
        let s = spread (2 ^ k) (free_count f) 1 in
        omega (arith, m, same, s)

    by : (j : ℕ) (f : List Bool) → length f ≡ 2 ^ j → k ≤ j → NoneFrom k (blocks j f) → (k ≡ j) ⊎ (k ≡ j → ⊥) → 2 ^ j + 2 ^ k * free_count f ≤ 2 ^ k * 2 ^ j
    by j f len le none (inl e) = top j f len e none
    by zero f len le none (inr ne) = absurd (ne (omega (arith, le)))
    by (suc j) f len le none (inr ne) =
        let small : k ≤ j = omega (arith, le, ne) in
        let parts = parts_none j k f (not_whole (suc j) f (none (suc j) le)) none in
        let a = by j (take (2 ^ j) f) (omega (arith, length-take (2 ^ j) f, len, double j)) small parts.0 (cases_eq k j) in
        let b = by j (drop (2 ^ j) f) (omega (arith, length-drop (2 ^ j) f, len, double j)) small parts.1 (cases_eq k j) in
        let t : free_count f ≡ free_count (take (2 ^ j) f) + free_count (drop (2 ^ j) f) = ap free_count (sym (take-append-drop (2 ^ j) f)) ∙ total_append (take (2 ^ j) f) (drop (2 ^ j) f) in
        let two : 2 ^ suc j ≡ 2 ^ j + 2 ^ j = omega (arith, double j) in
        doubled (2 ^ k) (2 ^ j) (2 ^ suc j) (free_count f) (free_count (take (2 ^ j) f)) (free_count (drop (2 ^ j) f)) two t a b
