-- What is retired after a time takes no more places than the versions since that time needed.
use Rattle.std.proofs.Common.{◌≡◌, ℕ, zero, suc, ◌+◌, ◌≤◌, List, [], ◌∷◌, Bool, true, false, cond, nat_eq, drop, get_or, refl, sym, ap, ◌∙◌, subst, arith}
use Rattle.std.specs.Prelude.{nat_le}
use Rattle.std.proofs.lemmas.Bool.{eq-eqb, eqb-true, leb-true, leb-false}
use Rattle.std.proofs.lemmas.List.{get_or-drop}
use Rattle.buddy_arena.specs.Arrays.{places_of}
use Rattle.buddy_arena.specs.Blocks.{Retired, blocks_of, early, late}
use Rattle.poptrie_set.specs.Past.{retired_at}
use Rattle.poptrie_set.specs.Crowds.{sum}

abbrev held : ℕ → List Retired → ℕ
held o xs = places_of (blocks_of (late o xs))

-- those of one end more
next_end : (o : ℕ) (xs : List Retired) → held o xs ≡ retired_at (suc o) xs + held (suc o) xs
next_end o [] = refl
next_end o (x ∷ xs) = by (nat_le x.end o) (nat_le x.end (suc o)) (nat_eq x.end (suc o)) refl refl refl (next_end o xs)
  where
    by : (a b c : Bool) → nat_le x.end o ≡ a → nat_le x.end (suc o) ≡ b → nat_eq x.end (suc o) ≡ c → held o xs ≡ retired_at (suc o) xs + held (suc o) xs →
        places_of (blocks_of (cond a (late o xs) (x ∷ late o xs))) ≡ cond c (x.block.1 + retired_at (suc o) xs) (retired_at (suc o) xs) + places_of (blocks_of (cond b (late (suc o) xs) (x ∷ late (suc o) xs)))
    by true true false p q r h = h
    by false true true p q r h = omega (arith, h)
    by false false false p q r h = omega (arith, h)
    by true true true p q r h = absurd (omega (arith, leb-true _ _ p, eqb-true _ _ r))
    by true false c p q r h = absurd (omega (arith, leb-true _ _ p, leb-false _ _ q))
    by false true false p q r h = absurd (let e : true ≡ false = sym (eq-eqb x.end (suc o) (omega (arith, leb-false _ _ p, leb-true _ _ q))) ∙ r in cc)
    by false false true p q r h = absurd (omega (arith, leb-false _ _ q, eqb-true _ _ r))

-- nothing was retired at any end from some on
none_held : (n o : ℕ) (xs : List Retired) → ((t : ℕ) → retired_at (suc (o + t)) xs ≤ 0) → held o xs ≡ held (o + n) xs
none_held zero o xs h = let e : o ≡ o + zero = omega arith in ap (λ i. held i xs) e
none_held (suc n) o xs h =
    let e : suc o + n ≡ o + suc n = omega arith in
    let z : retired_at (suc o) xs ≤ 0 = (let q : o + zero ≡ o = omega arith in subst (λ i. retired_at (suc i) xs ≤ 0) q (h zero)) in
    let s = next_end o xs in
    let more = none_held n (suc o) xs (λ t. let q : o + suc t ≡ suc o + t = omega arith in subst (λ i. retired_at (suc i) xs ≤ 0) q (h (suc t))) in
    omega (arith, z, s, more, ap (λ i. held i xs) e)

-- none is retired after the last end of any
abbrev last_end : List Retired → ℕ
last_end [] = 0
last_end (x ∷ xs) = x.end + last_end xs

past_last : (o : ℕ) (xs : List Retired) → last_end xs ≤ o → held o xs ≡ 0
past_last o [] l = refl
past_last o (x ∷ xs) l = by (nat_le x.end o) refl (past_last o xs (omega (arith, l)))
  where
    by : (a : Bool) → nat_le x.end o ≡ a → held o xs ≡ 0 → places_of (blocks_of (cond a (late o xs) (x ∷ late o xs))) ≡ 0
    by true p h = h
    by false p h = absurd (omega (arith, leb-false _ _ p, l))

none_more : (o : ℕ) (xs : List Retired) → ((t : ℕ) → retired_at (suc (o + t)) xs ≤ 0) → held o xs ≡ 0
none_more o xs h = none_held (last_end xs) o xs h ∙ past_last (o + last_end xs) xs (omega arith)

held_sum : (ns : List ℕ) (o : ℕ) (xs : List Retired) → ((t : ℕ) → retired_at (suc (o + t)) xs ≤ get_or ns t 0) → held o xs ≤ sum ns
unfolding sum
held_sum [] o xs h = omega (arith, none_more o xs (λ t. h t))
held_sum (n ∷ ns) o xs h =
    let first : retired_at (suc o) xs ≤ n = (let q : o + zero ≡ o = omega arith in subst (λ i. retired_at (suc i) xs ≤ n) q (h zero)) in
    let rest = held_sum ns (suc o) xs (λ t. let q : o + suc t ≡ suc o + t = omega arith in subst (λ i. retired_at (suc i) xs ≤ get_or ns t 0) q (h (suc t))) in
    omega (arith, first, rest, next_end o xs)

pub late_few : (since : ℕ) (ns : List ℕ) (xs : List Retired) → ((t : ℕ) → retired_at (suc t) xs ≤ get_or ns t 0) → places_of (blocks_of (late since xs)) ≤ sum (drop since ns)
late_few since ns xs h = held_sum (drop since ns) since xs (λ t. let e = get_or-drop since ns t 0 in omega (arith, h (since + t), e))

pub early_late : (since : ℕ) (xs : List Retired) → places_of (blocks_of xs) ≡ places_of (blocks_of (early since xs)) + places_of (blocks_of (late since xs))
early_late since [] = refl
early_late since (x ∷ xs) = by (nat_le x.end since) (early_late since xs)
  where
    by : (a : Bool) → places_of (blocks_of xs) ≡ places_of (blocks_of (early since xs)) + places_of (blocks_of (late since xs)) → places_of (blocks_of (x ∷ xs)) ≡ places_of (blocks_of (cond a (x ∷ early since xs) (early since xs))) + places_of (blocks_of (cond a (late since xs) (x ∷ late since xs)))
    by true h = omega (arith, h)
    by false h = omega (arith, h)
