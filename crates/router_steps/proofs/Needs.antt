-- What the versions of a family needed.
use Rattle.std.proofs.Common.{◌≡◌, ℕ, zero, suc, ◌+◌, ◌≤◌, List, [], ◌∷◌, ◌++◌, Bool, true, false, cond, drop, length, length-append, refl, sym, ap, ◌∙◌, arith}
use Rattle.table_model.specs.declared.family.Family.{Family}
use Rattle.table_model.specs.Entries.{Entries}
use Rattle.poptrie_set.specs.Crowds.{sum}
use Rattle.step_script.specs.Machine.{World, changes_family, changes_before, needs_between}
use Rattle.router_steps.specs.Paused.{needs_before}

sum_append : (xs ys : List ℕ) → sum (xs ++ ys) ≡ sum xs + sum ys
unfolding sum
sum_append [] ys = omega arith
sum_append (x ∷ xs) ys = omega (arith, sum_append xs ys)

drop_all : (xs : List ℕ) (n : ℕ) → length xs ≡ n → drop n xs ≡ []
drop_all [] zero e = refl
drop_all [] (suc n) e = absurd (omega (arith, e))
drop_all (x ∷ xs) zero e = absurd (omega (arith, e))
drop_all (x ∷ xs) (suc n) e = drop_all xs n (omega (arith, e))

drop_before : (xs ys : List ℕ) (n : ℕ) → n ≤ length xs → drop n (xs ++ ys) ≡ drop n xs ++ ys
drop_before xs ys zero h = refl
drop_before [] ys (suc n) h = absurd (omega (arith, h))
drop_before (x ∷ xs) ys (suc n) h = drop_before xs ys n (omega (arith, h))

module _ (w : World) (f : Family) (need : Entries → ℕ) where
  needs_step : (m : ℕ) → needs_before w f need (suc m) ≡ needs_before w f need m ++ cond (changes_family f (w.changed m)) (need (w.routes m) ∷ []) []
  unfolding needs_before
  needs_step m = refl

  changes_step : (m : ℕ) → changes_before w f (suc m) ≡ cond (changes_family f (w.changed m)) 1 0 + changes_before w f m
  unfolding changes_before
  changes_step m = refl

  between_none : (from : ℕ) → needs_between w f need from 0 ≡ 0
  unfolding needs_between
  between_none from = refl

  between_step : (from gap : ℕ) → needs_between w f need from (suc gap) ≡ cond (changes_family f (w.changed (from + gap))) (need (w.routes (from + suc gap))) 0 + needs_between w f need from gap
  unfolding needs_between
  between_step from gap = refl

  nothing_before : (needs_before w f need 0 ≡ []) × (changes_before w f 0 ≡ 0)
  unfolding needs_before changes_before
  nothing_before = (refl, refl)

  many_of : (b : Bool) (n : ℕ) → length (cond b (n ∷ []) []) ≡ cond b 1 0
  many_of true n = refl
  many_of false n = refl

  sum_of : (b : Bool) (n : ℕ) → sum (cond b (n ∷ []) []) ≡ cond b n 0
  unfolding sum
  sum_of true n = omega arith
  sum_of false n = refl

  sum_none : sum [] ≡ 0
  unfolding sum
  sum_none = refl

  -- one for each change
  pub many_needs : (n : ℕ) → length (needs_before w f need n) ≡ changes_before w f n
  many_needs zero = ap (λ (xs : List ℕ). length xs) nothing_before.0 ∙ sym nothing_before.1
  many_needs (suc m) =
      ap (λ (xs : List ℕ). length xs) (needs_step m)
      ∙ (length-append (needs_before w f need m) (cond (changes_family f (w.changed m)) (need (w.routes m) ∷ []) [])
      ∙ omega (arith, many_needs m, many_of (changes_family f (w.changed m)) (need (w.routes m)), changes_step m))

  pub changes_grow : (from gap now : ℕ) → from + gap ≡ now → changes_before w f from ≤ changes_before w f now
  changes_grow from zero now e = let q : changes_before w f from ≡ changes_before w f now = ap (changes_before w f) (omega (arith, e)) in omega (arith, q)
  changes_grow from (suc gap) zero e = absurd (omega (arith, e))
  changes_grow from (suc gap) (suc m) e = omega (arith, changes_grow from gap m (omega (arith, e)), changes_step m)

  one_more : (b : Bool) → cond b 1 0 ≤ 1
  one_more true = omega arith
  one_more false = omega arith

  -- no more than there were events
  pub changes_few : (n : ℕ) → changes_before w f n ≤ n
  changes_few zero = omega (arith, nothing_before.1)
  changes_few (suc m) = omega (arith, changes_few m, changes_step m, one_more (changes_family f (w.changed m)))

  -- a change of the other family changes no need
  module _ (stays : (n : ℕ) → changes_family f (w.changed n) ≡ false → need (w.routes (suc n)) ≡ need (w.routes n)) where
    pub needs_since : (from gap now : ℕ) → from + gap ≡ now → sum (drop (changes_before w f from) (needs_before w f need now)) + need (w.routes now) ≡ need (w.routes from) + needs_between w f need from gap
    needs_since from zero now e =
        let q : from ≡ now = omega (arith, e) in
        let z : sum (drop (changes_before w f from) (needs_before w f need now)) ≡ 0 = ap sum (drop_all (needs_before w f need now) (changes_before w f from) (many_needs now ∙ ap (changes_before w f) (sym q))) ∙ sum_none in
        let r : need (w.routes now) ≡ need (w.routes from) = ap (λ (n : ℕ). need (w.routes n)) (sym q) in
        omega (arith, z, r, between_none from)
    needs_since from (suc gap) zero e = absurd (omega (arith, e))
    needs_since from (suc gap) (suc m) e = by (changes_family f (w.changed m)) refl (needs_since from gap m (omega (arith, e)))
      where
        at : from + gap ≡ m
        at = omega (arith, e)

        parts : sum (drop (changes_before w f from) (needs_before w f need (suc m))) ≡ sum (drop (changes_before w f from) (needs_before w f need m)) + cond (changes_family f (w.changed m)) (need (w.routes m)) 0
        parts =
            ap (λ (xs : List ℕ). sum (drop (changes_before w f from) xs)) (needs_step m)
            ∙ (ap sum (drop_before (needs_before w f need m) (cond (changes_family f (w.changed m)) (need (w.routes m) ∷ []) []) (changes_before w f from) (omega (arith, changes_grow from gap m at, many_needs m)))
            ∙ (sum_append (drop (changes_before w f from) (needs_before w f need m)) (cond (changes_family f (w.changed m)) (need (w.routes m) ∷ []) [])
            ∙ ap (λ (n : ℕ). sum (drop (changes_before w f from) (needs_before w f need m)) + n) (sum_of (changes_family f (w.changed m)) (need (w.routes m)))))

        step : needs_between w f need from (suc gap) ≡ cond (changes_family f (w.changed m)) (need (w.routes (suc m))) 0 + needs_between w f need from gap
        step =
            let q : from + suc gap ≡ suc m = omega (arith, e) in
            between_step from gap
            ∙ (ap (λ (n : ℕ). cond (changes_family f (w.changed n)) (need (w.routes (from + suc gap))) 0 + needs_between w f need from gap) at
            ∙ ap (λ (n : ℕ). cond (changes_family f (w.changed m)) (need (w.routes n)) 0 + needs_between w f need from gap) q)

        by : (b : Bool) → changes_family f (w.changed m) ≡ b → sum (drop (changes_before w f from) (needs_before w f need m)) + need (w.routes m) ≡ need (w.routes from) + needs_between w f need from gap → sum (drop (changes_before w f from) (needs_before w f need (suc m))) + need (w.routes (suc m)) ≡ need (w.routes from) + needs_between w f need from (suc gap)
        by true i so_far =
            let p : cond (changes_family f (w.changed m)) (need (w.routes m)) 0 ≡ need (w.routes m) = ap (λ (b : Bool). cond b (need (w.routes m)) 0) i in
            let q : cond (changes_family f (w.changed m)) (need (w.routes (suc m))) 0 ≡ need (w.routes (suc m)) = ap (λ (b : Bool). cond b (need (w.routes (suc m))) 0) i in
            omega (arith, parts, step, p, q, so_far)
        by false i so_far =
            let p : cond (changes_family f (w.changed m)) (need (w.routes m)) 0 ≡ 0 = ap (λ (b : Bool). cond b (need (w.routes m)) 0) i in
            let q : cond (changes_family f (w.changed m)) (need (w.routes (suc m))) 0 ≡ 0 = ap (λ (b : Bool). cond b (need (w.routes (suc m))) 0) i in
            omega (arith, parts, step, p, q, so_far, stays m i)
