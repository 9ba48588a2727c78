-- Loops over parts: what is left after a step, at a fault, and at the end.
use Rattle.std.proofs.lemmas.Bool.{eqb-true}
use Rattle.std.specs.Prelude.{◌==◌}
use Rattle.std.proofs.Common.{true, false, ◌≡◌, ℕ, zero, suc, ◌+◌, ◌-◌, ◌≤◌, ◌<◌, List, [], ◌∷◌, ◌++◌, length, Result, Ok, Err, refl, sym, ◌∙◌, arith}
use Rattle.octet_fields.specs.Field.{one_more, times, steps, until_end}

not_empty : (b : ℕ) (bs : List ℕ) → (length (b ∷ bs) == 0) ≡ true → ⊥
not_empty b bs h = let e : length (b ∷ bs) ≡ 0 = eqb-true (length (b ∷ bs)) 0 h in omega arith

-- with what is left, some number of steps gives what all of them give
pub record Left {S F : Type 0} (step : S → List ℕ → Result (S × List ℕ) F) (s : S) (rest : List ℕ) (total : Result S F) : Type 0 where
  pub fuel : ℕ
  pub enough : length rest ≤ fuel
  pub rest_gives : steps step fuel s rest ≡ total

pub left_at_start : {S F : Type 0} (step : S → List ℕ → Result (S × List ℕ) F) (s : S) (bytes : List ℕ) → Left step s bytes (until_end step s bytes)
left_at_start step s bytes = record { fuel = length bytes; enough = omega arith; rest_gives = refl }

left_after_at : {S F : Type 0} (step : S → List ℕ → Result (S × List ℕ) F) (s next : S) (b : ℕ) (bs after : List ℕ) (total : Result S F) (fuel : ℕ)
    → step s (b ∷ bs) ≡ Ok (next, after) → length after < length (b ∷ bs) → length (b ∷ bs) ≤ fuel → steps step fuel s (b ∷ bs) ≡ total → Left step next after total
unfolding steps
left_after_at step s next b bs after total zero h lt le e = absurd (omega arith)
left_after_at step s next b bs after total (suc n) h lt le e =
    let one : steps step (suc n) s (b ∷ bs) ≡ steps step n next after = rw h refl in
    record { fuel = n; enough = omega arith; rest_gives = sym one ∙ e }

pub left_after : {S F : Type 0} (step : S → List ℕ → Result (S × List ℕ) F) (s next : S) (rest after : List ℕ) (total : Result S F)
    → step s rest ≡ Ok (next, after) → length after < length rest → Left step s rest total → Left step next after total
unfolding steps
left_after step s next [] after total h lt l = absurd (omega arith)
left_after step s next (b ∷ bs) after total h lt l = left_after_at step s next b bs after total l.fuel h lt l.enough l.rest_gives

left_at_fault_at : {S F : Type 0} (step : S → List ℕ → Result (S × List ℕ) F) (s : S) (b : ℕ) (bs : List ℕ) (f : F) (total : Result S F) (fuel : ℕ)
    → step s (b ∷ bs) ≡ Err f → length (b ∷ bs) ≤ fuel → steps step fuel s (b ∷ bs) ≡ total → total ≡ Err f
unfolding steps
left_at_fault_at step s b bs f total zero h le e = absurd (omega arith)
left_at_fault_at step s b bs f total (suc n) h le e =
    let one : steps step (suc n) s (b ∷ bs) ≡ Err f = rw h refl in
    sym e ∙ one

pub left_at_fault : {S F : Type 0} (step : S → List ℕ → Result (S × List ℕ) F) (s : S) (rest : List ℕ) (f : F) (total : Result S F)
    → step s rest ≡ Err f → false ≡ (length rest == 0) → Left step s rest total → total ≡ Err f
unfolding steps
left_at_fault step s [] f total h lt l = absurd cc
left_at_fault step s (b ∷ bs) f total h lt l = left_at_fault_at step s b bs f total l.fuel h l.enough l.rest_gives

pub left_at_end : {S F : Type 0} (step : S → List ℕ → Result (S × List ℕ) F) (s : S) (rest : List ℕ) (total : Result S F) → true ≡ (length rest == 0) → Left step s rest total → total ≡ Ok s
unfolding steps
left_at_end step s [] total h l = sym (l.rest_gives)
left_at_end step s (b ∷ bs) total h l = absurd (not_empty b bs (sym h))

-- ---- where each step takes one more value

pub one_more_left : {A F : Type 0} (item : List ℕ → Result (A × List ℕ) F) (front : List A) (x : A) (rest after : List ℕ) (total : Result (List A) F)
    → item rest ≡ Ok (x, after) → length after < length rest → Left (one_more item) front rest total → Left (one_more item) (front ++ x ∷ []) after total
one_more_left item front x rest after total h lt l =
    left_after (one_more item) front (front ++ x ∷ []) rest after total (rw h refl) lt l

pub one_more_fault : {A F : Type 0} (item : List ℕ → Result (A × List ℕ) F) (front : List A) (rest : List ℕ) (f : F) (total : Result (List A) F)
    → item rest ≡ Err f → false ≡ (length rest == 0) → Left (one_more item) front rest total → total ≡ Err f
one_more_fault item front rest f total h lt l =
    left_at_fault (one_more item) front rest f total (rw h refl) lt l

-- ---- a count of steps

pub times_next : {S F : Type 0} (step : S → List ℕ → Result (S × List ℕ) F) (count i : ℕ) (s next : S) (rest after : List ℕ) (total : Result (S × List ℕ) F)
    → i < count → step s rest ≡ Ok (next, after) → times step (count - i) s rest ≡ total → times step (count - (i + 1)) next after ≡ total
unfolding times
times_next step count i s next rest after total lt h so_far =
    let k : count - i ≡ suc (count - (i + 1)) = omega arith in
    let one : times step (count - i) s rest ≡ times step (count - (i + 1)) next after = rw (k, h) refl in
    sym one ∙ so_far

pub times_fault : {S F : Type 0} (step : S → List ℕ → Result (S × List ℕ) F) (count i : ℕ) (s : S) (rest : List ℕ) (f : F) (total : Result (S × List ℕ) F)
    → i < count → step s rest ≡ Err f → times step (count - i) s rest ≡ total → total ≡ Err f
unfolding times
times_fault step count i s rest f total lt h so_far =
    let k : count - i ≡ suc (count - (i + 1)) = omega arith in
    let one : times step (count - i) s rest ≡ Err f = rw (k, h) refl in
    sym so_far ∙ one

pub times_done : {S F : Type 0} (step : S → List ℕ → Result (S × List ℕ) F) (count i : ℕ) (s : S) (rest : List ℕ) (total : Result (S × List ℕ) F)
    → count ≤ i → times step (count - i) s rest ≡ total → total ≡ Ok (s, rest)
unfolding times
times_done step count i s rest total le so_far =
    let k : count - i ≡ 0 = omega arith in
    let one : times step (count - i) s rest ≡ Ok (s, rest) = rw k refl in
    sym so_far ∙ one

pub more_next : {A F : Type 0} (item : List ℕ → Result (A × List ℕ) F) (count i : ℕ) (front items : List A) (x : A) (rest after : List ℕ) (total : Result (List A × List ℕ) F)
    → i < count → item rest ≡ Ok (x, after) → items ≡ front ++ x ∷ [] → times (one_more item) (count - i) front rest ≡ total → times (one_more item) (count - (i + 1)) items after ≡ total
more_next item count i front items x rest after total lt h e so_far =
    rw e (times_next (one_more item) count i front (front ++ x ∷ []) rest after total lt (rw h refl) so_far)

pub more_fault : {A F : Type 0} (item : List ℕ → Result (A × List ℕ) F) (count i : ℕ) (front : List A) (rest : List ℕ) (f : F) (total : Result (List A × List ℕ) F)
    → i < count → item rest ≡ Err f → times (one_more item) (count - i) front rest ≡ total → total ≡ Err f
more_fault item count i front rest f total lt h so_far =
    times_fault (one_more item) count i front rest f total lt (rw h refl) so_far
