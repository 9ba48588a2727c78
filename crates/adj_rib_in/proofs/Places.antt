-- Elements of lists by their places.
use Rattle.std.proofs.Common.{◌≡◌, ℕ, zero, suc, ◌+◌, ◌<◌, List, [], ◌∷◌, ◌++◌, Bool, true, false, cond, not, Some, None, length, refl, sym, ap, ◌∙◌, arith, inl, inr}
use Rattle.std.specs.Prelude.{◌⊎◌, ◌||◌, slice_get, slice_set, position}
use Rattle.std.specs.List.{list_any, position_or_len}
use Rattle.std.proofs.lemmas.Bool.{lt-ltb, le-ltb, cases_lt, cond-true, cond-false}
use Rattle.std.proofs.lemmas.Option.{same_Some}
use Rattle.adj_rib_in.specs.Flat.{KeepsNumbers}

pub got_old : {X : Type 0} (xs ys : List X) → KeepsNumbers xs (xs ++ ys)
got_old [] ys i x h = absurd cc
got_old (z ∷ xs) ys zero x h = h
got_old (z ∷ xs) ys (suc i) x h = got_old xs ys i x h

pub got_new : {X : Type 0} (xs : List X) (y : X) → slice_get (xs ++ y ∷ []) (length xs) ≡ Some y
got_new [] y = refl
got_new (x ∷ xs) y = got_new xs y

pub got_pushed : {X : Type 0} (xs : List X) (y : X) (i : ℕ) (x : X) → slice_get (xs ++ y ∷ []) i ≡ Some x → (slice_get xs i ≡ Some x) ⊎ ((i ≡ length xs) × (y ≡ x))
got_pushed [] y zero x h = inr (refl, same_Some y x h)
got_pushed [] y (suc i) x h = absurd cc
got_pushed (z ∷ xs) y zero x h = inl h
got_pushed (z ∷ xs) y (suc i) x h = elim (got_pushed xs y i x h) [
  | inl g ↦ inl g
  | inr g ↦ inr (ap suc g.0, g.1)
]

pub got_set : {X : Type 0} (xs : List X) (i : ℕ) (y : X) (j : ℕ) (x : X) → slice_get (slice_set xs i y) j ≡ Some x → ((j ≡ i) × (y ≡ x)) ⊎ (slice_get xs j ≡ Some x)
got_set [] i y j x h = inr h
got_set (z ∷ xs) zero y zero x h = inl (refl, same_Some y x h)
got_set (z ∷ xs) zero y (suc j) x h = inr h
got_set (z ∷ xs) (suc i) y zero x h = inr h
got_set (z ∷ xs) (suc i) y (suc j) x h = elim (got_set xs i y j x h) [
  | inl g ↦ inl (ap suc g.0, g.1)
  | inr g ↦ inr g
]

pub got_set_at : {X : Type 0} (xs : List X) (i : ℕ) (y x : X) → slice_get xs i ≡ Some x → slice_get (slice_set xs i y) i ≡ Some y
got_set_at [] i y x h = absurd cc
got_set_at (z ∷ xs) zero y x h = refl
got_set_at (z ∷ xs) (suc i) y x h = got_set_at xs i y x h

pub set_got : {X : Type 0} (xs : List X) (i : ℕ) (y : X) (j : ℕ) (x : X) → slice_get xs j ≡ Some x → (j ≡ i) ⊎ (slice_get (slice_set xs i y) j ≡ Some x)
set_got [] i y j x h = inr h
set_got (z ∷ xs) zero y zero x h = inl refl
set_got (z ∷ xs) zero y (suc j) x h = inr h
set_got (z ∷ xs) (suc i) y zero x h = inr h
set_got (z ∷ xs) (suc i) y (suc j) x h = elim (set_got xs i y j x h) [
  | inl g ↦ inl (ap suc g)
  | inr g ↦ inr g
]

-- ---- the first place that passes a test

found_or : {X : Type 0} (p : X → Bool) (xs : List X) → position_or_len p xs < length xs → (x : X) × (slice_get xs (position_or_len p xs) ≡ Some x) × (p x ≡ true)
found_or p [] l = absurd (omega (arith, l))
found_or {X = X} p (x ∷ xs) l = by_test (p x) refl l (found_or p xs)
  where
    by_test : (b : Bool) → p x ≡ b → cond (not b) (1 + position_or_len p xs) 0 < suc (length xs) → (position_or_len p xs < length xs → (z : X) × (slice_get xs (position_or_len p xs) ≡ Some z) × (p z ≡ true)) → (z : X) × (slice_get (x ∷ xs) (cond (not b) (1 + position_or_len p xs) 0) ≡ Some z) × (p z ≡ true)
    by_test true t m ih = (x, refl, t)
    by_test false t m ih = let f = ih (omega (arith, m)) in let e : 1 + position_or_len p xs ≡ suc (position_or_len p xs) = omega arith in (f.0, ap (slice_get (x ∷ xs)) e ∙ f.1, f.2)

not_before : {X : Type 0} (p : X → Bool) (xs : List X) (i : ℕ) (x : X) → slice_get xs i ≡ Some x → p x ≡ true → position_or_len p xs < length xs
not_before p [] i x h t = absurd cc
not_before p (z ∷ xs) zero x h t = by_test (p z) refl
  where
    by_test : (b : Bool) → p z ≡ b → cond (not b) (1 + position_or_len p xs) 0 < suc (length xs)
    by_test true u = omega arith
    by_test false u = let e : z ≡ x = same_Some z x h in let y : p z ≡ true = ap p e ∙ t in absurd cc
not_before p (z ∷ xs) (suc j) x h t = by_test (p z) (not_before p xs j x h t)
  where
    by_test : (b : Bool) → position_or_len p xs < length xs → cond (not b) (1 + position_or_len p xs) 0 < suc (length xs)
    by_test true u = omega arith
    by_test false u = omega (arith, u)

pub position_found : {X : Type 0} (p : X → Bool) (xs : List X) (n : ℕ) → position p xs ≡ Some n → (x : X) × (slice_get xs n ≡ Some x) × (p x ≡ true)
position_found p xs n e = elim (cases_lt (position_or_len p xs) (length xs)) [
  | inl h ↦ let f = found_or p xs h in let i : position_or_len p xs ≡ n = same_Some _ _ (sym (cond-true _ _ _ (lt-ltb _ _ h)) ∙ e) in (f.0, ap (slice_get xs) (sym i) ∙ f.1, f.2)
  | inr h ↦ let y : None ≡ Some n = sym (cond-false _ _ _ (le-ltb _ _ h)) ∙ e in absurd cc
]

pub position_none : {X : Type 0} (p : X → Bool) (xs : List X) → position p xs ≡ None → (i : ℕ) (x : X) → slice_get xs i ≡ Some x → p x ≡ false
position_none p xs e i x h = by_test (p x) refl
  where
    by_test : (b : Bool) → p x ≡ b → b ≡ false
    by_test true t = let y : Some (position_or_len p xs) ≡ None = sym (cond-true _ _ _ (lt-ltb _ _ (not_before p xs i x h t))) ∙ e in absurd cc
    by_test false t = refl

-- an inserted key's place, and those of the others
pub grown_key : {X : Type 0} (b : Bool) (keys : List X) (x : X) (after : List X) → after ≡ cond b keys (keys ++ x ∷ []) → KeepsNumbers keys after
grown_key true keys x after e i y h = ap (λ ks. slice_get ks i) e ∙ h
grown_key false keys x after e i y h = ap (λ ks. slice_get ks i) e ∙ got_old keys (x ∷ []) i y h

none_any : {X : Type 0} (p : X → Bool) (xs : List X) → list_any p xs ≡ false → (i : ℕ) (x : X) → slice_get xs i ≡ Some x → p x ≡ false
none_any p [] e i x h = absurd cc
none_any p (z ∷ xs) e zero x h = ap p (sym (same_Some z x h)) ∙ by_test (p z) e
  where
    by_test : (b : Bool) → (b || list_any p xs) ≡ false → b ≡ false
    by_test true f = absurd cc
    by_test false f = refl
none_any p (z ∷ xs) e (suc i) x h = none_any p xs (by_test (p z) e) i x h
  where
    by_test : (b : Bool) → (b || list_any p xs) ≡ false → list_any p xs ≡ false
    by_test true f = absurd cc
    by_test false f = f

-- keys that a test tells apart stay so
pub apart_key : {X : Type 0} (eq : X → X → Bool) (keys : List X) (x : X) (after : List X) → ((y z : X) → eq y z ≡ eq z y) → after ≡ cond (list_any (eq x) keys) keys (keys ++ x ∷ [])
    → ((i j : ℕ) (y z : X) → slice_get keys i ≡ Some y → slice_get keys j ≡ Some z → eq y z ≡ true → i ≡ j) → (i j : ℕ) (y z : X) → slice_get after i ≡ Some y → slice_get after j ≡ Some z → eq y z ≡ true → i ≡ j
apart_key {X = X} eq keys x after back e h i j y z g k t = by_any (list_any (eq x) keys) refl e
  where
    differs : list_any (eq x) keys ≡ false → (n : ℕ) (w : X) → slice_get keys n ≡ Some w → eq x w ≡ true → ⊥
    differs a n w l u = let m : eq x w ≡ false = none_any (eq x) keys a n w l in absurd cc

    by_any : (b : Bool) → list_any (eq x) keys ≡ b → after ≡ cond b keys (keys ++ x ∷ []) → i ≡ j
    by_any true a f = h i j y z (ap (λ ks. slice_get ks i) (sym f) ∙ g) (ap (λ ks. slice_get ks j) (sym f) ∙ k) t
    by_any false a f = elim (got_pushed keys x i y (ap (λ ks. slice_get ks i) (sym f) ∙ g)) [
      | inl m ↦ elim (got_pushed keys x j z (ap (λ ks. slice_get ks j) (sym f) ∙ k)) [
        | inl n ↦ h i j y z m n t
        | inr n ↦ absurd (differs a i y m (back x y ∙ (ap (eq y) n.1 ∙ t)))
      ]
      | inr m ↦ elim (got_pushed keys x j z (ap (λ ks. slice_get ks j) (sym f) ∙ k)) [
        | inl n ↦ absurd (differs a j z n (ap (λ w. eq w z) m.1 ∙ t))
        | inr n ↦ m.0 ∙ sym n.0
      ]
    ]
